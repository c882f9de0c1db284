-- Readers that stop at the first byte with which no good text goes on.
use Rattle.std.proofs.Common.{◌≡◌, ℕ, suc, ◌+◌, ◌-◌, ◌*◌, ◌≤◌, min, Bool, true, false, cond, ◌&&◌, not, eqb, leb, ◌⊎◌, List, [], ◌∷◌, ◌++◌, length, get_or, Result, Ok, Err, inl, inr, refl, sym, ap, ◌∙◌, subst, arith, append_assoc, length-append}
use Rattle.std.specs.Fmt.{decimal}
use Rattle.std.specs.Char.{is_ascii_digit}
use Rattle.std.proofs.lemmas.Bool.{false≢true, cases_Bool, cases_lt, eq-eqb, eqb-true}
use Rattle.sv_journal.specs.Reading.{◌>>=◌, end_at, word_at, keyword_or, keyword_from, keyword_at, goes_on, digits_at, number_at}
use Rattle.sv_journal.specs.ReadingLines.{word_then, keyword_then, number_then, begins_with_digit}
use Rattle.sv_journal.proofs.Results.{ok_pair, never}
use Rattle.sv_journal.proofs.TokenLaws.{chosen, ends}
use Rattle.sv_journal.proofs.NumberLaws.{IsLimit, number_takes, number_runs, number_again}
use Rattle.sv_journal.proofs.LineParts.{keyword_takes}

-- where h stops: what was read before is the prefix of a text that h reads, and no such text goes on with the next byte
pub record Failure {X : Type 0} (h : List ℕ → Result X ℕ) (Q : List ℕ → Bool) (bs : List ℕ) (left : ℕ) : Type 0 where
  pub front : List ℕ
  pub bad : List ℕ
  pub parts : bs ≡ front ++ bad
  pub size : left ≡ length bad
  pub local : (b : ℕ) (more other : List ℕ) → bad ≡ b ∷ more → h (front ++ b ∷ other) ≡ Err (suc (length other))
  pub tail : List ℕ
  pub value : X
  pub completed : h (front ++ tail) ≡ Ok value
  pub has : Q (front ++ tail) ≡ true

-- h reads some text that begins as Q says, and stops only so
pub record Sharp {X : Type 0} (h : List ℕ → Result X ℕ) (Q : List ℕ → Bool) : Type 0 where
  pub sample : List ℕ
  pub value : X
  pub reads : h sample ≡ Ok value
  pub has : Q sample ≡ true
  pub fails : (bs : List ℕ) (left : ℕ) → h bs ≡ Err left → Failure h Q bs left

abbrev pub any : List ℕ → Bool
any bs = true

-- nothing, or a space
abbrev pub plain : List ℕ → Bool
plain [] = true
plain (b ∷ bs) = eqb b 32

pub space : (b : ℕ) (bs : List ℕ) (f : List ℕ → Bool) (t : Bool) → f (32 ∷ bs) ≡ t → eqb b 32 ≡ true → f (b ∷ bs) ≡ t
space b bs f t e h = ap (λ (c : ℕ). f (c ∷ bs)) (eqb-true b 32 h) ∙ e

pub plain_no_digit : (bs : List ℕ) → plain bs ≡ true → begins_with_digit bs ≡ false
plain_no_digit [] e = refl
plain_no_digit (b ∷ bs) e = space b bs begins_with_digit false refl e

pub plain_ends : (bs : List ℕ) → plain bs ≡ true → ends bs ≡ true
plain_ends [] e = refl
plain_ends (b ∷ bs) e = space b bs ends true refl e

abbrev left_of : {X : Type 0} → Result X ℕ → ℕ
left_of (Ok x) = 0
left_of (Err left) = left

pub err_value : {X : Type 0} (a b : ℕ) → ◌≡◌ {A = Result X ℕ} (Err a) (Err b) → a ≡ b
err_value {X} a b e = ap (λ (r : Result X ℕ). left_of r) e

pub cons_head : (a b : ℕ) (xs ys : List ℕ) → a ∷ xs ≡ b ∷ ys → a ≡ b
cons_head a b xs ys e = ap (λ (l : List ℕ). get_or l 0 0) e

pub at_head : {X : Type 0} (h : List ℕ → Result X ℕ) (Q : List ℕ → Bool) (b : ℕ) (bs : List ℕ) (left : ℕ) → left ≡ suc (length bs) → ((other : List ℕ) → h (b ∷ other) ≡ Err (suc (length other)))
    → (tail : List ℕ) (value : X) → h tail ≡ Ok value → Q tail ≡ true → Failure h Q (b ∷ bs) left
at_head h Q b bs left e local tail value completed has = record {
  front = [];
  bad = b ∷ bs;
  parts = refl;
  size = e;
  local = λ c more other q. ap (λ (x : ℕ). h (x ∷ other)) (sym (cons_head b c bs more q)) ∙ local other;
  tail = tail;
  value = value;
  completed = completed;
  has = has;
}

pub at_nothing : {X : Type 0} (h : List ℕ → Result X ℕ) (Q : List ℕ → Bool) (left : ℕ) → left ≡ 0 → (tail : List ℕ) (value : X) → h tail ≡ Ok value → Q tail ≡ true → Failure h Q [] left
at_nothing h Q left e tail value completed has = record {
  front = [];
  bad = [];
  parts = refl;
  size = e;
  local = λ c more other q. cc q;
  tail = tail;
  value = value;
  completed = completed;
  has = has;
}

-- what h' reads after this prefix, h reads
pub behind : {X : Type 0} (h next : List ℕ → Result X ℕ) (Q P : List ℕ → Bool) (begin bs rest : List ℕ) (left : ℕ) → bs ≡ begin ++ rest → (f : Failure next P rest left)
    → ((x : ℕ) (more other : List ℕ) → f.bad ≡ x ∷ more → h (begin ++ (f.front ++ x ∷ other)) ≡ next (f.front ++ x ∷ other))
    → h (begin ++ (f.front ++ f.tail)) ≡ next (f.front ++ f.tail) → Q (begin ++ (f.front ++ f.tail)) ≡ true → Failure h Q bs left
behind h next Q P begin bs rest left is f same same_tail has = record {
  front = begin ++ f.front;
  bad = f.bad;
  parts = is ∙ ap (λ (l : List ℕ). begin ++ l) f.parts ∙ sym (append_assoc begin f.front f.bad);
  size = f.size;
  local = λ x more other q. ap h (append_assoc begin f.front (x ∷ other)) ∙ same x more other q ∙ f.local x more other q;
  tail = f.tail;
  value = f.value;
  completed = ap h (append_assoc begin f.front f.tail) ∙ same_tail ∙ f.completed;
  has = ap Q (append_assoc begin f.front f.tail) ∙ has;
}

pub sharp_end : {X : Type 0} (x : X) → Sharp (end_at x) plain
sharp_end x = record {
  sample = [];
  value = x;
  reads = refl;
  has = refl;
  fails = fails;
}
  where
    fails : (bs : List ℕ) (left : ℕ) → end_at x bs ≡ Err left → Failure (end_at x) plain bs left
    fails [] left e = absurd (never left x (sym e))
    fails (b ∷ bs) left e = at_head (end_at x) plain b bs left (sym (err_value (suc (length bs)) left e)) (λ other. refl) [] x refl refl

word_again : (w x : List ℕ) → word_at w (w ++ x) ≡ Ok x
word_again [] x = refl
word_again (c ∷ w) x = rw (eq-eqb c c refl) (word_again w x)

word_step : {X : Type 0} (h : List ℕ → Result X ℕ) (b w : ℕ) (ws x : List ℕ) → eqb b w ≡ true → word_then (w ∷ ws) h (b ∷ x) ≡ word_then ws h x
word_step h b w ws x e = rw e refl

word_fails : {X : Type 0} (w : ℕ) (ws : List ℕ) (h : List ℕ → Result X ℕ) (P Q : List ℕ → Bool) → ((x : List ℕ) → Q (w ∷ x) ≡ true) → Sharp h P → Sharp (word_then ws h) any
    → (bs : List ℕ) (left : ℕ) → word_then (w ∷ ws) h bs ≡ Err left → Failure (word_then (w ∷ ws) h) Q bs left
word_fails w ws h P Q q s again [] left e =
    at_nothing (word_then (w ∷ ws) h) Q left (sym (err_value 0 left e)) (w ∷ (ws ++ s.sample)) s.value (ap (λ r. r >>= h) (word_again (w ∷ ws) s.sample) ∙ s.reads) (q (ws ++ s.sample))
word_fails w ws h P Q q s again (b ∷ bs) left e = elim (cases_Bool (eqb b w)) [
  | inl t ↦
      let f = again.fails bs left (sym (word_step h b w ws bs t) ∙ e) in
      behind (word_then (w ∷ ws) h) (word_then ws h) Q any (b ∷ []) (b ∷ bs) bs left refl f
      (λ x more other q. word_step h b w ws (f.front ++ x ∷ other) t) (word_step h b w ws (f.front ++ f.tail) t)
      (ap (λ (c : ℕ). Q (c ∷ (f.front ++ f.tail))) (eqb-true b w t) ∙ q (f.front ++ f.tail))
  | inr t ↦
      at_head (word_then (w ∷ ws) h) Q b bs left (sym (err_value (suc (length bs)) left (rw t at e))) (λ other. rw t refl)
      (w ∷ (ws ++ s.sample)) s.value (ap (λ r. r >>= h) (word_again (w ∷ ws) s.sample) ∙ s.reads) (q (ws ++ s.sample))
]

pub sharp_word_any : {X : Type 0} (ws : List ℕ) (h : List ℕ → Result X ℕ) (P : List ℕ → Bool) → Sharp h P → Sharp (word_then ws h) any
sharp_word_any [] h P s = record {
  sample = s.sample;
  value = s.value;
  reads = s.reads;
  has = refl;
  fails = λ bs left e. let f = s.fails bs left e in record { front = f.front; bad = f.bad; parts = f.parts; size = f.size; local = f.local; tail = f.tail; value = f.value; completed = f.completed; has = refl };
}
sharp_word_any (w ∷ ws) h P s = record {
  sample = w ∷ (ws ++ s.sample);
  value = s.value;
  reads = ap (λ r. r >>= h) (word_again (w ∷ ws) s.sample) ∙ s.reads;
  has = refl;
  fails = word_fails w ws h P any (λ x. refl) s (sharp_word_any ws h P s);
}

pub sharp_word : {X : Type 0} (w : ℕ) (ws : List ℕ) (h : List ℕ → Result X ℕ) (P Q : List ℕ → Bool) → ((x : List ℕ) → Q (w ∷ x) ≡ true) → Sharp h P → Sharp (word_then (w ∷ ws) h) Q
sharp_word w ws h P Q q s = record {
  sample = w ∷ (ws ++ s.sample);
  value = s.value;
  reads = ap (λ r. r >>= h) (word_again (w ∷ ws) s.sample) ∙ s.reads;
  has = q (ws ++ s.sample);
  fails = word_fails w ws h P Q q s (sharp_word_any ws h P s);
}

-- keywords
word_left : (w bs : List ℕ) (left : ℕ) → word_at w bs ≡ Err left → left ≤ length bs
word_left [] bs left e = absurd (never left bs (sym e))
word_left (w ∷ ws) [] left e = let h = err_value 0 left e in omega arith
word_left (w ∷ ws) (b ∷ bs) left e = elim (chosen (eqb b w) _ _ _ e) [
  | inl p ↦ let h = word_left ws bs left p.1 in omega arith
  | inr p ↦ let h = err_value (suc (length bs)) left p.1 in omega arith
]

pub record Shifted {X : Type 0} (r : Result X ℕ) (left n m : ℕ) : Type 0 where
  pub left_there : ℕ
  pub is : r ≡ Err left_there
  pub shift : left_there + n ≡ left + m

word_local : (w front : List ℕ) (b : ℕ) (more other : List ℕ) (left : ℕ) → word_at w (front ++ b ∷ more) ≡ Err left → suc (length more) ≤ left
    → Shifted (word_at w (front ++ b ∷ other)) left (length more) (length other)
word_local [] front b more other left e h = absurd (never left (front ++ b ∷ more) (sym e))
word_local (w ∷ ws) [] b more other left e h = elim (chosen (eqb b w) _ _ _ e) [
  | inl p ↦ absurd (let l = word_left ws more left p.1 in omega arith)
  | inr p ↦ let l = err_value (suc (length more)) left p.1 in record { left_there = suc (length other); is = rw p.0 refl; shift = omega arith }
]
word_local (w ∷ ws) (c ∷ front) b more other left e h = elim (chosen (eqb c w) _ _ _ e) [
  | inl p ↦ let s = word_local ws front b more other left p.1 h in record { left_there = s.left_there; is = rw p.0 s.is; shift = s.shift }
  | inr p ↦
      let l = err_value (suc (length (front ++ b ∷ more))) left p.1 in
      record {
        left_there = suc (length (front ++ b ∷ other));
        is = rw p.0 refl;
        shift = let x = length-append front (b ∷ more) in let y = length-append front (b ∷ other) in omega arith;
      }
]

least_case : {K : Type 0} (k : K) (others : ℕ → Result (K × List ℕ) ℕ) (least left : ℕ) (r : Result (List ℕ) ℕ) → keyword_or k others least r ≡ Err left
    → ((n : ℕ) → others n ≡ Err left → left ≤ n) → (l : ℕ) × (r ≡ Err l) × (left ≤ l) × (left ≤ least) × (others (min least l) ≡ Err left)
least_case k others least left (Ok rest) e next = absurd (never left (k, rest) (sym e))
least_case k others least left (Err l) e next = let h = next (min least l) e in (l, refl, omega arith, omega arith, e)

keyword_least : {K : Type 0} (spelling : K → List ℕ) (ks : List K) (least : ℕ) (bs : List ℕ) (left : ℕ) → keyword_from spelling ks least bs ≡ Err left → left ≤ least
keyword_least spelling [] least bs left e = let h = err_value least left e in omega arith
keyword_least spelling (k ∷ ks) least bs left e =
    (least_case k (λ n. keyword_from spelling ks n bs) least left (word_at (spelling k) bs) e (λ n e. keyword_least spelling ks n bs left e)).3

keyword_local : {K : Type 0} (spelling : K → List ℕ) (ks : List K) (least least_there : ℕ) (front : List ℕ) (b : ℕ) (more other : List ℕ) (left : ℕ)
    → keyword_from spelling ks least (front ++ b ∷ more) ≡ Err left → suc (length more) ≤ left → least_there + length more ≡ least + length other
    → Shifted (keyword_from spelling ks least_there (front ++ b ∷ other)) left (length more) (length other)
keyword_local spelling [] least least_there front b more other left e h s =
    let l = err_value least left e in
    record { left_there = least_there; is = refl; shift = omega arith }
keyword_local spelling (k ∷ ks) least least_there front b more other left e h s =
    let bs = front ++ b ∷ more in
    let there = front ++ b ∷ other in
    let c = least_case k (λ n. keyword_from spelling ks n bs) least left (word_at (spelling k) bs) e (λ n e. keyword_least spelling ks n bs left e) in
    let w = word_local (spelling k) front b more other c.0 c.1 (let x = c.2 in omega arith) in
    let shift = w.shift in
    let both : min least_there w.left_there + length more ≡ min least c.0 + length other = omega arith in
    let rest = keyword_local spelling ks (min least c.0) (min least_there w.left_there) front b more other left c.4 h both in
    record {
      left_there = rest.left_there;
      is = ap (keyword_or k (λ n. keyword_from spelling ks n there) least_there) w.is ∙ rest.is;
      shift = rest.shift;
    }

pub record WordSplit (w bs : List ℕ) (left : ℕ) : Type 0 where
  pub front : List ℕ
  pub rest : List ℕ
  pub bad : List ℕ
  pub word : w ≡ front ++ rest
  pub parts : bs ≡ front ++ bad
  pub size : left ≡ length bad

word_split : (w bs : List ℕ) (left : ℕ) → word_at w bs ≡ Err left → WordSplit w bs left
word_split [] bs left e = absurd (never left bs (sym e))
word_split (w ∷ ws) [] left e = record { front = []; rest = w ∷ ws; bad = []; word = refl; parts = refl; size = sym (err_value 0 left e) }
word_split (w ∷ ws) (b ∷ bs) left e = elim (chosen (eqb b w) _ _ _ e) [
  | inl p ↦
      let s = word_split ws bs left p.1 in
      record { front = w ∷ s.front; rest = s.rest; bad = s.bad; word = ap (λ (l : List ℕ). w ∷ l) s.word; parts = ap (λ (x : ℕ). x ∷ bs) (eqb-true b w p.0) ∙ ap (λ (l : List ℕ). w ∷ l) s.parts; size = s.size }
  | inr p ↦ record { front = []; rest = w ∷ ws; bad = b ∷ bs; word = refl; parts = refl; size = sym (err_value (suc (length bs)) left p.1) }
]

attained : {K : Type 0} (spelling : K → List ℕ) (ks : List K) (least : ℕ) (bs : List ℕ) (left : ℕ) → keyword_from spelling ks least bs ≡ Err left
    → (left ≡ least) ⊎ ((k : K) × (word_at (spelling k) bs ≡ Err left))
attained spelling [] least bs left e = inl (sym (err_value least left e))
attained spelling (k ∷ ks) least bs left e =
    let c = least_case k (λ n. keyword_from spelling ks n bs) least left (word_at (spelling k) bs) e (λ n e. keyword_least spelling ks n bs left e) in
    elim (attained spelling ks (min least c.0) bs left c.4) [
      | inl m ↦ elim (cases_lt least c.0) [
        | inl h ↦ inl (omega arith)
        | inr h ↦ let same : left ≡ c.0 = omega arith in inr (k, c.1 ∙ ap Err (sym same))
      ]
      | inr p ↦ inr p
    ]

pub sharp_keyword : {K X : Type 0} (spelling : K → List ℕ) (ks : List K) (one : K) (h : K → List ℕ → Result X ℕ) (Q : List ℕ → Bool)
    → ((k : K) (rest : List ℕ) → keyword_at spelling ks (spelling k ++ rest) ≡ Ok (k, rest)) → ((k : K) (rest : List ℕ) → Q (spelling k ++ rest) ≡ true)
    → ((k : K) → Sharp (h k) any) → Sharp (keyword_then spelling ks h) Q
sharp_keyword {K} {X} spelling ks one h Q again q sharp = record {
  sample = spelling one ++ (sharp one).sample;
  value = (sharp one).value;
  reads = goes one (sharp one).sample ∙ (sharp one).reads;
  has = q one (sharp one).sample;
  fails = λ bs left e. by_word bs left (keyword_at spelling ks bs) refl e;
}
  where
    goes : (k : K) (rest : List ℕ) → keyword_then spelling ks h (spelling k ++ rest) ≡ h k rest
    goes k rest = ap (λ (r : Result (K × List ℕ) ℕ). r >>= (λ r. h r.0 r.1)) (again k rest)

    stops_there : (front : List ℕ) (b : ℕ) (more other : List ℕ) → keyword_at spelling ks (front ++ b ∷ more) ≡ Err (suc (length more)) → keyword_then spelling ks h (front ++ b ∷ other) ≡ Err (suc (length other))
    stops_there front b more other e =
        let x = length-append front (b ∷ more) in
        let y = length-append front (b ∷ other) in
        let s = keyword_local spelling ks (length (front ++ b ∷ more)) (length (front ++ b ∷ other)) front b more other (suc (length more)) e (omega arith) (omega arith) in
        let shift = s.shift in
        let same : s.left_there ≡ suc (length other) = omega arith in
        ap (λ (r : Result (K × List ℕ) ℕ). r >>= (λ r. h r.0 r.1)) s.is ∙ ap Err same

    broken : (bs : List ℕ) (left : ℕ) (front bad tail : List ℕ) (k : K) → keyword_at spelling ks bs ≡ Err left → bs ≡ front ++ bad → left ≡ length bad → front ++ tail ≡ spelling k ++ (sharp k).sample → Failure (keyword_then spelling ks h) Q bs left
    broken bs left front bad tail k e parts size whole = record {
      front = front;
      bad = bad;
      parts = parts;
      size = size;
      local = λ b more other is.
          stops_there front b more other (ap (keyword_at spelling ks) (ap (λ (l : List ℕ). front ++ l) (sym is) ∙ sym parts) ∙ e ∙ ap Err (size ∙ ap length is));
      tail = tail;
      value = (sharp k).value;
      completed = ap (keyword_then spelling ks h) whole ∙ goes k (sharp k).sample ∙ (sharp k).reads;
      has = ap Q whole ∙ q k (sharp k).sample;
    }

    by_word : (bs : List ℕ) (left : ℕ) (r : Result (K × List ℕ) ℕ) → keyword_at spelling ks bs ≡ r → (r >>= (λ r. h r.0 r.1)) ≡ Err left → Failure (keyword_then spelling ks h) Q bs left
    by_word bs left (Ok r) is e =
        let f = (sharp r.0).fails r.1 left e in
        behind (keyword_then spelling ks h) (h r.0) Q any (spelling r.0) bs r.1 left (keyword_takes spelling ks (length bs) bs r.0 r.1 is) f
        (λ x more other q. goes r.0 (f.front ++ x ∷ other)) (goes r.0 (f.front ++ f.tail)) (q r.0 (f.front ++ f.tail))
    by_word bs left (Err l) is e =
        let same = err_value l left e in
        let stops = is ∙ ap Err same in
        elim (attained spelling ks (length bs) bs left stops) [
          | inl p ↦ broken bs left [] bs (spelling one ++ (sharp one).sample) one stops refl p refl
          | inr p ↦
              let s = word_split (spelling p.0) bs left p.1 in
              broken bs left s.front s.bad (s.rest ++ (sharp p.0).sample) p.0 stops s.parts s.size
              (sym (append_assoc s.front s.rest (sharp p.0).sample) ∙ ap (λ (l : List ℕ). l ++ (sharp p.0).sample) (sym s.word))
        ]

-- numbers
abbrev halts : ℕ → ℕ → List ℕ → Bool
halts limit n [] = true
halts limit n (b ∷ bs) = not (goes_on limit n b)

digits_halt : (limit n : ℕ) (bs : List ℕ) → halts limit (digits_at limit n bs).0 (digits_at limit n bs).1 ≡ true
digits_halt limit n [] = refl
digits_halt limit n (b ∷ bs) = elim (cases_Bool (goes_on limit n b)) [
  | inl e ↦ rw e (digits_halt limit (n * 10 + (b - 48)) bs)
  | inr e ↦ rw e (rw e refl)
]

halted : (limit n : ℕ) (bs : List ℕ) → halts limit n bs ≡ true → digits_at limit n bs ≡ (n, bs)
halted limit n [] e = refl
halted limit n (b ∷ bs) e = go (goes_on limit n b) e
  where
    go : (t : Bool) → not t ≡ true → cond t (digits_at limit (n * 10 + (b - 48)) bs) (n, b ∷ bs) ≡ (n, b ∷ bs)
    go true e = absurd (false≢true e)
    go false e = refl

number_halts : (least limit : ℕ) (bs : List ℕ) (n : ℕ) (rest : List ℕ) → number_at least limit bs ≡ Ok (n, rest) → halts limit n rest ≡ true
number_halts least limit [] n rest e = cc e
number_halts least limit (b ∷ bs) n rest e = elim (chosen (is_ascii_digit b && leb least (b - 48)) _ _ _ e) [
  | inl p ↦
      let v = ok_pair (digits_at limit (b - 48) bs).0 n (digits_at limit (b - 48) bs).1 rest p.1 in
      subst (λ (r : List ℕ). halts limit n r ≡ true) v.1 (subst (λ (m : ℕ). halts limit m (digits_at limit (b - 48) bs).1 ≡ true) v.0 (digits_halt limit (b - 48) bs))
  | inr p ↦ cc p.1
]

-- only the first byte counts
halts_head : (limit n : ℕ) (front : List ℕ) (b : ℕ) (more other : List ℕ) → halts limit n (front ++ b ∷ more) ≡ true → halts limit n (front ++ b ∷ other) ≡ true
halts_head limit n [] b more other e = e
halts_head limit n (c ∷ front) b more other e = e

pub sharp_number : {X : Type 0} (least limit : ℕ) (h : ℕ → List ℕ → Result X ℕ) (P Q : List ℕ → Bool) → IsLimit limit → least ≤ 1
    → ((x : List ℕ) → P x ≡ true → begins_with_digit x ≡ false) → ((n : ℕ) (x : List ℕ) → n ≤ limit → Q (decimal n ++ x) ≡ true)
    → ((n : ℕ) → Sharp (h n) P) → Sharp (number_then least limit h) Q
sharp_number {X} least limit h P Q fits one no_digit q sharp = record {
  sample = decimal 9 ++ (sharp 9).sample;
  value = (sharp 9).value;
  reads = goes 9 (sharp 9).sample (omega arith) fits.0 (no_digit (sharp 9).sample (sharp 9).has) ∙ (sharp 9).reads;
  has = q 9 (sharp 9).sample fits.0;
  fails = λ bs left e. by_number bs left (number_at least limit bs) refl e;
}
  where
    goes : (n : ℕ) (rest : List ℕ) → least ≤ n → n ≤ limit → begins_with_digit rest ≡ false → number_then least limit h (decimal n ++ rest) ≡ h n rest
    goes n rest low high e = ap (λ (r : Result (ℕ × List ℕ) ℕ). r >>= (λ r. h r.0 r.1)) (number_again least limit n rest fits one low high e)

    goes_halted : (n : ℕ) (rest : List ℕ) → least ≤ n → n ≤ limit → halts limit n rest ≡ true → number_then least limit h (decimal n ++ rest) ≡ h n rest
    goes_halted n rest low high e = ap (λ (r : Result (ℕ × List ℕ) ℕ). r >>= (λ r. h r.0 r.1)) (number_runs least limit n rest fits one low high ∙ ap Ok (halted limit n rest e))

    no_number : (bs : List ℕ) (left : ℕ) → number_at least limit bs ≡ Err left → Failure (number_then least limit h) Q bs left
    no_number [] left e =
        at_nothing (number_then least limit h) Q left (sym (err_value 0 left e)) (decimal 9 ++ (sharp 9).sample) (sharp 9).value
        (goes 9 (sharp 9).sample (omega arith) fits.0 (no_digit (sharp 9).sample (sharp 9).has) ∙ (sharp 9).reads) (q 9 (sharp 9).sample fits.0)
    no_number (b ∷ bs) left e = elim (chosen (is_ascii_digit b && leb least (b - 48)) _ _ _ e) [
      | inl p ↦ absurd (never left (digits_at limit (b - 48) bs) (sym p.1))
      | inr p ↦
          at_head (number_then least limit h) Q b bs left (sym (err_value (suc (length bs)) left p.1)) (λ other. ap (λ (t : Bool). cond t (Ok (digits_at limit (b - 48) other)) (Err (suc (length other))) >>= (λ r. h r.0 r.1)) p.0)
          (decimal 9 ++ (sharp 9).sample) (sharp 9).value (goes 9 (sharp 9).sample (omega arith) fits.0 (no_digit (sharp 9).sample (sharp 9).has) ∙ (sharp 9).reads) (q 9 (sharp 9).sample fits.0)
    ]

    by_number : (bs : List ℕ) (left : ℕ) (r : Result (ℕ × List ℕ) ℕ) → number_at least limit bs ≡ r → (r >>= (λ r. h r.0 r.1)) ≡ Err left → Failure (number_then least limit h) Q bs left
    by_number bs left (Ok r) is e =
        let t = number_takes least limit bs r.0 r.1 fits is in
        let halt = number_halts least limit bs r.0 r.1 is in
        let f = (sharp r.0).fails r.1 left e in
        behind (number_then least limit h) (h r.0) Q P (decimal r.0) bs r.1 left t.same f
        (λ x more other q. goes_halted r.0 (f.front ++ x ∷ other) t.low t.high
        (halts_head limit r.0 f.front x more other (subst (λ (l : List ℕ). halts limit r.0 l ≡ true) (f.parts ∙ ap (λ (l : List ℕ). f.front ++ l) q) halt)))
        (goes r.0 (f.front ++ f.tail) t.low t.high (no_digit (f.front ++ f.tail) f.has)) (q r.0 (f.front ++ f.tail) t.high)
    by_number bs left (Err l) is e = no_number bs left (is ∙ ap Err (err_value l left e))
