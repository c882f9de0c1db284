-- A reader of a token stops at the first byte with which no good text goes on.
use Rattle.std.proofs.Common.{◌≡◌, ℕ, zero, suc, ◌+◌, ◌*◌, ◌/◌, ◌%◌, ◌<◌, ◌≤◌, Bool, true, false, not, cond, ◌&&◌, eqb, ltb, List, [], ◌∷◌, ◌⊎◌, ◌++◌, length, get_or, drop, Result, Ok, Err, inl, inr, refl, sym, ap, ◌∙◌, subst, arith, append_assoc}
use Rattle.std.specs.List.{list_any, list_all}
use Rattle.std.proofs.lemmas.Bool.{false≢true, lt-ltb, le-leb, lt-leb, eqb-true, ltb-true, and_parts, or_cases, not-true}
use Rattle.sv_journal.specs.Spelling.{stands_for_itself, hex_digit, byte_spelling, bytes_spelling, token}
use Rattle.sv_journal.specs.Tokens.{escapes, is_hex, hex_value, sixteen, may_begin, is_first_digit, is_second_digit}
use Rattle.sv_letters.specs.Letters.{allows, after}
use Rattle.sv_journal.specs.Escapes.{is_escape, begins_escape}
use Rattle.sv_journal.specs.Reading.{◌>>=◌, Stage, closed, token_from, with_first, is_lone, nonempty, token_at}
use Rattle.sv_journal.specs.Reading.Stage.{Between, Percent, Digit}
use Rattle.sv_journal.specs.ReadingLines.{token_then}
use Rattle.sv_letters.specs.declared.letters.Letters.{Letters}
use Rattle.sv_letters.specs.declared.letters.Letters.TheVariants.{OfText, OfName, OfBytes, OfXml}
use Rattle.sv_letters.specs.declared.letters.Awaits.{Awaits}
use Rattle.sv_letters.specs.declared.letters.Awaits.TheVariants.{Character, Private, Continuation}
use Rattle.sv_letters.proofs.LetterLaws.{IsOpen, after_open}
use Rattle.sv_journal.proofs.Letters.{accepts}
use Rattle.sv_journal.proofs.Results.{never}
use Rattle.sv_journal.proofs.Sharp.{Failure, Sharp, any, err_value, at_head, at_nothing, behind}
use Rattle.sv_journal.proofs.TokenLaws.{before, awaited, chosen, Good, good_nonempty, hex_below, hex_again, spelled_itself, spelled_escaped, accepts_one, itself_small, with_first_ok, choose_true, pick, closed_there, may_follow, ends, token_before, token_again, token_follows, token_at_takes}

pub record Ending (letters : Letters) (awaits : Awaits) : Type 0 where
  pub v : List ℕ
  pub good : accepts letters awaits v ≡ true

end_more : (letters : Letters) (more low high : ℕ) → 128 ≤ low → low ≤ high → high ≤ 191 → Ending letters (Continuation low high more)
end_more letters zero low high a b c = record { v = low ∷ []; good = rw (lt-ltb low 256 (omega arith), le-leb low low (omega arith), le-leb low high b) refl }
end_more letters (suc more) low high a b c =
    let r = end_more letters more 128 191 (omega arith) (omega arith) (omega arith) in
    record { v = low ∷ r.v; good = rw (lt-ltb low 256 (omega arith), le-leb low low (omega arith), le-leb low high b) r.good }

-- how the bytes may end
pub ending : (letters : Letters) (awaits : Awaits) → IsOpen awaits → Ending letters awaits
ending letters Character g = record { v = []; good = refl }
ending letters Private g = record { v = 128 ∷ 128 ∷ []; good = refl }
ending letters (Continuation low high more) g = end_more letters more low high g.0 g.1 g.2

pub record Escaped (comes : ℕ → Bool) (high : ℕ) : Type 0 where
  pub b : ℕ
  pub small : b < 256
  pub begins : b / 16 ≡ high
  pub good : is_escape comes b ≡ true

record Element (f : ℕ → Bool) : Type 0 where
  x : ℕ
  small : x < 16
  good : f x ≡ true

element : (f : ℕ → Bool) (xs : List ℕ) → list_all (λ x. ltb x 16) xs ≡ true → list_any f xs ≡ true → Element f
element f [] s e = absurd (false≢true e)
element f (x ∷ xs) s e =
    let p = and_parts (ltb x 16) (list_all (λ x. ltb x 16) xs) s in
    elim (or_cases (f x) (list_any f xs) e) [
      | inl h ↦ record { x = x; small = ltb-true x 16 p.0; good = h }
      | inr h ↦ element f xs p.1 h
    ]

pub escaped : (comes : ℕ → Bool) (high : ℕ) → high < 16 → begins_escape comes high ≡ true → Escaped comes high
escaped comes high h e =
    let k = element (λ (low : ℕ). is_escape comes (16 * high + low)) sixteen refl e in
    let s = k.small in
    record { b = 16 * high + k.x; small = omega arith; begins = omega arith; good = k.good }

-- a percent sign may always come
percent_letter : (letters : Letters) → escapes letters Character 37 ≡ true
percent_letter OfText = refl
percent_letter OfName = refl
percent_letter OfBytes = refl
percent_letter OfXml = refl

record AnyEscape (letters : Letters) (awaits : Awaits) : Type 0 where
  b : ℕ
  small : b < 256
  good : escapes letters awaits b ≡ true

any_escape : (letters : Letters) (awaits : Awaits) → IsOpen awaits → AnyEscape letters awaits
any_escape letters Character g = record { b = 37; small = omega arith; good = percent_letter letters }
any_escape letters Private g = record { b = 128; small = omega arith; good = refl }
any_escape letters (Continuation low high more) g =
    let a = g.0 in
    let b = g.1 in
    let c = g.2 in
    record { b = low; small = omega arith; good = rw (le-leb low low (omega arith), le-leb low high b, lt-leb low 126 (omega arith), le-leb 33 low (omega arith)) refl }

abbrev pub IsGoodStage : Letters → Stage → Type 0
IsGoodStage letters (Between awaits) = IsOpen awaits
IsGoodStage letters (Percent awaits) = IsOpen awaits
IsGoodStage letters (Digit awaits high) = (high < 16) × (may_begin letters awaits high ≡ true)

-- how a text goes on from this stage
record Completion (letters : Letters) (stage : Stage) : Type 0 where
  tail : List ℕ
  v : List ℕ
  whole : before stage ++ tail ≡ bytes_spelling v
  good : accepts letters (awaited stage) v ≡ true

with_escape : (letters : Letters) (awaits : Awaits) (b : ℕ) → b < 256 → escapes letters awaits b ≡ true → Completion letters (Percent awaits)
with_escape letters awaits b small e =
    let p = and_parts (allows letters awaits b) (not (stands_for_itself b)) e in
    let r = ending letters (after letters awaits b) (after_open letters awaits b) in
    record {
      tail = hex_digit (b / 16) ∷ hex_digit (b % 16) ∷ bytes_spelling r.v;
      v = b ∷ r.v;
      whole = ap (λ (l : List ℕ). l ++ bytes_spelling r.v) (sym (spelled_escaped b (not-true (stands_for_itself b) p.1)));
      good = accepts_one letters awaits b r.v small p.0 r.good;
    }

completion : (letters : Letters) (stage : Stage) → IsGoodStage letters stage → Completion letters stage
completion letters (Between awaits) g = let r = ending letters awaits g in record { tail = bytes_spelling r.v; v = r.v; whole = refl; good = r.good }
completion letters (Percent awaits) g = let b = any_escape letters awaits g in with_escape letters awaits b.b b.small b.good
completion letters (Digit awaits high) g =
    let b = escaped (allows letters awaits) high g.0 g.1 in
    let p = and_parts (allows letters awaits b.b) (not (stands_for_itself b.b)) b.good in
    let r = ending letters (after letters awaits b.b) (after_open letters awaits b.b) in
    record {
      tail = hex_digit (b.b % 16) ∷ bytes_spelling r.v;
      v = b.b ∷ r.v;
      whole = ap (λ (h : ℕ). 37 ∷ hex_digit h ∷ hex_digit (b.b % 16) ∷ bytes_spelling r.v) (sym b.begins) ∙ ap (λ (l : List ℕ). l ++ bytes_spelling r.v) (sym (spelled_escaped b.b (not-true (stands_for_itself b.b) p.1)));
      good = accepts_one letters awaits b.b r.v b.small p.0 r.good;
    }

-- a token is not refused before its first byte
abbrev pub HasBegun : Stage → List ℕ → Type 0
HasBegun (Between Character) front = 0 < length front
HasBegun (Between Private) front = Unit {0}
HasBegun (Between (Continuation low high more)) front = Unit {0}
HasBegun (Percent awaits) front = Unit {0}
HasBegun (Digit awaits high) front = Unit {0}

begun : (awaits : Awaits) (b : ℕ) (front : List ℕ) → HasBegun (Between awaits) (b ∷ front)
begun Character b front = omega arith
begun Private b front = tt
begun (Continuation low high more) b front = tt

pub record Broken (letters : Letters) (stage : Stage) (bs : List ℕ) (left : ℕ) : Type 0 where
  pub front : List ℕ
  pub bad : List ℕ
  pub parts : bs ≡ front ++ bad
  pub size : left ≡ length bad
  pub local : (b : ℕ) (more other : List ℕ) → bad ≡ b ∷ more → token_from letters stage (front ++ b ∷ other) ≡ Err (suc (length other))
  pub tail : List ℕ
  pub v : List ℕ
  pub whole : before stage ++ (front ++ tail) ≡ bytes_spelling v
  pub good : accepts letters (awaited stage) v ≡ true
  pub has_begun : HasBegun stage front

head_of : (a b : ℕ) (xs ys : List ℕ) → a ∷ xs ≡ b ∷ ys → a ≡ b
head_of a b xs ys e = ap (λ (l : List ℕ). get_or l 0 0) e

broken_at : (letters : Letters) (stage : Stage) (b : ℕ) (bs : List ℕ) (left : ℕ) → IsGoodStage letters stage → HasBegun stage [] → left ≡ suc (length bs)
    → ((other : List ℕ) → token_from letters stage (b ∷ other) ≡ Err (suc (length other))) → Broken letters stage (b ∷ bs) left
broken_at letters stage b bs left g begins e local =
    let c = completion letters stage g in
    record {
      front = [];
      bad = b ∷ bs;
      parts = refl;
      size = e;
      local = λ x more other q. ap (λ (y : ℕ). token_from letters stage (y ∷ other)) (sym (head_of b x bs more q)) ∙ local other;
      tail = c.tail;
      v = c.v;
      whole = c.whole;
      good = c.good;
      has_begun = begins;
    }

broken_end : (letters : Letters) (stage : Stage) (left : ℕ) → IsGoodStage letters stage → HasBegun stage [] → left ≡ 0 → Broken letters stage [] left
broken_end letters stage left g begins e =
    let c = completion letters stage g in
    record { front = []; bad = []; parts = refl; size = e; local = λ x more other q. cc q; tail = c.tail; v = c.v; whole = c.whole; good = c.good; has_begun = begins }

with_first_err : (x : ℕ) (r : Result (List ℕ × List ℕ) ℕ) (left : ℕ) → with_first x r ≡ Err left → r ≡ Err left
with_first_err x (Ok r) left e = absurd (never left (x ∷ r.0, r.1) (sym e))
with_first_err x (Err l) left e = ap Err (err_value l left e)

closed_err : (awaits : Awaits) (bs : List ℕ) (left : ℕ) → closed awaits bs ≡ Err left → (left ≡ length bs) × HasBegun (Between awaits) [] × ((other : List ℕ) → closed awaits other ≡ Err (length other))
closed_err Character bs left e = absurd (never left ([], bs) (sym e))
closed_err Private bs left e = (sym (err_value (length bs) left e), tt, λ other. refl)
closed_err (Continuation low high more) bs left e = (sym (err_value (length bs) left e), tt, λ other. refl)

pub choose_false : {X : Type 0} (t : Bool) (x y : X) → t ≡ false → cond t x y ≡ y
choose_false false x y e = refl
choose_false true x y e = cc e

pub token_breaks : (letters : Letters) (stage : Stage) (bs : List ℕ) (left : ℕ) → IsGoodStage letters stage → token_from letters stage bs ≡ Err left → Broken letters stage bs left
token_breaks letters (Between awaits) [] left g e =
    let c = closed_err awaits [] left e in
    broken_end letters (Between awaits) left g c.1 c.0
token_breaks letters (Between awaits) (b ∷ bs) left g e = elim (chosen (eqb b 37) _ _ _ e) [
  | inl p ↦
      let f = token_breaks letters (Percent awaits) bs left g p.1 in
      let goes : (x : List ℕ) → token_from letters (Between awaits) (b ∷ x) ≡ token_from letters (Percent awaits) x = λ x. choose_true (eqb b 37) _ _ p.0 in
      record {
        front = b ∷ f.front;
        bad = f.bad;
        parts = ap (λ (l : List ℕ). b ∷ l) f.parts;
        size = f.size;
        local = λ x more other q. goes (f.front ++ x ∷ other) ∙ f.local x more other q;
        tail = f.tail;
        v = f.v;
        whole = ap (λ (x : ℕ). x ∷ (f.front ++ f.tail)) (eqb-true b 37 p.0) ∙ f.whole;
        good = f.good;
        has_begun = begun awaits b f.front;
      }
  | inr p ↦ elim (chosen (stands_for_itself b && allows letters awaits b) _ _ _ p.1) [
    | inl q ↦
        let s = and_parts (stands_for_itself b) (allows letters awaits b) q.0 in
        let next = after letters awaits b in
        let f = token_breaks letters (Between next) bs left (after_open letters awaits b) (with_first_err b (token_from letters (Between next) bs) left q.1) in
        let goes : (x : List ℕ) → token_from letters (Between awaits) (b ∷ x) ≡ with_first b (token_from letters (Between next) x) = λ x. pick (eqb b 37) (stands_for_itself b) (allows letters awaits b) _ _ _ p.0 s.0 s.1 in
        record {
          front = b ∷ f.front;
          bad = f.bad;
          parts = ap (λ (l : List ℕ). b ∷ l) f.parts;
          size = f.size;
          local = λ x more other r. goes (f.front ++ x ∷ other) ∙ ap (with_first b) (f.local x more other r);
          tail = f.tail;
          v = b ∷ f.v;
          whole = ap (λ (l : List ℕ). b ∷ l) f.whole ∙ ap (λ (l : List ℕ). l ++ bytes_spelling f.v) (sym (spelled_itself b s.0));
          good = accepts_one letters awaits b f.v (let h = itself_small b s.0 in omega arith) s.1 f.good;
          has_begun = begun awaits b f.front;
        }
    | inr q ↦
        let c = closed_err awaits (b ∷ bs) left q.1 in
        broken_at letters (Between awaits) b bs left g c.1 c.0 (λ other. closed_there (eqb b 37) (stands_for_itself b && allows letters awaits b) _ _ _ p.0 q.0 ∙ c.2 (b ∷ other))
  ]
]
token_breaks letters (Percent awaits) [] left g e = broken_end letters (Percent awaits) left g tt (sym (err_value 0 left e))
token_breaks letters (Percent awaits) (d ∷ bs) left g e = elim (chosen (is_first_digit letters awaits d) _ _ _ e) [
  | inl p ↦
      let h = and_parts (is_hex d) (may_begin letters awaits (hex_value d)) p.0 in
      let f = token_breaks letters (Digit awaits (hex_value d)) bs left (hex_below d h.0, h.1) p.1 in
      let goes : (x : List ℕ) → token_from letters (Percent awaits) (d ∷ x) ≡ token_from letters (Digit awaits (hex_value d)) x = λ x. choose_true (is_first_digit letters awaits d) _ _ p.0 in
      record {
        front = d ∷ f.front;
        bad = f.bad;
        parts = ap (λ (l : List ℕ). d ∷ l) f.parts;
        size = f.size;
        local = λ x more other q. goes (f.front ++ x ∷ other) ∙ f.local x more other q;
        tail = f.tail;
        v = f.v;
        whole = ap (λ (x : ℕ). 37 ∷ x ∷ (f.front ++ f.tail)) (sym (hex_again d h.0)) ∙ f.whole;
        good = f.good;
        has_begun = tt;
      }
  | inr p ↦ broken_at letters (Percent awaits) d bs left g tt (sym (err_value (suc (length bs)) left p.1)) (λ other. choose_false (is_first_digit letters awaits d) _ _ p.0)
]
token_breaks letters (Digit awaits high) [] left g e = broken_end letters (Digit awaits high) left g tt (sym (err_value 0 left e))
token_breaks letters (Digit awaits high) (d ∷ bs) left g e = elim (chosen (is_second_digit letters awaits high d) _ _ _ e) [
  | inl p ↦
      let h = and_parts (is_hex d) (escapes letters awaits (16 * high + hex_value d)) p.0 in
      let x = 16 * high + hex_value d in
      let s = and_parts (allows letters awaits x) (not (stands_for_itself x)) h.1 in
      let low = hex_below d h.0 in
      let top = g.0 in
      let next = after letters awaits x in
      let f = token_breaks letters (Between next) bs left (after_open letters awaits x) (with_first_err x (token_from letters (Between next) bs) left p.1) in
      let goes : (y : List ℕ) → token_from letters (Digit awaits high) (d ∷ y) ≡ with_first x (token_from letters (Between next) y) = λ y. choose_true (is_second_digit letters awaits high d) _ _ p.0 in
      let first : x / 16 ≡ high = omega arith in
      let second : x % 16 ≡ hex_value d = omega arith in
      let spelled : byte_spelling x ≡ 37 ∷ hex_digit high ∷ d ∷ [] =
      spelled_escaped x (not-true (stands_for_itself x) s.1) ∙ ap (λ (y : ℕ). 37 ∷ hex_digit y ∷ hex_digit (x % 16) ∷ []) first ∙ ap (λ (y : ℕ). 37 ∷ hex_digit high ∷ y ∷ []) (ap hex_digit second ∙ hex_again d h.0) in
      record {
        front = d ∷ f.front;
        bad = f.bad;
        parts = ap (λ (l : List ℕ). d ∷ l) f.parts;
        size = f.size;
        local = λ y more other q. goes (f.front ++ y ∷ other) ∙ ap (with_first x) (f.local y more other q);
        tail = f.tail;
        v = x ∷ f.v;
        whole = ap (λ (l : List ℕ). 37 ∷ hex_digit high ∷ d ∷ l) f.whole ∙ ap (λ (l : List ℕ). l ++ bytes_spelling f.v) (sym spelled);
        good = accepts_one letters awaits x f.v (omega arith) s.0 f.good;
        has_begun = tt;
      }
  | inr p ↦ broken_at letters (Digit awaits high) d bs left g tt (sym (err_value (suc (length bs)) left p.1)) (λ other. choose_false (is_second_digit letters awaits high d) _ _ p.0)
]

-- tokens
lone_head : (letters : Letters) (front : List ℕ) (b : ℕ) (more other : List ℕ) → is_lone letters (front ++ b ∷ more) ≡ is_lone letters (front ++ b ∷ other)
lone_head OfText [] b more other = refl
lone_head OfText (c ∷ front) b more other = refl
lone_head OfName front b more other = refl
lone_head OfBytes [] b more other = refl
lone_head OfBytes (c ∷ front) b more other = refl
lone_head OfXml [] b more other = refl
lone_head OfXml (c ∷ front) b more other = refl

follows_head : (letters : Letters) (v front : List ℕ) (b : ℕ) (more other : List ℕ) → may_follow letters v (front ++ b ∷ more) ≡ true → may_follow letters v (front ++ b ∷ other) ≡ true
follows_head letters [] front b more other e = sym (lone_head letters front b more other) ∙ e
follows_head letters (c ∷ v) [] b more other e = e
follows_head letters (c ∷ v) (d ∷ front) b more other e = e

record Empty (left l : ℕ) (r : Result (List ℕ × List ℕ) ℕ) : Type 0 where
  rest : List ℕ
  is : r ≡ Ok ([], rest)
  same : l ≡ left

nonempty_err : (left : ℕ) (r : Result (List ℕ × List ℕ) ℕ) (l : ℕ) → nonempty left r ≡ Err l → (r ≡ Err l) ⊎ Empty left l r
nonempty_err left (Ok ([], rest)) l e = inr (record { rest = rest; is = refl; same = sym (err_value left l e) })
nonempty_err left (Ok (x ∷ xs, rest)) l e = absurd (never l (x ∷ xs, rest) (sym e))
nonempty_err left (Err k) l e = inl e

digit_some : (letters : Letters) (awaits : Awaits) (high : ℕ) (bs v rest : List ℕ) → token_from letters (Digit awaits high) bs ≡ Ok (v, rest) → 0 < length v
digit_some letters awaits high [] v rest e = cc e
digit_some letters awaits high (d ∷ bs) v rest e = elim (chosen (is_second_digit letters awaits high d) _ _ _ e) [
  | inl p ↦
      let x = 16 * high + hex_value d in
      let w = with_first_ok x (token_from letters (Between (after letters awaits x)) bs) v rest p.1 in
      subst (λ (l : List ℕ). 0 < length l) (sym w.is) (omega arith)
  | inr p ↦ cc p.1
]

percent_some : (letters : Letters) (awaits : Awaits) (bs v rest : List ℕ) → token_from letters (Percent awaits) bs ≡ Ok (v, rest) → 0 < length v
percent_some letters awaits [] v rest e = cc e
percent_some letters awaits (d ∷ bs) v rest e = elim (chosen (is_first_digit letters awaits d) _ _ _ e) [
  | inl p ↦ digit_some letters awaits (hex_value d) bs v rest p.1
  | inr p ↦ cc p.1
]

empty_means : (letters : Letters) (b : ℕ) (bs rest : List ℕ) → token_from letters (Between Character) (b ∷ bs) ≡ Ok ([], rest) → (eqb b 37 ≡ false) × ((stands_for_itself b && allows letters Character b) ≡ false)
empty_means letters b bs rest e = elim (chosen (eqb b 37) _ _ _ e) [
  | inl p ↦ absurd (let h = percent_some letters Character bs [] rest p.1 in omega arith)
  | inr p ↦ elim (chosen (stands_for_itself b && allows letters Character b) _ _ _ p.1) [
    | inl q ↦ let w = with_first_ok b (token_from letters (Between (after letters Character b)) bs) [] rest q.1 in cc w.is
    | inr q ↦ (p.0, q.0)
  ]
]

tail_of : (a b : ℕ) (xs ys : List ℕ) → a ∷ xs ≡ b ∷ ys → xs ≡ ys
tail_of a b xs ys e = ap (λ (l : List ℕ). drop 1 l) e

sample_good : (letters : Letters) → Good letters (65 ∷ [])
sample_good OfText = refl
sample_good OfBytes = refl
sample_good OfXml = refl
sample_good OfName = (refl, omega arith)

token_read : {X : Type 0} (letters : Letters) (h : List ℕ → List ℕ → Result X ℕ) (v rest : List ℕ) → Good letters v → may_follow letters v rest ≡ true → token_then letters h (token v ++ rest) ≡ h v rest
token_read letters h v rest g f = ap (λ (r : Result (List ℕ × List ℕ) ℕ). r >>= (λ r. h r.0 r.1)) (token_before letters v rest g f)

token_sample : {X : Type 0} (letters : Letters) (h : List ℕ → List ℕ → Result X ℕ) (P : List ℕ → Bool) (v : List ℕ) → ((x : List ℕ) → P x ≡ true → ends x ≡ true) → (s : Sharp (h v) P) → Good letters v → token_then letters h (token v ++ s.sample) ≡ Ok s.value
token_sample letters h P v end s g = ap (λ (r : Result (List ℕ × List ℕ) ℕ). r >>= (λ r. h r.0 r.1)) (token_again letters v s.sample g (end s.sample s.has)) ∙ s.reads

broken_token : {X : Type 0} (letters : Letters) (h : List ℕ → List ℕ → Result X ℕ) (P : List ℕ → Bool) → ((x : List ℕ) → P x ≡ true → ends x ≡ true) → ((v : List ℕ) → Good letters v → Sharp (h v) P)
    → (b : ℕ) (bs : List ℕ) (left : ℕ) (front bad tail v : List ℕ) → (eqb b 37 && is_lone letters bs) ≡ false → b ∷ bs ≡ front ++ bad → left ≡ length bad → 0 < length front
    → ((x : ℕ) (more other : List ℕ) → bad ≡ x ∷ more → token_from letters (Between Character) (front ++ x ∷ other) ≡ Err (suc (length other)))
    → front ++ tail ≡ bytes_spelling v → accepts letters Character v ≡ true → Failure (token_then letters h) any (b ∷ bs) left
broken_token letters h P end sharp b bs left [] bad tail v lone parts size some local whole good = absurd (omega arith)
broken_token letters h P end sharp b bs left (c ∷ cs) bad tail [] lone parts size some local whole good = cc whole
broken_token letters h P end sharp b bs left (c ∷ cs) bad tail (w ∷ ws) lone parts size some local whole good =
    let first = head_of b c bs (cs ++ bad) parts in
    let later = tail_of b c bs (cs ++ bad) parts in
    let s = sharp (w ∷ ws) (good_nonempty letters w ws good) in
    record {
      front = c ∷ cs;
      bad = bad;
      parts = parts;
      size = size;
      local = λ x more other q.
          let there : is_lone letters bs ≡ is_lone letters (cs ++ x ∷ other) = ap (is_lone letters) (later ∙ ap (λ (l : List ℕ). cs ++ l) q) ∙ lone_head letters cs x more other in
          let plain : (eqb c 37 && is_lone letters (cs ++ x ∷ other)) ≡ false = ap (λ (t : Bool). eqb c 37 && t) (sym there) ∙ ap (λ (y : ℕ). eqb y 37 && is_lone letters bs) (sym first) ∙ lone in
          ap (λ (t : Bool). cond t (Ok ([], cs ++ x ∷ other)) (nonempty (suc (length (cs ++ x ∷ other))) (token_from letters (Between Character) (c ∷ (cs ++ x ∷ other)))) >>= (λ r. h r.0 r.1)) plain
          ∙ ap (λ (r : Result (List ℕ × List ℕ) ℕ). nonempty (suc (length (cs ++ x ∷ other))) r >>= (λ r. h r.0 r.1)) (local x more other q);
      tail = tail ++ s.sample;
      value = s.value;
      completed = ap (token_then letters h) (sym (append_assoc (c ∷ cs) tail s.sample) ∙ ap (λ (l : List ℕ). l ++ s.sample) whole) ∙ token_sample letters h P (w ∷ ws) end s (good_nonempty letters w ws good);
      has = refl;
    }

token_fails : {X : Type 0} (letters : Letters) (h : List ℕ → List ℕ → Result X ℕ) (P : List ℕ → Bool) → ((x : List ℕ) → P x ≡ true → ends x ≡ true) → ((v : List ℕ) → Good letters v → Sharp (h v) P)
    → (bs : List ℕ) (left : ℕ) → token_at letters bs ≡ Err left → Failure (token_then letters h) any bs left
token_fails letters h P end sharp [] left e =
    let s = sharp (65 ∷ []) (sample_good letters) in
    at_nothing (token_then letters h) any left (sym (err_value 0 left e)) (token (65 ∷ []) ++ s.sample) s.value (token_sample letters h P (65 ∷ []) end s (sample_good letters)) refl
token_fails letters h P end sharp (b ∷ bs) left e = elim (chosen (eqb b 37 && is_lone letters bs) _ _ _ e) [
  | inl p ↦ absurd (never left ([], bs) (sym p.1))
  | inr p ↦ elim (nonempty_err (suc (length bs)) (token_from letters (Between Character) (b ∷ bs)) left p.1) [
    | inl q ↦
        let f = token_breaks letters (Between Character) (b ∷ bs) left tt q in
        broken_token letters h P end sharp b bs left f.front f.bad f.tail f.v p.0 f.parts f.size f.has_begun f.local f.whole f.good
    | inr q ↦
        let m = empty_means letters b bs q.rest q.is in
        let s = sharp (65 ∷ []) (sample_good letters) in
        at_head (token_then letters h) any b bs left q.same
        (λ other. refused (eqb b 37) (is_lone letters other) (stands_for_itself b && allows letters Character b) _ _ _ _ m.0 m.1)
        (token (65 ∷ []) ++ s.sample) s.value (token_sample letters h P (65 ∷ []) end s (sample_good letters)) refl
  ]
]
  where
    refused : (p l a : Bool) (x y z : Result (List ℕ × List ℕ) ℕ) (other : List ℕ) → p ≡ false → a ≡ false
        → cond (p && l) x (nonempty (suc (length other)) (cond p y (cond a z (Ok ([], b ∷ other))))) >>= (λ r. h r.0 r.1) ≡ Err (suc (length other))
    refused false l false x y z other e f = refl
    refused true l a x y z other e f = cc e
    refused false l true x y z other e f = cc f

-- what reads the rest is sharp after each token that there is
pub sharp_good : {X : Type 0} (letters : Letters) (h : List ℕ → List ℕ → Result X ℕ) (P : List ℕ → Bool) → ((x : List ℕ) → P x ≡ true → ends x ≡ true) → ((v : List ℕ) → Good letters v → Sharp (h v) P) → Sharp (token_then letters h) any
sharp_good {X} letters h P end sharp = record {
  sample = token (65 ∷ []) ++ (sharp (65 ∷ []) (sample_good letters)).sample;
  value = (sharp (65 ∷ []) (sample_good letters)).value;
  reads = token_sample letters h P (65 ∷ []) end (sharp (65 ∷ []) (sample_good letters)) (sample_good letters);
  has = refl;
  fails = λ bs left e. by_token bs left (token_at letters bs) refl e;
}
  where
    by_token : (bs : List ℕ) (left : ℕ) (r : Result (List ℕ × List ℕ) ℕ) → token_at letters bs ≡ r → (r >>= (λ r. h r.0 r.1)) ≡ Err left → Failure (token_then letters h) any bs left
    by_token bs left (Ok r) is e =
        let t = token_at_takes letters bs r.0 r.1 is in
        let may = token_follows letters bs r.0 r.1 is in
        let f = (sharp r.0 t.good).fails r.1 left e in
        behind (token_then letters h) (h r.0) any P (token r.0) bs r.1 left t.same f
        (λ x more other q. token_read letters h r.0 (f.front ++ x ∷ other) t.good
        (follows_head letters r.0 f.front x more other (subst (λ (l : List ℕ). may_follow letters r.0 l ≡ true) (f.parts ∙ ap (λ (l : List ℕ). f.front ++ l) q) may)))
        (ap (λ (q : Result (List ℕ × List ℕ) ℕ). q >>= (λ r. h r.0 r.1)) (token_again letters r.0 (f.front ++ f.tail) t.good (end (f.front ++ f.tail) f.has))) refl
    by_token bs left (Err l) is e = token_fails letters h P end sharp bs left (is ∙ ap Err (err_value l left e))

pub sharp_token : {X : Type 0} (letters : Letters) (h : List ℕ → List ℕ → Result X ℕ) (P : List ℕ → Bool) → ((x : List ℕ) → P x ≡ true → ends x ≡ true) → ((v : List ℕ) → Sharp (h v) P) → Sharp (token_then letters h) any
sharp_token letters h P end sharp = sharp_good letters h P end (λ v good. sharp v)
