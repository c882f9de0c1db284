-- What a reader of a number has read is the numeral of what it gives, and each numeral is read again.
use Rattle.std.proofs.Common.{◌≡◌, ℕ, ◌+◌, ◌*◌, ◌-◌, ◌/◌, ◌%◌, ◌^◌, ◌<◌, ◌≤◌, true, false, ◌&&◌, ltb, leb, List, [], ◌∷◌, ◌++◌, Ok, inl, inr, refl, sym, ap, ◌∙◌, subst, arith, append_assoc}
use Rattle.std.proofs.lemmas.Bool.{cases_Bool, lt-ltb, le-leb, and_parts, and_from, ltb-true, leb-true}
use Rattle.std.proofs.lemmas.Fmt.{decimal_step, decimal_digit, decimal_by_steps}
use Rattle.std.specs.Fmt.{decimal}
use Rattle.std.specs.Char.{is_ascii_digit}
use Rattle.sv_journal.specs.Reading.{goes_on, digits_at, number_at}
use Rattle.sv_journal.specs.ReadingLines.{begins_with_digit}
use Rattle.sv_journal.proofs.Results.{ok_pair}
use Rattle.sv_journal.proofs.TokenLaws.{chosen}

-- a limit with which no sum of a reader wraps
abbrev pub IsLimit : ℕ → Type 0
IsLimit limit = (9 ≤ limit) × (limit < 2 ^ 64)

pub digit_range : (b : ℕ) → is_ascii_digit b ≡ true → (48 ≤ b) × (b ≤ 57)
digit_range b e = let p = and_parts (leb 48 b) (leb b 57) e in (leb-true 48 b p.0, leb-true b 57 p.1)

pub digit_from : (b : ℕ) → 48 ≤ b → b ≤ 57 → is_ascii_digit b ≡ true
digit_from b l u = and_from (leb 48 b) (leb b 57) (le-leb 48 b l) (le-leb b 57 u)

pub record Numeral (front limit n : ℕ) (bs rest : List ℕ) : Type 0 where
  pub same : decimal front ++ bs ≡ decimal n ++ rest
  pub most : n ≤ limit
  pub least : front ≤ n

pub one_more : (n b : ℕ) → 0 < n → 48 ≤ b → b ≤ 57 → n * 10 + (b - 48) < 2 ^ 64 → decimal n ++ b ∷ [] ≡ decimal (n * 10 + (b - 48))
one_more n b some l u fits =
    let step = decimal_step (n * 10 + (b - 48)) (omega arith) (omega arith) in
    let top : (n * 10 + (b - 48)) / 10 ≡ n = omega arith in
    let low : 48 + (n * 10 + (b - 48)) % 10 ≡ b = omega arith in
    sym (rw (top, low) at step)

digits_take : (limit n : ℕ) (bs : List ℕ) → limit < 2 ^ 64 → n ≤ limit → Numeral n limit (digits_at limit n bs).0 bs (digits_at limit n bs).1
digits_take limit n [] fits h = record { same = refl; most = h; least = omega arith }
digits_take limit n (b ∷ bs) fits h = elim (cases_Bool (goes_on limit n b)) [
  | inl e ↦
      let p = and_parts (is_ascii_digit b && ltb 0 n) (leb (n * 10 + (b - 48)) limit) e in
      let q = and_parts (is_ascii_digit b) (ltb 0 n) p.0 in
      let d = digit_range b q.0 in
      let some = ltb-true 0 n q.1 in
      let most = leb-true (n * 10 + (b - 48)) limit p.1 in
      let r = digits_take limit (n * 10 + (b - 48)) bs fits most in
      rw e (record {
        same = sym (append_assoc (decimal n) (b ∷ []) bs) ∙ ap (λ (q : List ℕ). q ++ bs) (one_more n b some d.0 d.1 (omega arith)) ∙ r.same;
        most = r.most;
        least = let l = r.least in omega arith;
      })
  | inr e ↦ rw e (record { same = refl; most = h; least = omega arith })
]

pub record NumberTaken (least limit n : ℕ) (bs rest : List ℕ) : Type 0 where
  pub same : bs ≡ decimal n ++ rest
  pub high : n ≤ limit
  pub low : least ≤ n

pub number_takes : (least limit : ℕ) (bs : List ℕ) (n : ℕ) (rest : List ℕ) → IsLimit limit → number_at least limit bs ≡ Ok (n, rest) → NumberTaken least limit n bs rest
number_takes least limit [] n rest fits e = cc e
number_takes least limit (b ∷ bs) n rest fits e = elim (chosen (is_ascii_digit b && leb least (b - 48)) _ _ _ e) [
  | inl p ↦
      let q = and_parts (is_ascii_digit b) (leb least (b - 48)) p.0 in
      let d = digit_range b q.0 in
      let low = leb-true least (b - 48) q.1 in
      let r = digits_take limit (b - 48) bs fits.1 (let f = fits.0 in omega arith) in
      let v = ok_pair (digits_at limit (b - 48) bs).0 n (digits_at limit (b - 48) bs).1 rest p.1 in
      let first : decimal (b - 48) ≡ b ∷ [] = decimal_digit (b - 48) (omega arith) ∙ ap (λ (x : ℕ). x ∷ []) (omega arith) in
      record {
        same = ap (λ (q : List ℕ). q ++ bs) (sym first) ∙ r.same ∙ ap (λ (x : ℕ). decimal x ++ (digits_at limit (b - 48) bs).1) v.0 ∙ ap (λ (q : List ℕ). decimal n ++ q) v.1;
        high = subst (λ (x : ℕ). x ≤ limit) v.0 r.most;
        low = let l = subst (λ (x : ℕ). b - 48 ≤ x) v.0 r.least in omega arith;
      }
  | inr p ↦ cc p.1
]

abbrev Runs : ℕ → ℕ → ℕ → List ℕ → Type 0
Runs least limit n ds = IsLimit limit → least ≤ 1 → least ≤ n → n ≤ limit → (rest : List ℕ) → number_at least limit (ds ++ rest) ≡ Ok (digits_at limit n rest)

goes : (limit n b : ℕ) (rest : List ℕ) → is_ascii_digit b ≡ true → 0 < n → n * 10 + (b - 48) ≤ limit → digits_at limit n (b ∷ rest) ≡ digits_at limit (n * 10 + (b - 48)) rest
goes limit n b rest d some h = rw (d, lt-ltb 0 n some, le-leb (n * 10 + (b - 48)) limit h) refl

-- the digits of a number, read from the front
pub number_runs : (least limit n : ℕ) (rest : List ℕ) → IsLimit limit → least ≤ 1 → least ≤ n → n ≤ limit → number_at least limit (decimal n ++ rest) ≡ Ok (digits_at limit n rest)
number_runs least limit n rest is_limit one low high = decimal_by_steps (Runs least limit)
    (λ k small is_limit one low high rest.
    let e : (48 + k) - 48 ≡ k = omega arith in
    let d : is_ascii_digit (48 + k) ≡ true = digit_from (48 + k) (omega arith) (omega arith) in
    let l : leb least ((48 + k) - 48) ≡ true = le-leb least ((48 + k) - 48) (omega arith) in
    rw (d, l) (ap (λ (x : ℕ). Ok (digits_at limit x rest)) e))
    (λ k ds big ih is_limit one low high rest.
    let g = 48 + k % 10 in
    let d : is_ascii_digit g ≡ true = digit_from g (omega arith) (omega arith) in
    let e : (k / 10) * 10 + (g - 48) ≡ k = omega arith in
    append_then ds g rest (number_at least limit) (Ok (digits_at limit k rest))
    (ih is_limit one (omega arith) (omega arith) (g ∷ rest) ∙ ap Ok (goes limit (k / 10) g rest d (omega arith) (omega arith)) ∙ ap (λ (x : ℕ). Ok (digits_at limit x rest)) e))
    n (let f = is_limit.1 in omega arith) is_limit one low high rest
  where
    append_then : {X : Type 0} (ds : List ℕ) (g : ℕ) (rest : List ℕ) (f : List ℕ → X) (x : X) → f (ds ++ g ∷ rest) ≡ x → f ((ds ++ g ∷ []) ++ rest) ≡ x
    append_then ds g rest f x e = ap f (append_assoc ds (g ∷ []) rest) ∙ e

pub digits_stop : (limit n : ℕ) (rest : List ℕ) → begins_with_digit rest ≡ false → digits_at limit n rest ≡ (n, rest)
digits_stop limit n [] e = refl
digits_stop limit n (b ∷ bs) e = rw e refl

pub number_again : (least limit n : ℕ) (rest : List ℕ) → IsLimit limit → least ≤ 1 → least ≤ n → n ≤ limit → begins_with_digit rest ≡ false
    → number_at least limit (decimal n ++ rest) ≡ Ok (n, rest)
number_again least limit n rest is_limit one low high e = number_runs least limit n rest is_limit one low high ∙ ap Ok (digits_stop limit n rest e)
