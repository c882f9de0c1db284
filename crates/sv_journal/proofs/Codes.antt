-- Exit codes read number by number are the exit codes read byte by byte.
use Rattle.std.proofs.Common.{◌≡◌, ℕ, suc, ◌+◌, ◌*◌, ◌-◌, List, [], ◌∷◌, ◌++◌, length, Result, Ok, Err, Some, None, inl, inr, refl, sym, ap, ◌∙◌, arith, append_assoc, ◌≤◌, get_or, take, drop}
use Rattle.std.specs.Char.{is_ascii_digit}
use Rattle.std.proofs.lemmas.List.{take_all}
use Rattle.std.proofs.lemmas.Bool.{cases_Bool, le-leb}
use Rattle.sv_journal.specs.Reading.{◌>>=◌, goes_on, digits_at, number_at, codes_from, codes_tail, with_first, with_front}

tail : (n : ℕ) (bs : List ℕ) → codes_from (Some n) bs ≡ codes_tail (digits_at 255 n bs).0 (digits_at 255 n bs).1
tail n [] = refl
tail n (b ∷ bs) = elim (cases_Bool (goes_on 255 n b)) [
  | inl e ↦ rw e (tail (n * 10 + (b - 48)) bs)
  | inr e ↦ rw e refl
]

pub codes_number : (bs : List ℕ) → codes_from None bs ≡ (number_at 0 255 bs >>= (λ r. codes_tail r.0 r.1))
codes_number [] = refl
codes_number (b ∷ bs) = elim (cases_Bool (is_ascii_digit b)) [
  | inl e ↦ rw (e, le-leb 0 (b - 48) (omega arith)) (tail (b - 48) bs)
  | inr e ↦ rw e refl
]

pub codes_number_ok : (bs : List ℕ) (n : ℕ) (rest : List ℕ) → number_at 0 255 bs ≡ Ok (n, rest) → codes_from None bs ≡ codes_tail n rest
codes_number_ok bs n rest e = codes_number bs ∙ ap (λ (r : Result (ℕ × List ℕ) ℕ). r >>= (λ q. codes_tail q.0 q.1)) e

pub codes_number_bad : (bs : List ℕ) (left : ℕ) → number_at 0 255 bs ≡ Err left → codes_from None bs ≡ Err left
codes_number_bad bs left e = codes_number bs ∙ ap (λ (r : Result (ℕ × List ℕ) ℕ). r >>= (λ q. codes_tail q.0 q.1)) e

front_first : (xs : List ℕ) (x : ℕ) (r : Result (List ℕ × List ℕ) ℕ) → with_front xs (with_first x r) ≡ with_front (xs ++ x ∷ []) r
front_first xs x (Ok r) = ap (λ (q : List ℕ). Ok (q, r.1)) (sym (append_assoc xs (x ∷ []) r.0))
front_first xs x (Err left) = refl

pub codes_more : (xs : List ℕ) (n m : ℕ) (bs rest : List ℕ) → number_at 0 255 bs ≡ Ok (m, rest) → with_front xs (codes_tail n (44 ∷ bs)) ≡ with_front (xs ++ n ∷ []) (codes_tail m rest)
codes_more xs n m bs rest e = front_first xs n (codes_from None bs) ∙ ap (with_front (xs ++ n ∷ [])) (codes_number_ok bs m rest e)

-- a comma at the head of what is left, as a slice shows it
pub codes_more_at : (xs new : List ℕ) (n m : ℕ) (bs rest : List ℕ) (all : Result (List ℕ × List ℕ) ℕ) → 1 ≤ length bs → get_or bs 0 0 ≡ 44
    → number_at 0 255 (take (length bs - 1) (drop 1 bs)) ≡ Ok (m, rest) → new ≡ xs ++ n ∷ []
    → with_front xs (codes_tail n bs) ≡ all → with_front new (codes_tail m rest) ≡ all
codes_more_at xs new n m [] rest all some first read is e = absurd (omega arith)
codes_more_at xs new n m (b ∷ bs) rest all some first read is e =
    let size : suc (length bs) - 1 ≡ length bs = omega arith in
    let same : take (suc (length bs) - 1) bs ≡ bs = take_all (suc (length bs) - 1) bs (omega arith) in
    let read_on : number_at 0 255 bs ≡ Ok (m, rest) = rw same at read in
    rw is (sym (codes_more xs n m bs rest read_on) ∙ ap (λ (q : ℕ). with_front xs (codes_tail n (q ∷ bs))) (sym first) ∙ e)
