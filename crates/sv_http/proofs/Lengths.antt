-- The length of a body, of which a number above the limit keeps no more than that.
use Rattle.std.proofs.Common.{◌≡◌, ◌+◌, ◌-◌, ◌*◌, ◌≤◌, ℕ, List, [], ◌∷◌, length, take, drop, get_or, sym, ap, ◌∙◌, arith, min}
use Rattle.std.proofs.lemmas.List.{take_all}
use Rattle.sv_http.specs.AskTable.{reply_limit}
use Rattle.sv_base.specs.SizeText.{number_of}

-- what is above the limit stays above it
pub capped : (number : ℕ) (digits : List ℕ)
    → min (number_of (min number (reply_limit + 1)) digits) (reply_limit + 1) ≡ min (number_of number digits) (reply_limit + 1)
capped number [] = omega arith
capped number (digit ∷ digits) =
    let next = 10 * number + (digit - 48) in
    let held = 10 * min number (reply_limit + 1) + (digit - 48) in
    let same : min held (reply_limit + 1) ≡ min next (reply_limit + 1) = omega arith in
    sym (capped held digits) ∙ ap (λ n. min (number_of n digits) (reply_limit + 1)) same ∙ capped next digits

pub capped_more : (number longer digit : ℕ) (digits : List ℕ) → longer ≡ min (10 * number + (digit - 48)) (reply_limit + 1)
    → min (number_of longer digits) (reply_limit + 1) ≡ min (number_of number (digit ∷ digits)) (reply_limit + 1)
capped_more number longer digit digits is =
    ap (λ n. min (number_of n digits) (reply_limit + 1)) is ∙ capped (10 * number + (digit - 48)) digits

pub digit_more : (number longer : ℕ) (digits : List ℕ) → 1 ≤ length digits
    → longer ≡ min (10 * number + (get_or digits 0 0 - 48)) (reply_limit + 1)
    → min (number_of longer (take (length digits - 1) (drop 1 digits))) (reply_limit + 1) ≡ min (number_of number digits) (reply_limit + 1)
digit_more number longer [] some is = absurd (omega (arith, some))
digit_more number longer (digit ∷ digits) some is =
    ap (λ rest. min (number_of longer rest) (reply_limit + 1)) (take_all (length (digit ∷ digits) - 1) digits (omega arith)) ∙ capped_more number longer digit digits is
