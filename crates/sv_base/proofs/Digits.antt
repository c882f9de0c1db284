use Rattle.std.proofs.Common.{◌≡◌, ◌+◌, ◌-◌, ◌*◌, ◌<◌, ◌≤◌, ℕ, List, [], ◌∷◌, length, drop, get_or, arith, add-one, drop-cons}
use Rattle.sv_base.specs.SizeText.{number_of}

-- further digits make no number smaller
pub grows : (digits : List ℕ) (number : ℕ) → number ≤ number_of number digits
grows [] number = omega arith
grows (digit ∷ digits) number = omega (arith, grows digits (10 * number + (digit - 48)))

-- the next digit goes into the number
pub next_digit : (digits : List ℕ) (number i : ℕ) → i < length digits
    → number_of number (drop i digits) ≡ number_of (10 * number + (get_or digits i 0 - 48)) (drop (i + 1) digits)
next_digit digits number i within = rw (add-one i, drop-cons digits i 0)

-- a number that is too large before the last digit stays so
pub stays_large : (digits : List ℕ) (number i limit : ℕ) → i < length digits
    → number_of 0 digits ≡ number_of number (drop i digits)
    → limit ≤ 10 * number + (get_or digits i 0 - 48) → limit ≤ number_of 0 digits
stays_large digits number i limit within same large =
    omega (arith, next_digit digits number i within, grows (drop (i + 1) digits) (10 * number + (get_or digits i 0 - 48)))
