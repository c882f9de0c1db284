-- One of some bytes, as a token spells it: the byte, or the number of bytes that are left at the
-- first one with which the spelling of none of them goes on.
use Rattle.std.specs.Prelude.{ℕ, suc, ◌+◌, ◌*◌, List, [], ◌∷◌, length, Bool, ◌&&◌, not, ◌==◌}
use Rattle.std.specs.Prelude.{if◌then◌else◌, Result, Ok, Err}
use Rattle.std.specs.List.{list_any}
use Rattle.sv_base.specs.Ascii.{percent_sign}
use Rattle.sv_journal.specs.Spelling.{stands_for_itself}
use Rattle.sv_journal.specs.Tokens.{is_hex, hex_value, sixteen}
use Rattle.sv_journal.specs.Reading.{◌>>=◌}

-- it is one of these bytes, and is written as an escape
abbrev pub is_escape : (ℕ → Bool) → ℕ → Bool
is_escape comes b = comes b && not (stands_for_itself b)

-- the escape of one of these bytes begins with a digit of this value
abbrev pub begins_escape : (ℕ → Bool) → ℕ → Bool
begins_escape comes high = list_any (λ low. is_escape comes (16 * high + low)) sixteen

-- the escape of one of these bytes begins with this digit
abbrev pub is_first_of : (ℕ → Bool) → ℕ → Bool
is_first_of comes d = is_hex d && begins_escape comes (hex_value d)

-- and goes on with this one
abbrev pub is_second_of : (ℕ → Bool) → ℕ → ℕ → Bool
is_second_of comes high d = is_hex d && is_escape comes (16 * high + hex_value d)

-- the first digit of an escape
abbrev pub first_digit_of : (ℕ → Bool) → List ℕ → Result (ℕ × List ℕ) ℕ
first_digit_of comes [] = Err 0
first_digit_of comes (d ∷ bs) =
    if is_first_of comes d then Ok (hex_value d, bs) else Err (suc (length bs))

-- the byte whose second digit stands here
abbrev pub second_digit_of : (ℕ → Bool) → ℕ → List ℕ → Result (ℕ × List ℕ) ℕ
second_digit_of comes high [] = Err 0
second_digit_of comes high (d ∷ bs) =
    if is_second_of comes high d then Ok (16 * high + hex_value d, bs) else Err (suc (length bs))

-- the byte whose escape goes on here, after its percent sign
abbrev pub escape_of : (ℕ → Bool) → List ℕ → Result (ℕ × List ℕ) ℕ
escape_of comes bs = first_digit_of comes bs >>= (λ first. second_digit_of comes first.0 first.1)

-- the byte that is spelled here
abbrev pub byte_of : (ℕ → Bool) → List ℕ → Result (ℕ × List ℕ) ℕ
byte_of comes [] = Err 0
byte_of comes (b ∷ bs) =
    if b == percent_sign then escape_of comes bs
    else if stands_for_itself b && comes b then Ok (b, bs)
    else Err (suc (length bs))
