-- Which bytes of a token are escapes, and the digits of an escape.
use Rattle.std.specs.Prelude.{ℕ, ◌+◌, ◌-◌, ◌*◌, List, [], ◌∷◌, Bool, ◌&&◌, ◌||◌, not}
use Rattle.std.specs.Prelude.{nat_le, if◌then◌else◌}
use Rattle.std.specs.List.{list_any}
use Rattle.sv_letters.specs.Letters.{allows}
use Rattle.sv_letters.specs.declared.letters.Letters.{Letters}
use Rattle.sv_letters.specs.declared.letters.Awaits.{Awaits}
use Rattle.sv_journal.specs.Spelling.{stands_for_itself}

-- such a byte may come, and is written as an escape
abbrev pub escapes : Letters → Awaits → ℕ → Bool
escapes letters awaits b = allows letters awaits b && not (stands_for_itself b)

-- an upper-case hexadecimal digit
abbrev pub is_hex : ℕ → Bool
is_hex d = (nat_le 48 d && nat_le d 57) || (nat_le 65 d && nat_le d 70)

-- its value
abbrev pub hex_value : ℕ → ℕ
hex_value d = if nat_le d 57 then d - 48 else d - 55

-- the values of one digit
abbrev pub sixteen : List ℕ
sixteen = 0 ∷ 1 ∷ 2 ∷ 3 ∷ 4 ∷ 5 ∷ 6 ∷ 7 ∷ 8 ∷ 9 ∷ 10 ∷ 11 ∷ 12 ∷ 13 ∷ 14 ∷ 15 ∷ []

-- some byte that may come is an escape that begins with this digit
abbrev pub may_begin : Letters → Awaits → ℕ → Bool
may_begin letters awaits high = list_any (λ low. escapes letters awaits (16 * high + low)) sixteen

-- some byte that may come has an escape that begins with this digit
abbrev pub is_first_digit : Letters → Awaits → ℕ → Bool
is_first_digit letters awaits d = is_hex d && may_begin letters awaits (hex_value d)

-- the escape of some byte that may come goes on with this digit
abbrev pub is_second_digit : Letters → Awaits → ℕ → ℕ → Bool
is_second_digit letters awaits high d = is_hex d && escapes letters awaits (16 * high + hex_value d)
