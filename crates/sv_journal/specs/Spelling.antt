-- How bytes and numbers are spelled in a journal. Each list of bytes has one token, each number one
-- numeral.
use Rattle.std.specs.Prelude.{ℕ, ◌+◌, ◌/◌, ◌%◌, List, [], ◌∷◌, ◌++◌, Bool, ◌&&◌, not, nat_lt}
use Rattle.std.specs.Prelude.{nat_le, ◌==◌, if◌then◌else◌}
use Rattle.std.specs.List.{flat_map}
use Rattle.std.specs.Fmt.{decimal}
use Rattle.sv_base.specs.Ascii.{comma, percent_sign}

-- `!` to `~`, but for the percent sign
abbrev pub stands_for_itself : ℕ → Bool
stands_for_itself b = nat_le 33 b && nat_le b 126 && not (b == percent_sign)

-- an upper-case hexadecimal digit
abbrev pub hex_digit : ℕ → ℕ
hex_digit n = if nat_lt n 10 then 48 + n else 55 + n

-- a byte as it is, or its escape
abbrev pub byte_spelling : ℕ → List ℕ
byte_spelling b =
    if stands_for_itself b then b ∷ []
    else percent_sign ∷ hex_digit (b / 16) ∷ hex_digit (b % 16) ∷ []

-- each byte after the other
abbrev pub bytes_spelling : List ℕ → List ℕ
bytes_spelling bytes = flat_map byte_spelling bytes

-- the empty list is a lone percent sign
abbrev pub token : List ℕ → List ℕ
token [] = percent_sign ∷ []
token (b ∷ bs) = bytes_spelling (b ∷ bs)

-- numbers parted by commas
abbrev pub comma_list : List ℕ → List ℕ
comma_list [] = []
comma_list (n ∷ []) = decimal n
comma_list (n ∷ m ∷ ns) = decimal n ++ comma ∷ comma_list (m ∷ ns)
