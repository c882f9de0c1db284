-- A size in bytes as a configuration writes it: decimal digits, then nothing, KB, MB or GB in any
-- case of letters.
use Rattle.std.specs.Prelude.{List, [], ◌∷◌, ℕ, ◌+◌, ◌-◌, ◌*◌, ◌^◌, nat_lt, take, drop, codes}
use Rattle.std.specs.Prelude.{Option, Some, None, if◌then◌else◌}
use Rattle.std.specs.List.{prefix_len}
use Rattle.std.specs.Char.{is_ascii_digit}
use Rattle.std.specs.Str.{bytes_eq, str_to_ascii_lowercase}

-- the number that these digits write after a number
abbrev pub number_of : ℕ → List ℕ → ℕ
number_of number [] = number
number_of number (digit ∷ digits) = number_of (10 * number + (digit - 48)) digits

-- how many bytes one of this unit is, by the unit's word in lower case
abbrev pub unit_of : List ℕ → Option ℕ
unit_of word =
    if bytes_eq word [] then Some 1
    else (if bytes_eq word (codes "kb") then Some 1024
    else (if bytes_eq word (codes "mb") then Some 1048576
    else (if bytes_eq word (codes "gb") then Some 1073741824
    else None)))

-- so many of this unit, where there is such a unit and 64 bits hold them
abbrev pub sized : ℕ → Option ℕ → Option ℕ
sized number None = None
sized number (Some unit) = if nat_lt (number * unit) (2 ^ 64) then Some (number * unit) else None

-- the size that a text writes
abbrev pub size_of : List ℕ → Option ℕ
size_of text =
    let digits = prefix_len is_ascii_digit text in
    if nat_lt 0 digits
    then sized (number_of 0 (take digits text))
    (unit_of (str_to_ascii_lowercase (drop digits text)))
    else None
