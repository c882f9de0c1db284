-- A name as commands give it: `group:process`, `group:*` or `group:` for a whole group, or a bare
-- name, which is both.
use Rattle.std.specs.Prelude.{List, [], ◌∷◌, ℕ, Bool, nat_eq, nat_lt, length, codes, Option, Some}
use Rattle.std.specs.Prelude.{None, if◌then◌else◌}
use Rattle.std.specs.List.{before_first, after_first, position_or_len}
use Rattle.std.specs.Str.{bytes_eq}

-- a colon
abbrev pub is_colon : ℕ → Bool
is_colon byte = nat_eq byte 58

-- the process that the part after the colon names: none is the whole group
abbrev pub member_of : List ℕ → Option (List ℕ)
member_of [] = None
member_of (byte ∷ bytes) = if bytes_eq (byte ∷ bytes) (codes "*") then None else Some (byte ∷ bytes)

-- the group and the process of a name; the first colon cuts
abbrev pub split_of : List ℕ → List ℕ × Option (List ℕ)
split_of text =
    if nat_lt (position_or_len is_colon text) (length text)
    then (before_first is_colon text, member_of (after_first is_colon text))
    else (text, Some text)
