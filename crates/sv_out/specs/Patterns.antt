-- Which names a pattern matches: `*` is any run without `/`, `?` is one character but `/`.
use Rattle.std.specs.Prelude.{◌==◌, ◌&&◌, ◌||◌, ℕ, List, [], ◌∷◌, Bool, true, false, drop, not}
use Rattle.std.specs.Prelude.{nat_le, nat_lt, if◌then◌else◌}
use Rattle.std.specs.List.{prefix_len}
use Rattle.sv_base.specs.Ascii.{asterisk, question_mark, slash}

-- a further byte of a character of several bytes
abbrev pub is_further : ℕ → Bool
is_further byte = nat_le 128 byte && nat_lt byte 192

-- the rest of the pattern matches what is left after some run without `/`
abbrev pub behind_run : (List ℕ → Bool) → List ℕ → Bool
behind_run rest [] = rest []
behind_run rest (byte ∷ name) = rest (byte ∷ name) || (not (byte == slash) && behind_run rest name)

-- the rest of the pattern matches what is left after one character but `/`
abbrev pub behind_character : (List ℕ → Bool) → List ℕ → Bool
behind_character rest [] = false
behind_character rest (byte ∷ name) =
    not (byte == slash) && rest (drop (prefix_len is_further name) name)

-- the rest of the pattern matches what is left after this byte
abbrev pub behind_byte : ℕ → (List ℕ → Bool) → List ℕ → Bool
behind_byte wanted rest [] = false
behind_byte wanted rest (byte ∷ name) = byte == wanted && rest name

-- there is nothing left
abbrev pub is_over : List ℕ → Bool
is_over [] = true
is_over (byte ∷ name) = false

-- whether a pattern matches a name
abbrev pub matches : List ℕ → List ℕ → Bool
matches [] name = is_over name
matches (byte ∷ pattern) name =
    if byte == asterisk then behind_run (matches pattern) name
    else if byte == question_mark then behind_character (matches pattern) name
    else behind_byte byte (matches pattern) name
