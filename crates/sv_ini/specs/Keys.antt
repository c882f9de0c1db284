-- The keys of a section.
use Rattle.std.specs.Prelude.{ℕ, List, [], ◌∷◌, ◌++◌, nat_lt, length, slice_set, slice_index_or}
use Rattle.std.specs.Prelude.{if◌then◌else◌}
use Rattle.std.specs.List.{position_or_len}
use Rattle.std.specs.Str.{bytes_eq}
use Rattle.sv_base.specs.Ascii.{line_feed}
use Rattle.sv_ini.specs.declared.section.Section.{Section}

-- where this key stands, or would be added
abbrev pub place_of_key : List ℕ → List (List ℕ × List ℕ) → ℕ
place_of_key key keys = position_or_len (λ (k : List ℕ × List ℕ). bytes_eq k.0 key) keys

-- a key keeps the place of its first appearance and has its last value
abbrev pub with_key : List ℕ → List ℕ → List (List ℕ × List ℕ) → List (List ℕ × List ℕ)
with_key key value keys =
    if nat_lt (place_of_key key keys) (length keys)
    then slice_set keys (place_of_key key keys) (key, value)
    else keys ++ (key, value) ∷ []

-- a value that goes on: its lines are joined with a line feed
abbrev pub with_further : ℕ → List ℕ → List (List ℕ × List ℕ) → List (List ℕ × List ℕ)
with_further place text keys =
    let entry = slice_index_or keys place ([], []) in
    slice_set keys place (entry.0, entry.1 ++ line_feed ∷ text)

-- the section with these keys in place of its own
abbrev pub with_keys : Section → List (List ℕ × List ℕ) → Section
with_keys section keys = record section { keys = keys }
