-- The keys of a section.
use Rattle.std.specs.Prelude.{ℕ, List, [], ◌∷◌, ◌++◌, nat_lt, length, replicate, slice_set}
use Rattle.std.specs.Prelude.{slice_index_or, if◌then◌else◌}
use Rattle.std.specs.List.{position_or_len}
use Rattle.std.specs.Str.{bytes_eq}
use Rattle.sv_base.specs.Ascii.{line_feed}
use Rattle.sv_moving.specs.declared.keys.Entry.{Entry}
use Rattle.sv_moving.specs.declared.keys.Spot.{Spot}

-- before the first line of the first text
abbrev pub no_spot : Spot
no_spot = record { text = 0; line = 0 }

-- a key for a place that doesn't exist
abbrev pub no_entry : Entry
no_entry = record { key = []; value = []; spot = no_spot }

-- where this key stands, or would be added
abbrev pub place_of_key : List ℕ → List Entry → ℕ
place_of_key key keys = position_or_len (λ (e : Entry). bytes_eq e.key key) keys

-- a key keeps the place of its first appearance and has its last value
abbrev pub with_entry : Entry → List Entry → List Entry
with_entry entry keys =
    if nat_lt (place_of_key entry.key keys) (length keys)
    then slice_set keys (place_of_key entry.key keys) entry
    else keys ++ entry ∷ []

-- a value with a further line, where so many blank lines stood before it
abbrev pub longer : ℕ → List ℕ → List ℕ → List ℕ
longer blanks line value = value ++ replicate blanks line_feed ++ line_feed ∷ line

-- the key at this place with a further line of its value
abbrev pub with_further : ℕ → ℕ → List ℕ → List Entry → List Entry
with_further place blanks line keys =
    let entry = slice_index_or keys place no_entry in
    slice_set keys place (record entry { value = longer blanks line entry.value })
