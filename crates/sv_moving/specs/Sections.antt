-- The sections that were read. A section keeps the place of its first appearance; `DEFAULT` is one of them.
use Rattle.std.specs.Prelude.{ℕ, List, [], ◌∷◌, ◌++◌, nat_lt, length, slice_set, slice_index_or}
use Rattle.std.specs.Prelude.{if◌then◌else◌}
use Rattle.std.specs.List.{position_or_len}
use Rattle.std.specs.Str.{bytes_eq}
use Rattle.sv_moving.specs.declared.keys.Entry.{Entry}
use Rattle.sv_moving.specs.declared.keys.Spot.{Spot}
use Rattle.sv_moving.specs.declared.sections.Section.{Section}
use Rattle.sv_moving.specs.Keys.{no_spot}

-- a section without a name or keys, for a place that doesn't exist
abbrev pub no_section : Section
no_section = record { name = []; spot = no_spot; keys = [] }

-- the section at this place
abbrev pub section_at : ℕ → List Section → Section
section_at place sections = slice_index_or sections place no_section

-- where a section of this name stands, or would be added
abbrev pub place_of_section : List ℕ → List Section → ℕ
place_of_section name sections = position_or_len (λ (s : Section). bytes_eq s.name name) sections

-- a section of this name, which is opened here for the first time or not
abbrev pub with_section : List ℕ → Spot → List Section → List Section
with_section name spot sections =
    if nat_lt (place_of_section name sections) (length sections) then sections
    else sections ++ record { name = name; spot = spot; keys = [] } ∷ []

-- the section with these keys in place of its own
abbrev pub with_keys : Section → List Entry → Section
with_keys section keys = record section { keys = keys }

-- a change of the keys of the section at this place
abbrev pub in_section : ℕ → (List Entry → List Entry) → List Section → List Section
in_section place change sections =
    slice_set sections place
    (with_keys (section_at place sections) (change (section_at place sections).keys))
