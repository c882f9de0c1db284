-- Where the two readings of a configuration differ: sections, keys and values.
use Rattle.std.specs.Prelude.{ℕ, List, [], ◌∷◌, ◌++◌, Bool, ◌&&◌, Option, Some, None, map}
use Rattle.std.specs.Prelude.{if◌then◌else◌}
use Rattle.std.specs.List.{find, flat_map}
use Rattle.std.specs.Str.{bytes_eq}
use Rattle.sv_ini.specs.declared.section.Section.{Section as SectionHere}
use Rattle.sv_moving.specs.declared.compared.Difference.{Difference}
use Rattle.sv_moving.specs.declared.compared.Difference.TheVariants.{OnlyThere, OnlyHere, Changed}
use Rattle.sv_moving.specs.declared.keys.Entry.{Entry}
use Rattle.sv_moving.specs.declared.meaning.Meaning.{Meaning}
use Rattle.sv_moving.specs.declared.sections.Section.{Section}
use Rattle.sv_moving.specs.Keys.{no_spot}

-- a key of this section says that it has its value
abbrev pub key_there : List ℕ → Entry → Meaning
key_there section e = record { section = section; key = e.key; value = e.value; spot = e.spot }

-- a section says that it is there, and what its keys say
abbrev pub said_there : Section → List Meaning
said_there s = record { section = s.name; key = []; value = []; spot = s.spot } ∷ map (key_there s.name) s.keys

-- all that a configuration says in Supervisor's reading
abbrev pub all_there : List Section → List Meaning
all_there sections = flat_map said_there sections

-- the same of this project's reading, which doesn't tell the places
abbrev pub key_here : List ℕ → List ℕ × List ℕ → Meaning
key_here section k = record { section = section; key = k.0; value = k.1; spot = no_spot }

abbrev pub said_here : SectionHere → List Meaning
said_here s = record { section = s.name; key = []; value = []; spot = no_spot } ∷ map (key_here s.name) s.keys

abbrev pub all_here : List SectionHere → List Meaning
all_here sections = flat_map said_here sections

-- whether both speak of the same key of the same section
abbrev pub is_same : Meaning → Meaning → Bool
is_same one other = bytes_eq one.section other.section && bytes_eq one.key other.key

-- what is said of the key of which this one speaks
abbrev pub said_of : Meaning → List Meaning → Option Meaning
said_of meaning meanings = find (is_same meaning) meanings

-- how a meaning there differs from what is said here of the same key
abbrev pub against : Meaning → Option Meaning → List Difference
against there None = OnlyThere there ∷ []
against there (Some here) =
    if bytes_eq there.value here.value then [] else Changed there here.value ∷ []

-- a meaning here of which nothing is said there
abbrev pub alone : Meaning → Option Meaning → List Difference
alone here None = OnlyHere here ∷ []
alone here (Some there) = []

abbrev pub differs_there : List Meaning → Meaning → List Difference
differs_there here meaning = against meaning (said_of meaning here)

abbrev pub only_here : List Meaning → Meaning → List Difference
only_here there meaning = alone meaning (said_of meaning there)

-- where the two differ: a section or a key that only one of them has, and a key with two values
abbrev pub differences : List Meaning → List Meaning → List Difference
differences there here = flat_map (differs_there here) there ++ flat_map (only_here there) here
