-- Which groups the processes of a section belong to. The groups stand at the places of the sections
-- that make them.
use Rattle.std.specs.Prelude.{ℕ, suc, List, [], ◌∷◌, ◌++◌, map, Option, Some, None, codes}
use Rattle.std.specs.Prelude.{slice_set, slice_index_or, if◌then◌else◌}
use Rattle.std.specs.Str.{bytes_eq}
use Rattle.sv_base.specs.declared.config.Host.{Host}
use Rattle.sv_base.specs.declared.spec.GroupSpec.{GroupSpec}
use Rattle.sv_keys.specs.KeyTable.{or_default}
use Rattle.sv_keys.specs.KnownNames.{host_names}
use Rattle.sv_keys.specs.ProgramNames.{titled}
use Rattle.sv_keys.specs.Rows.{needed}
use Rattle.sv_keys.specs.Values.{programs_of}
use Rattle.sv_sections.specs.declared.programs.homes.Home.{Home}
use Rattle.sv_sections.specs.declared.programs.homes.Part.{Part}
use Rattle.sv_sections.specs.declared.programs.homes.Named.{Named}
use Rattle.sv_keys.specs.declared.key.Key.TheVariants.{Programs}
use Rattle.sv_expand.specs.declared.names.Names.{Names}
use Rattle.sv_ini.specs.declared.section.Section.{Section}

-- a section that has this name as a group names these programs
abbrev pub named_by : Option (List ℕ) → List (List ℕ) → Named
named_by None programs = record { group = []; programs = [] }
named_by (Some group) programs = record { group = group; programs = programs }

-- the programs that a section names as a group; where its list is faulty it names none
unfoldable pub named_in : Names → Section → Named
named_in names section =
    named_by (titled (codes "group") section.name)
    (or_default [] (needed Programs programs_of section.keys names))

-- what all sections name as groups
unfoldable pub all_named : Host → List Section → List Named
all_named host sections = map (named_in (host_names host)) sections

-- once for each time that a group names the program
abbrev pub homes_in : ℕ → List ℕ → List ℕ → List (List ℕ) → List Home
homes_in place program group [] = []
homes_in place program group (name ∷ names) =
    if bytes_eq name program
    then record { place = place; group = group } ∷ homes_in place program group names
    else homes_in place program group names

-- the groups that name this program, in the order of their places
abbrev pub homes_from : ℕ → List ℕ → List Named → List Home
homes_from place program [] = []
homes_from place program (named ∷ others) =
    homes_in place program named.group named.programs ++ homes_from (suc place) program others

-- the group that a section makes for itself
abbrev pub own_home : ℕ → List ℕ → Home
own_home place program = record { place = place; group = program }

-- a program that no group names is a group of its own
abbrev pub or_own : ℕ → List ℕ → List Home → List Home
or_own place program [] = own_home place program ∷ []
or_own place program (home ∷ homes) = home ∷ homes

-- the groups of a program
unfoldable pub homes_of : ℕ → List ℕ → List Named → List Home
homes_of place program named = or_own place program (homes_from 0 program named)

-- the parts of each group, by its place
abbrev pub with_part : List (List GroupSpec) → Part → List (List GroupSpec)
with_part parts part =
    slice_set parts part.place (slice_index_or parts part.place [] ++ part.group ∷ [])

-- several parts in turn
abbrev pub with_parts : List (List GroupSpec) → List Part → List (List GroupSpec)
with_parts parts [] = parts
with_parts parts (part ∷ more) = with_parts (with_part parts part) more
