-- The processes of all programs and listeners (step 5), or the first fault.
use Rattle.std.specs.Prelude.{ℕ, suc, List, [], ◌∷◌, Bool, true, false}
use Rattle.std.specs.Prelude.{Option, Some, None, Result, Ok, Err, map, codes, length}
use Rattle.std.specs.List.{list_any}
use Rattle.sv_base.specs.declared.config.Host.{Host}
use Rattle.sv_base.specs.declared.spec.GroupSpec.{GroupSpec}
use Rattle.sv_sections.specs.Programs.Homes.{all_named, homes_of, own_home, with_parts}
use Rattle.sv_expand.specs.Results.{and_then}
use Rattle.sv_keys.specs.KeyTable.{Keys}
use Rattle.sv_sections.specs.Programs.Processes.{with_next, part_of, needs_number}
use Rattle.sv_keys.specs.ProgramNames.{titled}
use Rattle.sv_sections.specs.SectionFaults.{or_missing, or_section_fault}
use Rattle.sv_sections.specs.declared.fault.ConfFault.{ConfFault}
use Rattle.sv_sections.specs.declared.fault.ConfFault.TheVariants.{NeedsNumber}
use Rattle.sv_sections.specs.declared.programs.homes.Home.{Home}
use Rattle.sv_sections.specs.declared.programs.homes.Named.{Named}
use Rattle.sv_sections.specs.declared.programs.homes.Part.{Part}
use Rattle.sv_keys.specs.declared.judged.KeyFault.{KeyFault}
use Rattle.sv_keys.specs.declared.key.Key.TheVariants as key
use Rattle.sv_sections.specs.declared.server.Common.{Common}
use Rattle.sv_ini.specs.declared.section.Section.{Section}
use Rattle.sv_sections.specs.SectionFaults.{check_name}

-- 5. The programs and listeners.
abbrev pub with_place : ℕ → Result GroupSpec KeyFault → Result Part KeyFault
with_place place (Ok group) = Ok (record { place = place; group = group })
with_place place (Err fault) = Err fault

-- the processes of a section in each of its groups
abbrev pub parts_from : Host → Common → Bool → List ℕ → Keys → Result (List Part) KeyFault
    → List Home → Result (List Part) KeyFault
parts_from host common listener program keys done [] = done
parts_from host common listener program keys done (home ∷ homes) =
    parts_from host common listener program keys
    (with_next done (with_place home.place (part_of host common listener program keys home.group)))
    homes

-- several processes of a section want a number in their name
unfoldable pub need_numbers : Host → List ℕ → Keys → List Part → Bool
need_numbers host program keys parts =
    list_any
    (λ (p : Part). needs_number host program keys p.group.name (length p.group.members)) parts

-- the fault where numbers are wanted
abbrev pub numbered_by : Bool → List ℕ → List Part → Result (List Part) ConfFault
numbered_by true title parts = Err (NeedsNumber title)
numbered_by false title parts = Ok parts

-- the processes, or the fault that their names want a number
unfoldable pub numbered : Host → List ℕ → List ℕ → Keys → List Part → Result (List Part) ConfFault
numbered host title program keys parts =
    numbered_by (need_numbers host program keys parts) title parts

-- a listener tells its events
abbrev pub has_events : Bool → List ℕ → Keys → Result Keys ConfFault
has_events true title keys = or_missing title key.Events keys
has_events false title keys = Ok keys

-- the processes of a section, or its first fault: the name, what is missing, the keys, the numbers
unfoldable pub program_parts : Host → Common → Bool → List ℕ → List ℕ → Keys → List Home
    → Result (List Part) ConfFault
program_parts host common listener title program keys homes =
    and_then (check_name title program) (λ good.
    and_then (or_missing title key.Command keys) (λ set.
    and_then (has_events listener title keys) (λ set.
    and_then (or_section_fault title (parts_from host common listener program keys (Ok []) homes))
    (λ parts.
    numbered host title program keys parts))))

-- the parts of the section at this place; a listener is always a group of its own
abbrev pub parts_by : Host → Common → List Named → ℕ → Section → Option (List ℕ) → Option (List ℕ)
    → Result (List Part) ConfFault
parts_by host common named place section (Some program) listener =
    program_parts host common false section.name program section.keys (homes_of place program named)
parts_by host common named place section None (Some listener) =
    program_parts host common true section.name listener section.keys (own_home place listener ∷ [])
parts_by host common named place section None None = Ok []

-- the processes of the section at this place, where it is a program or a listener
unfoldable pub parts_at : Host → Common → List Named → ℕ → Section → Result (List Part) ConfFault
parts_at host common named place section =
    parts_by host common named place section (titled (codes "program") section.name)
    (titled (codes "eventlistener") section.name)

-- the sections in turn, of which the next has this place; the parts of each group stand at the
-- place of its section
abbrev pub after_programs : Host → Common → List Named → ℕ → List (List GroupSpec) → List Section
    → Result (List (List GroupSpec)) ConfFault
after_programs host common named place parts [] = Ok parts
after_programs host common named place parts (section ∷ sections) =
    and_then (parts_at host common named place section) (λ more.
    after_programs host common named (suc place) (with_parts parts more) sections)

-- no section has processes at first
abbrev pub no_parts : Section → List GroupSpec
no_parts section = []

-- the processes of all sections, each at the places of its groups
unfoldable pub all_parts : Host → Common → List Section → Result (List (List GroupSpec)) ConfFault
all_parts host common sections =
    after_programs host common (all_named host sections) 0 (map no_parts sections) sections
