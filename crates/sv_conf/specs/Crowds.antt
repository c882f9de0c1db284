-- The processes of all sections, judged as step 5 does it, of which none is kept but those of a
-- section in a group that have a name twice.
use Rattle.std.specs.Prelude.{◌+◌, ◌-◌, ℕ, suc, List, [], ◌∷◌, Bool, true, false, Option}
use Rattle.std.specs.Prelude.{Some, None, Result, Ok, Err}
use Rattle.std.specs.Prelude.{map, codes, length, nat_lt, if◌then◌else◌}
use Rattle.std.specs.List.{list_any}
use Rattle.sv_base.specs.declared.config.Host.{Host}
use Rattle.sv_base.specs.declared.spec.GroupSpec.{GroupSpec}
use Rattle.sv_conf.specs.Emptied.{emptied, counted_in}
use Rattle.sv_conf.specs.declared.counted.Counted.{Counted}
use Rattle.sv_conf.specs.declared.crowd.Crowd.{Crowd}
use Rattle.sv_expand.specs.Results.{and_then}
use Rattle.sv_ini.specs.declared.section.Section.{Section}
use Rattle.sv_keys.specs.KeyTable.{Keys}
use Rattle.sv_keys.specs.ProgramNames.{titled}
use Rattle.sv_keys.specs.declared.judged.KeyFault.{KeyFault}
use Rattle.sv_keys.specs.declared.key.Key.TheVariants as key
use Rattle.sv_sections.specs.Programs.Homes.{all_named, homes_of, own_home, with_part}
use Rattle.sv_sections.specs.Programs.Processes.{with_next}
use Rattle.sv_sections.specs.Programs.Programs.{has_events, no_parts}
use Rattle.sv_sections.specs.declared.programs.homes.Home.{Home}
use Rattle.sv_sections.specs.declared.programs.homes.Named.{Named}
use Rattle.sv_sections.specs.SectionFaults.{check_name, or_missing, or_section_fault}
use Rattle.sv_sections.specs.declared.fault.ConfFault.{ConfFault}
use Rattle.sv_sections.specs.declared.fault.ConfFault.TheVariants.{NeedsNumber}
use Rattle.sv_sections.specs.declared.server.Common.{Common}

-- how many processes a group's parts have
abbrev pub size_of : List GroupSpec → ℕ
size_of [] = 0
size_of (part ∷ parts) = length part.members + size_of parts

-- how many processes there are
abbrev pub total : List (List GroupSpec) → ℕ
total [] = 0
total (parts ∷ more) = size_of parts + total more

-- what is known of parts that aren't kept: past 1,024 processes no room is left
abbrev pub crowd_of : List (List GroupSpec) → Crowd
crowd_of parts = record { parts = map (map emptied) parts; room = 1025 - total parts }

-- the processes of a section in each of these groups, counted
abbrev pub counts_from : Host → Common → Bool → List ℕ → Keys → Result (List Counted) KeyFault
    → List Home → Result (List Counted) KeyFault
counts_from host common listener program keys done [] = done
counts_from host common listener program keys done (home ∷ homes) =
    counts_from host common listener program keys
    (with_next done (counted_in host common listener program keys home)) homes

-- the fault where numbers are wanted
abbrev pub numbered_if : Bool → List ℕ → List Counted → Result (List Counted) ConfFault
numbered_if true title counts = Err (NeedsNumber title)
numbered_if false title counts = Ok counts

-- some processes want a number in their name
abbrev pub are_unnumbered : List Counted → Bool
are_unnumbered counts = list_any (λ (counted : Counted). counted.needs) counts

-- the processes of a section in each of its groups, or its fault
unfoldable pub program_counts : Host → Common → Bool → List ℕ → List ℕ → Keys → List Home
    → Result (List Counted) ConfFault
program_counts host common listener title program keys homes =
    and_then (check_name title program) (λ good.
    and_then (or_missing title key.Command keys) (λ set.
    and_then (has_events listener title keys) (λ set.
    and_then (or_section_fault title (counts_from host common listener program keys (Ok []) homes))
    (λ counts.
    numbered_if (are_unnumbered counts) title counts))))

-- those of the section at this place
abbrev pub counts_by : Host → Common → List Named → ℕ → Section → Option (List ℕ)
    → Option (List ℕ) → Result (List Counted) ConfFault
counts_by host common named place section (Some program) listener =
    program_counts host common false section.name program section.keys (homes_of place program named)
counts_by host common named place section None (Some listener) =
    program_counts host common true section.name listener section.keys (own_home place listener ∷ [])
counts_by host common named place section None None = Ok []

-- the same, where it is a program or a listener
unfoldable pub counts_at : Host → Common → List Named → ℕ → Section → Result (List Counted) ConfFault
counts_at host common named place section =
    counts_by host common named place section (titled (codes "program") section.name)
    (titled (codes "eventlistener") section.name)

-- these parts and this room
abbrev pub crowd_with : List (List GroupSpec) → ℕ → Crowd
crowd_with parts room = record { parts = parts; room = room }

-- one part more
abbrev pub with_counted : Crowd → Counted → Crowd
with_counted crowd counted = record {
  parts = with_part crowd.parts (record { place = counted.place; group = counted.group });
  room = crowd.room - (if nat_lt counted.place (length crowd.parts) then counted.count else 0);
}

-- several in turn
abbrev pub with_counts : Crowd → List Counted → Crowd
with_counts crowd [] = crowd
with_counts crowd (counted ∷ more) = with_counts (with_counted crowd counted) more

-- the sections in turn, of which the next has this place
abbrev pub crowd_after : Host → Common → List Named → ℕ → Crowd → List Section → Result Crowd ConfFault
crowd_after host common named place crowd [] = Ok crowd
crowd_after host common named place crowd (section ∷ sections) =
    and_then (counts_at host common named place section) (λ counts.
    crowd_after host common named (suc place) (with_counts crowd counts) sections)

-- all sections
unfoldable pub whole_crowd : Host → Common → List Section → Result Crowd ConfFault
whole_crowd host common sections =
    crowd_after host common (all_named host sections) 0 (crowd_with (map no_parts sections) 1025)
    sections
