-- How many processes a configuration promises: that of its sections' groups and of their numprocs.
use Rattle.std.specs.Prelude.{◌-◌, ◌==◌, ℕ, suc, List, [], ◌∷◌, Bool, Option, Some, None, codes}
use Rattle.sv_base.specs.declared.config.Host.{Host}
use Rattle.sv_keys.specs.KeyTable.{Keys, or_default, numprocs}
use Rattle.sv_keys.specs.KnownNames.{program_pairs, without_numbers}
use Rattle.sv_keys.specs.ProgramNames.{titled}
use Rattle.sv_ini.specs.declared.section.Section.{Section}
use Rattle.sv_sections.specs.Programs.Homes.{all_named, homes_of, own_home}
use Rattle.sv_sections.specs.declared.programs.homes.Home.{Home}
use Rattle.sv_sections.specs.declared.programs.homes.Named.{Named}

-- how many a section promises in a group
unfoldable pub promised_in : Host → List ℕ → Keys → List ℕ → ℕ
promised_in host program keys group =
    or_default 1 (numprocs keys (without_numbers (program_pairs host program group)))

-- the room that is left after those of these groups
abbrev pub room_in : Host → List ℕ → Keys → List Home → ℕ → ℕ
room_in host program keys [] room = room
room_in host program keys (home ∷ homes) room =
    room_in host program keys homes (room - promised_in host program keys home.group)

-- the room that is left after those of a section
abbrev pub room_by : Host → List Named → ℕ → Section → Option (List ℕ) → Option (List ℕ) → ℕ → ℕ
room_by host named place section (Some program) listener room =
    room_in host program section.keys (homes_of place program named) room
room_by host named place section None (Some listener) room =
    room_in host listener section.keys (own_home place listener ∷ []) room
room_by host named place section None None room = room

-- the same, by the section's title
unfoldable pub room_at : Host → List Named → ℕ → Section → ℕ → ℕ
room_at host named place section room =
    room_by host named place section (titled (codes "program") section.name)
    (titled (codes "eventlistener") section.name) room

-- the sections in turn, of which the next has this place
abbrev pub room_after : Host → List Named → ℕ → List Section → ℕ → ℕ
room_after host named place [] room = room
room_after host named place (section ∷ sections) room =
    room_after host named (suc place) sections (room_at host named place section room)

-- more processes are promised than a configuration may have
unfoldable pub is_crowded : Host → List Section → Bool
is_crowded host sections = room_after host (all_named host sections) 0 sections 1025 == 0
