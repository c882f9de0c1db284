-- Sections whose keys, but the name of a process, are read once for all of their processes in all
-- of their groups.
use Rattle.std.specs.Prelude.{◌≡◌, ◌+◌, ℕ, zero, suc, List, [], ◌∷◌, ◌++◌, Bool, true, false, ◌||◌}
use Rattle.std.specs.Prelude.{Result, Ok, Err, is_ok, codes, length, if◌then◌else◌}
use Rattle.std.specs.Str.{bytes_eq}
use Rattle.sv_base.specs.declared.config.Host.{Host}
use Rattle.sv_base.specs.declared.spec.GroupSpec.{GroupSpec}
use Rattle.sv_conf.specs.Emptied.{mapped, emptied}
use Rattle.sv_conf.specs.declared.counted.Counted.{Counted}
use Rattle.sv_keys.specs.KeyTable.{Keys, draft_of, settings_of}
use Rattle.sv_keys.specs.KnownNames.{host_pairs, without_numbers, with_count, with_process}
use Rattle.sv_keys.specs.ProgramNames.{name_of}
use Rattle.sv_keys.specs.Rows.{row}
use Rattle.sv_keys.specs.declared.judged.KeyFault.{KeyFault}
use Rattle.sv_keys.specs.declared.key.Key.TheVariants.{ProcessName}
use Rattle.sv_keys.specs.declared.table.Settings.{Settings}
use Rattle.sv_sections.specs.Programs.Processes.{part_of, needs_number}
use Rattle.sv_sections.specs.declared.programs.homes.Home.{Home}
use Rattle.sv_sections.specs.declared.server.Common.{Common}

-- what stands in values whatever the group is
abbrev pub section_pairs : Host → List ℕ → List (List ℕ × List ℕ)
section_pairs host program = host_pairs host ++ (codes "program_name", program) ∷ []

-- another name stands in for that of a process
abbrev pub with_stand_in : Keys → Keys
with_stand_in keys = (codes "process_name", codes "x") ∷ keys

-- one name more
abbrev pub with_name : (List ℕ → Bool) → List ℕ → List ℕ → Bool
with_name has name other = bytes_eq name other || has other

-- a name that isn't among those before it, and what is asked of those behind it
abbrev pub then_new : Result (List ℕ) KeyFault → (List ℕ → Bool) → ((List ℕ → Bool) → Bool) → Bool
then_new (Ok name) has more = if has name then false else more (with_name has name)
then_new (Err fault) has more = false

-- so many further processes, of which the next has this number, have each a name of its own
abbrev pub have_names : List ℕ → Keys → Keys → ℕ → (List ℕ → Bool) → ℕ → ℕ → Bool
have_names program keys pairs count has process zero = true
have_names program keys pairs count has process (suc left) =
    then_new (row ProcessName name_of program keys (with_process pairs count process)) has
    (λ now. have_names program keys pairs count now (process + 1) left)

-- these settings, and the keys but the name of a process, are read with these pairs alone, and each
-- process has a name of its own
pub record AreOnce (listener : Bool) (program : List ℕ) (keys pairs : Keys) (settings : Settings)
    : Type 0 where
  pub read : settings_of listener keys (without_numbers pairs) ≡ Ok settings
  pub drafted : is_ok
      (draft_of listener program (with_stand_in keys) (with_count pairs settings.count)) ≡ true
  pub named : have_names program keys pairs settings.count (λ _. false) settings.start
      settings.count ≡ true

-- a group of which only the number of processes is known, which have each a name of its own
abbrev pub sized_by : Settings → List ℕ → GroupSpec × ℕ
sized_by settings group = (
  record { name = group; priority = settings.priority; members = []; pool = settings.pool },
  settings.count,
)

-- these settings tell the processes of a section in each group
abbrev pub ReadsOnce : Host → Common → Bool → List ℕ → Keys → Settings → Type 0
ReadsOnce host common listener program keys settings =
    (group : List ℕ)
    → mapped (λ (part : GroupSpec). (emptied part, length part.members))
    (part_of host common listener program keys group)
    ≡ Ok (sized_by settings group)

-- the processes that these settings tell in a group
abbrev pub counted_once : Host → List ℕ → Keys → Settings → Home → Counted
counted_once host program keys settings home = record {
  place = home.place;
  group = (sized_by settings home.group).0;
  count = settings.count;
  needs = needs_number host program keys home.group settings.count;
}
