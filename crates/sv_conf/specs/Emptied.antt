-- Processes that are judged and not kept.
use Rattle.std.specs.Prelude.{ℕ, List, [], Bool, Option, Some, None, Result, Ok, Err, length}
use Rattle.sv_base.specs.declared.config.Host.{Host}
use Rattle.sv_base.specs.declared.spec.GroupSpec.{GroupSpec}
use Rattle.sv_base.specs.declared.spec.Spec.{Spec}
use Rattle.sv_conf.specs.Duplicates.{first_twice}
use Rattle.sv_conf.specs.declared.counted.Counted.{Counted}
use Rattle.sv_keys.specs.KeyTable.{Keys}
use Rattle.sv_keys.specs.declared.judged.KeyFault.{KeyFault}
use Rattle.sv_sections.specs.Programs.Processes.{part_of, needs_number}
use Rattle.sv_sections.specs.Programs.Programs.{with_place}
use Rattle.sv_sections.specs.declared.programs.homes.Home.{Home}
use Rattle.sv_sections.specs.declared.programs.homes.Part.{Part}
use Rattle.sv_sections.specs.declared.server.Common.{Common}

-- a value changed, or the same fault
abbrev pub mapped : {A B E : Type 0} → (A → B) → Result A E → Result B E
mapped change (Ok value) = Ok (change value)
mapped change (Err fault) = Err fault

-- processes are kept where one of their names stands twice
abbrev pub kept_if : Option (List ℕ) → List Spec → List Spec
kept_if None members = []
kept_if (Some name) members = members

-- a group without its processes, where each of their names stands once
abbrev pub emptied : GroupSpec → GroupSpec
emptied group = record group { members = kept_if (first_twice [] group.members) group.members }

-- the processes of a section in a group, counted
abbrev pub counted_of : Host → List ℕ → Keys → Part → Counted
counted_of host program keys part = record {
  place = part.place;
  group = emptied part.group;
  count = length part.group.members;
  needs = needs_number host program keys part.group.name (length part.group.members);
}

-- the processes of a section in this group, counted, or their fault
abbrev pub counted_in : Host → Common → Bool → List ℕ → Keys → Home → Result Counted KeyFault
counted_in host common listener program keys home =
    mapped (counted_of host program keys)
    (with_place home.place (part_of host common listener program keys home.group))
