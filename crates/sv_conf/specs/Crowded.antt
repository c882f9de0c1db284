-- Configurations with more processes than they may have, judged by what is known of processes that
-- aren't kept.
use Rattle.std.specs.Prelude.{◌==◌, ◌||◌, ℕ, List, [], Bool, true, Result, Ok, Err, length, nat_le, nat_lt}
use Rattle.std.specs.Prelude.{if◌then◌else◌}
use Rattle.std.specs.List.{list_all}
use Rattle.sv_base.specs.declared.config.Config.{Config}
use Rattle.sv_base.specs.declared.config.Host.{Host}
use Rattle.sv_base.specs.declared.spec.GroupSpec.{GroupSpec}
use Rattle.sv_conf.specs.Configuration.{◌>>=◌, all_groups, each_once, of_parts}
use Rattle.sv_conf.specs.declared.crowd.Crowd.{Crowd}
use Rattle.sv_ini.specs.declared.section.Section.{Section}
use Rattle.sv_sections.specs.Programs.Programs.{all_parts}
use Rattle.sv_sections.specs.declared.fault.ConfFault.{ConfFault}
use Rattle.sv_sections.specs.declared.fault.ConfFault.TheVariants.{TooMany}
use Rattle.sv_sections.specs.declared.server.Common.{Common}
use Rattle.sv_sections.specs.declared.server.Others.{Others}

-- each group has one part at most, so that a name that stands twice in it does so in its part
abbrev pub are_single : List (List GroupSpec) → Bool
are_single parts = list_all (λ (group : List GroupSpec). nat_le (length group) 1) parts

-- more than 256 groups, or no room for more processes
abbrev pub is_over : List GroupSpec → ℕ → Bool
is_over groups room = nat_lt 256 (length groups) || room == 0

-- 7 to 9, from what is known of the processes of all sections
unfoldable pub judged_crowd : Host → List Section → Crowd → Result Bool ConfFault
judged_crowd host sections crowd = do
  groups ← all_groups host sections crowd.parts
  once ← each_once [] groups
  if is_over groups crowd.room then Err TooMany else Ok true

-- 5 and 7 to 9, from the sections
unfoldable pub built : Host → Common → List Section → Others → Result Config ConfFault
built host common sections others = do
  parts ← all_parts host common sections
  of_parts host sections others parts

-- 5 to 9, from what the daemon's sections and its servers' were read as
unfoldable pub of_others : Host → Common → List Section → Result Others ConfFault
    → Result Config ConfFault
of_others host common sections others = do
  parts ← all_parts host common sections
  known ← others
  of_parts host sections known parts
