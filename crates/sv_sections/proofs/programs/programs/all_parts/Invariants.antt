use Rattle.std.proofs.Common.{◌≡◌, ◌≤◌, ◌+◌, length}
use Rattle.sv_sections.specs.Programs.Programs.{after_programs, all_parts}
use Rattle.sv_sections.specs.Programs.Homes.{all_named}
use Rattle.sv_sections.proofs.programs.programs.all_parts.Given as goal

abbrev pub invariant-loop-left : goal.invariant-loop-left
invariant-loop-left l = record { same : after_programs l.host l.common (all_named l.host l.sections) l.place l.parts.items l.left ≡ all_parts l.host l.common l.sections; few : l.place + length l.left ≤ length l.sections }

abbrev pub decreases-loop-left : goal.decreases-loop-left
decreases-loop-left l = length l.left
