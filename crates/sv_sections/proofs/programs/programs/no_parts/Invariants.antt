use Rattle.std.proofs.Common.{◌≡◌, ◌++◌, length, map}
use Rattle.sv_sections.specs.Programs.Programs.{no_parts}
use Rattle.sv_sections.proofs.programs.programs.no_parts.Given as goal

abbrev pub invariant-loop-left : goal.invariant-loop-left
invariant-loop-left l = l.parts.items ++ map no_parts l.left ≡ map no_parts l.sections

abbrev pub decreases-loop-left : goal.decreases-loop-left
decreases-loop-left l = length l.left
