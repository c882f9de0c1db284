use Rattle.std.proofs.Common.{◌≡◌, ◌++◌, length}
use Rattle.sv_sections.proofs.programs.homes.copied.Given as goal

abbrev pub invariant-loop-left : goal.invariant-loop-left
invariant-loop-left l = l.copy ++ l.left ≡ l.homes

abbrev pub decreases-loop-left : goal.decreases-loop-left
decreases-loop-left l = length l.left
