use Rattle.std.proofs.Common.{◌≡◌, ◌++◌, length, map}
use Rattle.sv_sections.specs.Includes.{joined}
use Rattle.sv_sections.proofs.includes.all_joined.Given as goal

abbrev pub invariant-loop-left : goal.invariant-loop-left
invariant-loop-left l = l.texts ++ map (joined l.here) l.left ≡ map (joined l.here) l.patterns

abbrev pub decreases-loop-left : goal.decreases-loop-left
decreases-loop-left l = length l.left
