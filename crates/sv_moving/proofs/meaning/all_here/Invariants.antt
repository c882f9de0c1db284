use Rattle.std.proofs.Common.{◌≡◌, ◌++◌, length}
use Rattle.std.specs.List.{flat_map}
use Rattle.sv_moving.specs.Differences.{said_here, all_here}
use Rattle.sv_moving.proofs.meaning.all_here.Given as goal

abbrev pub invariant-loop-left : goal.invariant-loop-left
invariant-loop-left l = l.meanings ++ flat_map said_here l.left ≡ all_here l.sections

abbrev pub decreases-loop-left : goal.decreases-loop-left
decreases-loop-left l = length l.left
