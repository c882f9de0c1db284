use Rattle.std.proofs.Common.{◌≡◌, length}
use Rattle.sv_moving.specs.Differences.{said_of}
use Rattle.sv_moving.proofs.compared.said_of.Given as goal

abbrev pub invariant-loop-left : goal.invariant-loop-left
invariant-loop-left l = said_of l.meaning l.left ≡ said_of l.meaning l.meanings

abbrev pub decreases-loop-left : goal.decreases-loop-left
decreases-loop-left l = length l.left
