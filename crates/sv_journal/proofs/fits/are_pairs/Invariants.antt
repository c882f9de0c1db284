use Rattle.std.proofs.Common.{length}
use Rattle.sv_journal.specs.Orders.{ArePairs}
use Rattle.sv_journal.proofs.fits.are_pairs.Given as goal

abbrev pub invariant-loop-left : goal.invariant-loop-left
invariant-loop-left l = ArePairs l.left → ArePairs l.pairs

abbrev pub decreases-loop-left : goal.decreases-loop-left
decreases-loop-left l = length l.left
