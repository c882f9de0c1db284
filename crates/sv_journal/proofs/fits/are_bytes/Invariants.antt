use Rattle.std.proofs.Common.{length}
use Rattle.sv_journal.specs.JournalLine.{AreBytes}
use Rattle.sv_journal.proofs.fits.are_bytes.Given as goal

abbrev pub invariant-loop-left : goal.invariant-loop-left
invariant-loop-left l = AreBytes l.left → AreBytes l.bytes

abbrev pub decreases-loop-left : goal.decreases-loop-left
decreases-loop-left l = length l.left
