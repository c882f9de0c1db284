use Rattle.std.proofs.Common.{length}
use Rattle.sv_journal.specs.JournalLine.{AreTexts}
use Rattle.sv_journal.proofs.fits.are_texts.Given as goal

abbrev pub invariant-loop-left : goal.invariant-loop-left
invariant-loop-left l = AreTexts l.left → AreTexts l.texts

abbrev pub decreases-loop-left : goal.decreases-loop-left
decreases-loop-left l = length l.left
