use Rattle.std.proofs.Common.{◌≡◌, length}
use Rattle.sv_journal.specs.Reading.{word_at}
use Rattle.sv_journal.proofs.word.word.Given as goal

abbrev pub invariant-loop-left : goal.invariant-loop-left
invariant-loop-left l = word_at l.left l.rest ≡ word_at l.wanted l.bytes

abbrev pub decreases-loop-left : goal.decreases-loop-left
decreases-loop-left l = length l.left
