use Rattle.std.proofs.Common.{◌≡◌, length}
use Rattle.sv_journal.specs.Reading.{keyword_from, keyword_at}
use Rattle.sv_journal.proofs.word.keyword.Given as goal

abbrev pub invariant-loop-left : goal.invariant-loop-left
invariant-loop-left g l = keyword_from g.W.Spelled.spelling_of l.left l.least l.bytes ≡ keyword_at g.W.Spelled.spelling_of l.words l.bytes

abbrev pub decreases-loop-left : goal.decreases-loop-left
decreases-loop-left g l = length l.left
