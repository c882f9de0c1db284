use Rattle.std.proofs.Common.{◌≡◌, ◌++◌, length}
use Rattle.sv_ctl.specs.Talk.Conversation.{joined}
use Rattle.sv_ctl.proofs.talk.words.joined.Given as goal

abbrev pub invariant-loop-left : goal.invariant-loop-left
invariant-loop-left l = l.text.items ++ joined l.left ≡ joined l.words

abbrev pub decreases-loop-left : goal.decreases-loop-left
decreases-loop-left l = length l.left
