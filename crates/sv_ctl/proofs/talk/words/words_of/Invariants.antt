use Rattle.std.proofs.Common.{◌≡◌, ◌++◌, length}
use Rattle.std.specs.Str.{IsUtf8}
use Rattle.sv_ctl.specs.Talk.Conversation.{words_of}
use Rattle.sv_ctl.proofs.talk.words.words_of.Given as goal

abbrev pub invariant-loop-cut : goal.invariant-loop-cut
invariant-loop-cut l = record { same : l.words ++ words_of l.left ≡ words_of l.line; valid : IsUtf8 l.left }

abbrev pub decreases-loop-cut : goal.decreases-loop-cut
decreases-loop-cut l = length l.left
