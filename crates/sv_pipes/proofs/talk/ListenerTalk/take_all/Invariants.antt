use Rattle.std.proofs.Common.{◌≡◌, length}
use Rattle.sv_pipes.specs.TalkPlaces.{shown, steps}
use Rattle.sv_pipes.proofs.talk.ListenerTalk.take_all.Given as goal

abbrev pub invariant-loop-rest : goal.invariant-loop-rest
invariant-loop-rest l = steps (shown l.self l.tokens.items) l.rest ≡ steps (shown l.initial.self l.initial.tokens.items) l.piece

abbrev pub decreases-loop-rest : goal.decreases-loop-rest
decreases-loop-rest l = length l.rest
