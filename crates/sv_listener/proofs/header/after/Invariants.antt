use Rattle.std.proofs.Common.{◌≡◌, length}
use Rattle.sv_pipes.specs.StreamCut.{rest_after}
use Rattle.sv_listener.proofs.header.after.Given as goal

abbrev pub invariant-loop-wanted : goal.invariant-loop-wanted
invariant-loop-wanted l = rest_after l.wanted l.rest ≡ rest_after l.word l.bytes

abbrev pub decreases-loop-wanted : goal.decreases-loop-wanted
decreases-loop-wanted l = length l.wanted
