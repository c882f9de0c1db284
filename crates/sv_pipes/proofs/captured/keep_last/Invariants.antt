use Rattle.std.proofs.Common.{◌≡◌, length}
use Rattle.sv_pipes.specs.CaptureCut.{last_of}
use Rattle.sv_pipes.proofs.captured.keep_last.Given as goal

abbrev pub invariant-loop-body : goal.invariant-loop-body
invariant-loop-body l = last_of l.most l.body.items ≡ last_of l.most l.initial.body.items

abbrev pub decreases-loop-body : goal.decreases-loop-body
decreases-loop-body l = length l.body.items
