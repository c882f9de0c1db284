use Rattle.std.proofs.Common.{◌≡◌, ◌++◌, length}
use Rattle.sv_conf.specs.Once.{with_stand_in}
use Rattle.sv_conf.proofs.once.with_stand_in.Given as goal

abbrev pub invariant-loop-left : goal.invariant-loop-left
invariant-loop-left l = l.changed ++ l.left ≡ with_stand_in l.keys

abbrev pub decreases-loop-left : goal.decreases-loop-left
decreases-loop-left l = length l.left
