use Rattle.std.proofs.Common.{◌≡◌, length}
use Rattle.sv_out.specs.Rising.{rise}
use Rattle.sv_out.proofs.rising.rise.Given as goal

abbrev pub invariant-loop-left : goal.invariant-loop-left
invariant-loop-left l = rise l.left ≡ rise l.names

abbrev pub decreases-loop-left : goal.decreases-loop-left
decreases-loop-left l = length l.left
