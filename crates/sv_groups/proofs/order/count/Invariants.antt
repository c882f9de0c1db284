use Rattle.std.proofs.Common.{◌≡◌, ◌+◌, length}
use Rattle.sv_groups.specs.StartOrder.{processes}
use Rattle.sv_groups.proofs.order.count.Given as goal

abbrev pub invariant-loop-left : goal.invariant-loop-left
invariant-loop-left l = record { whole : l.count + length (processes l.left) ≡ length (processes l.groups) }

abbrev pub decreases-loop-left : goal.decreases-loop-left
decreases-loop-left l = length l.left
