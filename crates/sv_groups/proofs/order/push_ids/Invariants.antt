use Rattle.std.proofs.Common.{◌≡◌, ◌+◌, ◌++◌, length}
use Rattle.sv_groups.specs.StartOrder.{ids_from}
use Rattle.sv_groups.proofs.order.push_ids.Given as goal

abbrev pub invariant-loop-left : goal.invariant-loop-left
invariant-loop-left l = record {
  told : l.ids.items ++ ids_from l.next l.left ≡ l.initial.ids.items ++ ids_from l.first l.members;
  whole : l.next + length l.left ≡ l.first + length l.members;
}

abbrev pub decreases-loop-left : goal.decreases-loop-left
decreases-loop-left l = length l.left
