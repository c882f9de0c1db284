use Rattle.std.proofs.Common.{◌≡◌, ◌+◌, ◌++◌, length}
use Rattle.sv_groups.specs.StartOrder.{processes, ids_from}
use Rattle.sv_groups.proofs.order.Roster.start_order.Given as goal

abbrev pub invariant-loop-left : goal.invariant-loop-left
invariant-loop-left l = record {
  told : l.ids.items ++ ids_from l.next (processes l.left) ≡ ids_from 0 (processes l.initial.left);
  whole : l.next + length (processes l.left) ≡ length (processes l.initial.left);
}

abbrev pub decreases-loop-left : goal.decreases-loop-left
decreases-loop-left l = length l.left
