use Rattle.std.proofs.Common.{◌≡◌}
use Rattle.sv_journal.specs.OrderReading.{pair_at, with_items, items_at, counted_at}
use Rattle.sv_journal.proofs.order_line.pairs.Given as goal

abbrev pub invariant-loop-left : goal.invariant-loop-left
invariant-loop-left l = with_items l.pairs (items_at pair_at l.left l.rest) ≡ counted_at pair_at l.bytes

abbrev pub decreases-loop-left : goal.decreases-loop-left
decreases-loop-left l = l.left
