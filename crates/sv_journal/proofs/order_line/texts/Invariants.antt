use Rattle.std.proofs.Common.{◌≡◌}
use Rattle.sv_journal.specs.OrderReading.{text_at, with_items, items_at, counted_at}
use Rattle.sv_journal.proofs.order_line.texts.Given as goal

abbrev pub invariant-loop-left : goal.invariant-loop-left
invariant-loop-left l = with_items l.texts (items_at text_at l.left l.rest) ≡ counted_at text_at l.bytes

abbrev pub decreases-loop-left : goal.decreases-loop-left
decreases-loop-left l = l.left
