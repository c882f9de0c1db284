use Rattle.std.proofs.Common.{◌≡◌, take}
use Rattle.sv_judge.specs.JournalPlaces.{order_text}
use Rattle.sv_loop.proofs.orders.text_of.Given as goal

abbrev pub invariant-loop-order : goal.invariant-loop-order
invariant-loop-order l = l.text.items ≡ order_text (take l.order-index l.orders)
