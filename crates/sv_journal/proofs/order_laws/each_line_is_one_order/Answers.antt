use Rattle.sv_journal.proofs.PlainOrders.{one_order}
use Rattle.sv_journal.proofs.order_laws.each_line_is_one_order.Goals as goal

pub returns : goal.returns
returns c one other f g e = one_order one other f g e
