use Rattle.sv_journal.proofs.PlainOrders.{plain_order}
use Rattle.sv_journal.proofs.order_laws.no_order_line_holds_a_line_feed.Goals as goal

pub returns : goal.returns
returns c o fits = plain_order o fits
