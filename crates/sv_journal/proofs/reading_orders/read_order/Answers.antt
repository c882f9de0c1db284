use Rattle.std.proofs.Common.{sym, ◌∙◌, arith}
use Rattle.sv_journal.specs.JournalLine.{order_line}
use Rattle.sv_journal.specs.Orders.{FitsOrder}
use Rattle.sv_journal.specs.OrderReading.{order_at}
use Rattle.sv_journal.proofs.Columns.{column_of, column_of_long}
use Rattle.sv_journal.proofs.Results.{ok_value, never, stopped}
use Rattle.sv_journal.proofs.SharpOrders.{order_exact}
use Rattle.sv_journal.proofs.OrderLaws.{read_again, order_takes, order_fits}
use Rattle.sv_journal.proofs.reading_orders.read_order.Goals as goal

pub returns-in-Ok-clause-only : goal.returns-in-Ok-clause-only
returns-in-Ok-clause-only c = λ x fits same short. ok_value c.in-Ok.order x (sym c.in-Ok.ensures ∙ read_again x c.args.line.now fits same)

pub returns-in-Err-At-clause-only : goal.returns-in-Err-At-clause-only
returns-in-Err-At-clause-only c = λ x fits same short. never c.in-Err-At.left x (sym (stopped c.in-Err-At.field-0 c.in-Err-At.left (order_at c.args.line.now) c.in-Err-At.field-0-is c.in-Err-At.ensures) ∙ read_again x c.args.line.now fits same)

pub returns-in-Err-At-clause-column : goal.returns-in-Err-At-clause-column
returns-in-Err-At-clause-column c = column_of order_at FitsOrder order_line order_exact c.args.line.now c.in-Err-At.left c.column.result (stopped c.in-Err-At.field-0 c.in-Err-At.left (order_at c.args.line.now) c.in-Err-At.field-0-is c.in-Err-At.ensures) c.column.ensures

pub returns-in-Ok-2-clause-column : goal.returns-in-Ok-2-clause-column
returns-in-Ok-2-clause-column c =
    let long = c.if-line-le-LINE_LIMIT.false in
    column_of_long FitsOrder order_line c.args.line.now c.in-Ok.order (order_takes c.args.line.now c.in-Ok.order c.in-Ok.ensures) (order_fits c.args.line.now c.in-Ok.order c.in-Ok.ensures) (omega arith)
