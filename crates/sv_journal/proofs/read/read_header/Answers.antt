use Rattle.std.proofs.Common.{sym, ◌∙◌, arith}
use Rattle.sv_journal.specs.JournalLine.{FitsHeader, header_line}
use Rattle.sv_journal.specs.ReadingLines.{header_at}
use Rattle.sv_journal.proofs.Columns.{column_of, column_of_long}
use Rattle.sv_journal.proofs.Results.{ok_value, never, stopped}
use Rattle.sv_journal.proofs.SharpLines.{header_exact}
use Rattle.sv_journal.proofs.HeaderLaws.{read_again, header_takes, header_fits}
use Rattle.sv_journal.proofs.read.read_header.Goals as goal

pub returns-in-Ok-clause-only : goal.returns-in-Ok-clause-only
returns-in-Ok-clause-only c = λ x fits same short. ok_value c.in-Ok.header x (sym c.in-Ok.ensures ∙ read_again x c.args.line.now fits same)

pub returns-in-Err-At-clause-only : goal.returns-in-Err-At-clause-only
returns-in-Err-At-clause-only c = λ x fits same short. never c.in-Err-At.left x (sym (stopped c.in-Err-At.field-0 c.in-Err-At.left (header_at c.args.line.now) c.in-Err-At.field-0-is c.in-Err-At.ensures) ∙ read_again x c.args.line.now fits same)

pub returns-in-Err-At-clause-column : goal.returns-in-Err-At-clause-column
returns-in-Err-At-clause-column c = column_of header_at FitsHeader header_line header_exact c.args.line.now c.in-Err-At.left c.column.result (stopped c.in-Err-At.field-0 c.in-Err-At.left (header_at c.args.line.now) c.in-Err-At.field-0-is c.in-Err-At.ensures) c.column.ensures

pub returns-in-Ok-2-clause-column : goal.returns-in-Ok-2-clause-column
returns-in-Ok-2-clause-column c =
    let long = c.if-line-le-LINE_LIMIT.false in
    column_of_long FitsHeader header_line c.args.line.now c.in-Ok.header (header_takes c.args.line.now c.in-Ok.header c.in-Ok.ensures) (header_fits c.args.line.now c.in-Ok.header c.in-Ok.ensures) (omega arith)
