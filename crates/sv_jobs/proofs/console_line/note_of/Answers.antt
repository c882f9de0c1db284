use Rattle.std.proofs.Common.{arith}
use Rattle.sv_jobs.proofs.Lines.{noted_text, unnoted}
use Rattle.sv_jobs.proofs.console_line.note_of.Goals as goal

pub returns-in-Ok : goal.returns-in-Ok
returns-in-Ok c = noted_text c.args.line.now c.in-Ok.text.now c.asked.result (omega arith) c.in-Ok.ensures.cases.1 c.in-Ok.ensures.cases.0 c.asked.ensures

pub returns-in-Err : goal.returns-in-Err
returns-in-Err c = unnoted c.args.line.now c.in-Err.ensures.cases.0
