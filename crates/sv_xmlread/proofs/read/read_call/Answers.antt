use Rattle.std.proofs.Common.{Ok, Err, rules, arith}
use Rattle.sv_xmlcall.specs.declared.call.CallFault.TheVariants as fault
use Rattle.sv_xmlcall.proofs.DocumentLaws.{fault_is}
use Rattle.sv_xmlcall.proofs.SpelledLaws.{gives_call}
use Rattle.sv_xmlcall.specs.Trees.{call_view}
use Rattle.sv_xmlcall.specs.Machine.{the_limits}
use Rattle.sv_xmlcall.proofs.JudgedLaws.{judges_call}
use Rattle.sv_xmlcall.proofs.CalledLaws.{answers_called}
use Rattle.sv_xmlcall.proofs.CallsBack.{call_back}
use Rattle.sv_xmlread.proofs.read.read_call.Goals as goal

pub returns-in-Ok-clause-found : goal.returns-in-Ok-clause-found
returns-in-Ok-clause-found c = call_back the_limits c.args.bytes.now (call_view c.in-Ok.call) (omega arith) (search rules)

pub returns-in-Ok-clause-only : goal.returns-in-Ok-clause-only
returns-in-Ok-clause-only c = gives_call c.args.bytes.now (Ok c.in-Ok.call) (search rules)

pub returns-in-Ok-2-clause-only : goal.returns-in-Ok-2-clause-only
returns-in-Ok-2-clause-only c = gives_call c.args.bytes.now (Err fault.TooManyValues) (search rules)

pub returns-in-Err-clause-only : goal.returns-in-Err-clause-only
returns-in-Err-clause-only c = gives_call c.args.bytes.now (Err c.fault.result) (grind (arith, fault_is))

pub returns-in-Ok-clause-judged : goal.returns-in-Ok-clause-judged
returns-in-Ok-clause-judged c = judges_call c.args.bytes.now (Ok c.in-Ok.call) (search rules)

pub returns-in-Ok-2-clause-judged : goal.returns-in-Ok-2-clause-judged
returns-in-Ok-2-clause-judged c = judges_call c.args.bytes.now (Err fault.TooManyValues) (search rules)

pub returns-in-Err-clause-judged : goal.returns-in-Err-clause-judged
returns-in-Err-clause-judged c = judges_call c.args.bytes.now (Err c.fault.result) (grind (arith, fault_is))

pub returns-in-Ok-clause-called : goal.returns-in-Ok-clause-called
returns-in-Ok-clause-called c = answers_called c.args.bytes.now (Ok c.in-Ok.call) (search rules)

pub returns-in-Ok-2-clause-called : goal.returns-in-Ok-2-clause-called
returns-in-Ok-2-clause-called c = answers_called c.args.bytes.now (Err fault.TooManyValues) (search rules)

pub returns-in-Err-clause-called : goal.returns-in-Err-clause-called
returns-in-Err-clause-called c = answers_called c.args.bytes.now (Err c.fault.result) (grind (arith, fault_is))
