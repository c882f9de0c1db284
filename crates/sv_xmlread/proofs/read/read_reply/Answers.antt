use Rattle.std.proofs.Common.{Ok, Err, rules, arith}
use Rattle.sv_xmlcall.specs.declared.call.CallFault.TheVariants as fault
use Rattle.sv_xmlcall.proofs.DocumentLaws.{fault_is}
use Rattle.sv_xmlcall.proofs.SpelledLaws.{gives_reply}
use Rattle.sv_xmlcall.specs.Trees.{reply_view}
use Rattle.sv_xmlcall.specs.Machine.{the_limits}
use Rattle.sv_xmlcall.proofs.JudgedLaws.{judges_reply}
use Rattle.sv_xmlcall.proofs.CalledLaws.{answers_replied}
use Rattle.sv_xmlcall.proofs.CallsBack.{reply_back}
use Rattle.sv_xmlread.proofs.read.read_reply.Goals as goal

pub returns-in-Ok-clause-found : goal.returns-in-Ok-clause-found
returns-in-Ok-clause-found c = reply_back the_limits c.args.bytes.now (reply_view c.in-Ok.answered) (omega arith) (search rules)

pub returns-in-Ok-clause-only : goal.returns-in-Ok-clause-only
returns-in-Ok-clause-only c = gives_reply c.args.bytes.now (Ok c.in-Ok.answered) (search rules)

pub returns-in-Ok-2-clause-only : goal.returns-in-Ok-2-clause-only
returns-in-Ok-2-clause-only c = gives_reply c.args.bytes.now (Err fault.TooManyValues) (search rules)

pub returns-in-Err-clause-only : goal.returns-in-Err-clause-only
returns-in-Err-clause-only c = gives_reply c.args.bytes.now (Err c.fault.result) (grind (arith, fault_is))

pub returns-in-Ok-clause-judged : goal.returns-in-Ok-clause-judged
returns-in-Ok-clause-judged c = judges_reply c.args.bytes.now (Ok c.in-Ok.answered) (search rules)

pub returns-in-Ok-2-clause-judged : goal.returns-in-Ok-2-clause-judged
returns-in-Ok-2-clause-judged c = judges_reply c.args.bytes.now (Err fault.TooManyValues) (search rules)

pub returns-in-Err-clause-judged : goal.returns-in-Err-clause-judged
returns-in-Err-clause-judged c = judges_reply c.args.bytes.now (Err c.fault.result) (grind (arith, fault_is))

pub returns-in-Ok-clause-replied : goal.returns-in-Ok-clause-replied
returns-in-Ok-clause-replied c = answers_replied c.args.bytes.now (Ok c.in-Ok.answered) (search rules)

pub returns-in-Ok-2-clause-replied : goal.returns-in-Ok-2-clause-replied
returns-in-Ok-2-clause-replied c = answers_replied c.args.bytes.now (Err fault.TooManyValues) (search rules)

pub returns-in-Err-clause-replied : goal.returns-in-Err-clause-replied
returns-in-Err-clause-replied c = answers_replied c.args.bytes.now (Err c.fault.result) (grind (arith, fault_is))
