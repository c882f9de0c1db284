use Rattle.std.proofs.Common.{None, pos, ap, subst}
use Rattle.sv_core.proofs.Left.{calling_none, made_at}
use Rattle.sv_core.proofs.Shown.{at_same}
use Rattle.sv_core.specs.Calling.{answers_call, begins_part}
use Rattle.sv_core.specs.Left.{calling}
use Rattle.sv_core.specs.StandsFor.{Shows}
use Rattle.sv_multi.specs.Views.{part_view}
use Rattle.sv_multi.specs.declared.part.Part.{Part}
use Rattle.sv_xmlcall.specs.Trees.{Reply, Faults}
use Rattle.sv_core.proofs.machine.Machine.begin_part.Goals as goal

pub returns-in_ok-calling-in-Call-clause-begins : goal.returns-in_ok-calling-in-Call-clause-begins
returns-in_ok-calling-in-Call-clause-begins c = λ older w k s.
    at_same c.call.new.self older _ _ _ (ap (λ (part : Part). begins_part c.args.link (part_view part) w k) c.in-Call.is)
    (c.in_ok-calling-in-Call.ensures.calls older w k s)

pub returns-in_ok-answer_call-in-Fault-clause-begins : goal.returns-in_ok-answer_call-in-Fault-clause-begins
returns-in_ok-answer_call-in-Fault-clause-begins c = λ older w k s.
    let link = c.args.link in
    let fault = c.in-Fault.text in
    let v = answers_call link (Faults (pos c.in-Fault.number) fault) w in
    at_same c.answer_call.new.self older _ (k v) _ (ap (λ (part : Part). begins_part link (part_view part) w k) c.in-Fault.is)
    (made_at c.answer_call.new.self older v k (calling link None k) (calling_none link k)
    (subst (λ (reply : Reply). Shows c.answer_call.new.self older (answers_call link reply w)) c.faulted.ensures
    (c.in_ok-answer_call-in-Fault.ensures.answers older w s)))
