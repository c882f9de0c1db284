use Rattle.std.proofs.Common.{None, ap}
use Rattle.sv_calls.specs.Answers.Heard.{request_view}
use Rattle.sv_calls.specs.declared.answers.request.Heard.{Heard}
use Rattle.sv_core.proofs.Left.{going_of_none, made_at}
use Rattle.sv_core.proofs.Shown.{at_same}
use Rattle.sv_core.specs.Calling.{replies, takes_up}
use Rattle.sv_core.specs.Left.{going_of}
use Rattle.sv_core.proofs.machine.Machine.take_up.Goals as goal

pub returns-in_ok-reply-in-Refuses-clause-takes : goal.returns-in_ok-reply-in-Refuses-clause-takes
returns-in_ok-reply-in-Refuses-clause-takes c = λ older w k s.
    let link = c.args.link in
    let v = replies link c.in-Refuses.sent w in
    at_same c.reply.new.self older _ (k v) _ (ap (λ (heard : Heard). takes_up link (request_view heard) w k) c.in-Refuses.is)
    (made_at c.reply.new.self older v k (going_of link None k) (going_of_none link k) (c.in_ok-reply-in-Refuses.ensures.replies older w s))

pub returns-in_ok-going-in-Calls-clause-takes : goal.returns-in_ok-going-in-Calls-clause-takes
returns-in_ok-going-in-Calls-clause-takes c = λ older w k s.
    at_same c.begin_call.new.self older _ _ _ (ap (λ (heard : Heard). takes_up c.args.link (request_view heard) w k) c.in-Calls.is)
    (c.in_ok-going-in-Calls.ensures.begins older w k s)
