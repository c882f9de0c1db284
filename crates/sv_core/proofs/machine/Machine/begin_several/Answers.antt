use Rattle.std.proofs.Common.{Option, None, ap, subst, ◌∙◌}
use Rattle.std.specs.Global.{Vec}
use Rattle.sv_calls.specs.Answers.Heard.{found_parts}
use Rattle.sv_calls.specs.Answers.Served.{no_parts, said}
use Rattle.sv_calls.specs.declared.answers.sent.Sent.{Sent}
use Rattle.sv_calls.specs.CallBook.{begun, new_several}
use Rattle.sv_core.proofs.Left.{going_of_none, made_at}
use Rattle.sv_core.proofs.Shown.{at_same, calls_there}
use Rattle.sv_core.specs.Calling.{begins_several, replies}
use Rattle.sv_core.specs.Left.{going_of}
use Rattle.sv_core.specs.StandsFor.{Shows}
use Rattle.sv_core.specs.World.{World}
use Rattle.sv_multi.specs.Views.{parts_view}
use Rattle.sv_multi.specs.declared.part.Part.{Part}
use Rattle.sv_core.proofs.machine.Machine.begin_several.Goals as goal

pub returns-in_ok-reply-in-None-clause-begins : goal.returns-in_ok-reply-in-None-clause-begins
returns-in_ok-reply-in-None-clause-begins c = λ older w k s.
    let link = c.args.link in
    let v = replies link (said c.args.close no_parts) w in
    at_same c.reply.new.self older _ (k v) _
    (ap (λ (parts : Option (Vec Part)). begins_several link c.args.close (found_parts parts) w k) c.in-None.is)
    (made_at c.reply.new.self older v k (going_of link None k) (going_of_none link k)
    (subst (λ (sent : Sent). Shows c.reply.new.self older (replies link sent w))
    (c.in_ok-sent-in-None.ensures ∙ ap (said c.args.close) c.no_parts.ensures)
    (c.in_ok-reply-in-None.ensures.replies older w s)))

pub returns-in_ok-going-in-Some-clause-begins : goal.returns-in_ok-going-in-Some-clause-begins
returns-in_ok-going-in-Some-clause-begins c = λ older w k s.
    let link = c.args.link in
    let change = begun link (new_several c.args.close (parts_view c.in-Some.parts.items)) in
    let after : World = record w { calls = change w.calls } in
    let here = calls_there c.args.self.now older w change s c.begin_several.new.self c.in_ok-begin_several-in-Some.ensures in
    at_same c.call_parts.new.self older _ _ _
    (ap (λ (parts : Option (Vec Part)). begins_several link c.args.close (found_parts parts) w k) c.in-Some.is)
    (c.in_ok-going-in-Some.ensures.calls older after k here)
