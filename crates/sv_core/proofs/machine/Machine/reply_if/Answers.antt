use Rattle.std.proofs.Common.{Option, subst, sym}
use Rattle.std.specs.Option.{option_map}
use Rattle.sv_calls.specs.declared.answers.sent.Sent.{Sent}
use Rattle.sv_calls.specs.StandsFor.{answer_view}
use Rattle.sv_calls.specs.declared.answer.Answer.{Answer}
use Rattle.sv_core.specs.Calling.{replies, replies_if}
use Rattle.sv_core.specs.StandsFor.{Shows}
use Rattle.sv_core.proofs.machine.Machine.reply_if.Goals as goal

pub returns-in_ok-reply-in-Some-clause-replies : goal.returns-in_ok-reply-in-Some-clause-replies
returns-in_ok-reply-in-Some-clause-replies c = λ older w s.
    subst (λ (o : Option Answer). Shows c.reply.new.self older (replies_if c.args.link (option_map answer_view o) w)) (sym c.in-Some.is)
    (subst (λ (sent : Sent). Shows c.reply.new.self older (replies c.args.link sent w)) c.in_ok-sent-in-Some.ensures
    (c.in_ok-reply-in-Some.ensures.replies older w s))
