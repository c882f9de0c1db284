use Rattle.std.proofs.Common.{◌∙◌, ℕ, List, subst}
use Rattle.sv_commands.specs.declared.status.Status.TheVariants.{Refused}
use Rattle.sv_ctl.proofs.TalkLemmas.Calls.{says_nothing}
use Rattle.sv_ctl.specs.Talk.Conversation.{unknown_line}
use Rattle.sv_ctl.specs.Talk.Doings.{Prints}
use Rattle.sv_ctl.specs.declared.talk.course.Course.TheVariants.{On}
use Rattle.sv_ctl.proofs.talk.printing.say_unknown.Goals as goal

pub returns-in-Ok-clause-prints : goal.returns-in-Ok-clause-prints
returns-in-Ok-clause-prints g c =
    subst (λ (text : List ℕ). Prints (g.K.Sink.written c.args.out.now) (g.K.Sink.written c.say.new.out) text (On Refused) c.say.result)
    (c.as_slice.ensures.value ∙ c.in-Ok.ensures) c.say.ensures.prints

pub returns-in-Err-clause-prints : goal.returns-in-Err-clause-prints
returns-in-Err-clause-prints g c =
    says_nothing (g.K.Sink.written c.args.out.now) (unknown_line c.args.words.now) (On Refused)
