use Rattle.std.proofs.Common.{◌∙◌, ℕ, List, subst}
use Rattle.sv_commands.specs.declared.status.Status.TheVariants.{Refused}
use Rattle.sv_ctl.specs.Talk.Conversation.{joined, stops, unknown_line}
use Rattle.sv_ctl.specs.Talk.Doings.{Prints}
use Rattle.sv_ctl.specs.declared.talk.course.Course.TheVariants.{On}
use Rattle.sv_ctl.proofs.talk.calling.refuse_words.Goals as goal

pub returns-in-Ok-clause-comes : goal.returns-in-Ok-clause-comes
returns-in-Ok-clause-comes g c server told =
    let prints : Prints (g.K.Sink.written c.args.out.now) (g.K.Sink.written c.say_unknown.new.out) (unknown_line (joined c.args.words.now))
    (On Refused) c.say_unknown.result =
    subst (λ (words : List ℕ). Prints (g.K.Sink.written c.args.out.now) (g.K.Sink.written c.say_unknown.new.out) (unknown_line words)
    (On Refused) c.say_unknown.result) (c.as_slice.ensures.value ∙ c.in-Ok.ensures) c.say_unknown.ensures.prints in
    prints server told stops
