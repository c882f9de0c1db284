use Rattle.std.proofs.Common.{◌≡◌}
use Rattle.sv_commands.specs.declared.status.Status.TheVariants.{Done}
use Rattle.sv_ctl.proofs.TalkLemmas.Calls.{goes_as}
use Rattle.sv_ctl.proofs.TalkLemmas.Hearing.{talks, talks_off}
use Rattle.sv_ctl.specs.Talk.Conversation.{prompt}
use Rattle.sv_ctl.specs.declared.talk.course.Course.TheVariants.{On}
use Rattle.sv_ctl.proofs.talk.talking.talk.Goals as goal

pub returns-in-On-clause-talks : goal.returns-in-On-clause-talks
returns-in-On-clause-talks g c =
    let same : On Done ≡ On c.in-On.status = goes_as (g.K.Sink.written c.args.out.now) (g.K.Sink.written c.say.new.out) prompt
    (On Done) c.say.result c.in-On.status c.say.ensures.says c.in-On.is in
    talks c.args.server.now (g.D.Dial.told c.args.dial.now) (g.D.Dial.told c.hear_or_tell.new.dial)
    (g.R.Source.left c.args.input.now) (g.R.Source.left c.hear_or_tell.new.input) (g.K.Sink.written c.args.out.now)
    (g.K.Sink.written c.say.new.out) (g.K.Sink.written c.hear_or_tell.new.out) c.say.result c.in-On.status c.hear_or_tell.result
    c.in-On.is c.say.ensures.prints (cc) c.hear_or_tell.ensures.talks

pub returns-in_default : goal.returns-in_default
returns-in_default g c = record {
  talks = talks_off c.args.server.now (g.D.Dial.told c.args.dial.now) (g.R.Source.left c.args.input.now)
      (g.K.Sink.written c.args.out.now) (g.K.Sink.written c.say.new.out) c.say.result c.say.ensures.prints c.in_default.not-On;
  lost = λ is. absurd (c.say.ensures.lost is);
  out_cause = c.say.ensures.cause;
}
