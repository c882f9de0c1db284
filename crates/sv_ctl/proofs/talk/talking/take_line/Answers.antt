use Rattle.sv_ctl.proofs.TalkLemmas.Calls.{comes_off}
use Rattle.sv_ctl.proofs.TalkLemmas.Lines.{line_prompted}
use Rattle.sv_ctl.specs.Talk.Conversation.{line_said, prompted}
use Rattle.sv_ctl.proofs.talk.talking.take_line.Goals as goal

pub returns-in-On-clause-comes : goal.returns-in-On-clause-comes
returns-in-On-clause-comes g c next =
    line_prompted c.args.server.now (g.D.Dial.told c.args.dial.now) (g.D.Dial.told c.run_line.new.dial) (g.K.Sink.written c.args.out.now)
    (g.K.Sink.written c.run_line.new.out) (g.K.Sink.written c.say.new.out) c.args.line.now c.args.status c.in-On.so_far
    c.run_line.result c.say.result next c.in-On.is c.run_line.ensures.comes c.say.ensures.prints

pub returns-in_default : goal.returns-in_default
returns-in_default g c = record {
  comes = λ next. comes_off c.args.server.now (g.D.Dial.told c.args.dial.now) (g.D.Dial.told c.run_line.new.dial)
      (g.K.Sink.written c.args.out.now) (g.K.Sink.written c.run_line.new.out)
      (line_said c.args.server.now.client.url c.args.line.now c.args.status (prompted next)) (prompted next) next c.run_line.result
      c.in_default.not-On (c.run_line.ensures.comes (prompted next));
  dial_cause = c.run_line.ensures.dial_cause;
  out_cause = c.run_line.ensures.out_cause;
}
