use Rattle.sv_commands.specs.Commands.{steps_view}
use Rattle.sv_commands.specs.declared.status.Status.TheVariants.{Done}
use Rattle.sv_ctl.proofs.TalkLemmas.Calls.{steps_off, steps_on}
use Rattle.sv_ctl.proofs.TalkLemmas.Causes.{rises_for, rises_where}
use Rattle.sv_ctl.specs.Talk.Conversation.{steps_said}
use Rattle.sv_ctl.specs.Talk.Courses.{IsLost, IsUnprinted}
use Rattle.sv_ctl.proofs.talk.calling.run_steps.Goals as goal

pub returns-in_default-run_step : goal.returns-in_default-run_step
returns-in_default-run_step g c = record {
  comes = steps_off c.args.server.now (g.D.Dial.told c.args.dial.now) (g.D.Dial.told c.loop-left.dial) (g.D.Dial.told c.run_step.new.dial)
      (g.K.Sink.written c.args.out.now) (g.K.Sink.written c.loop-left.out) (g.K.Sink.written c.run_step.new.out)
      (steps_said c.args.server.now.client.url (steps_view c.args.steps.now) Done) c.step-item.result c.loop-left.left.now
      c.loop-left.status c.run_step.result c.in-len1-up.len_at_least c.step-item.is c.loop-left.invariant.goes c.run_step.ensures.comes
      c.in_default-run_step.not-On;
  dial_cause = rises_for (g.D.Dial.faults c.args.dial.now) (g.D.Dial.faults c.loop-left.dial) (g.D.Dial.faults c.run_step.new.dial)
      (IsLost c.run_step.result) c.loop-left.invariant.dial_later c.run_step.ensures.dial_cause;
  out_cause = rises_where (g.K.Sink.faults c.args.out.now) (g.K.Sink.faults c.loop-left.out) (g.K.Sink.faults c.run_step.new.out)
      (IsUnprinted c.run_step.result) c.loop-left.invariant.out_later c.run_step.ensures.out_cause;
}

pub loop-left-preserved : goal.loop-left-preserved
loop-left-preserved g c = record {
  goes = steps_on c.args.server.now (g.D.Dial.told c.args.dial.now) (g.D.Dial.told c.loop-left.dial) (g.D.Dial.told c.run_step.new.dial)
      (g.K.Sink.written c.args.out.now) (g.K.Sink.written c.loop-left.out) (g.K.Sink.written c.run_step.new.out)
      (steps_said c.args.server.now.client.url (steps_view c.args.steps.now) Done) c.step-item.result c.loop-left.left.now
      c.loop-left.status c.in-On.so_far c.run_step.result c.in-len1-up.len_at_least c.step-item.is c.loop-left.invariant.goes
      c.run_step.ensures.comes c.in-On.is;
  dial_later = (rises_for (g.D.Dial.faults c.args.dial.now) (g.D.Dial.faults c.loop-left.dial) (g.D.Dial.faults c.run_step.new.dial)
      (IsLost c.run_step.result) c.loop-left.invariant.dial_later c.run_step.ensures.dial_cause).later;
  out_later = (rises_where (g.K.Sink.faults c.args.out.now) (g.K.Sink.faults c.loop-left.out) (g.K.Sink.faults c.run_step.new.out)
      (IsUnprinted c.run_step.result) c.loop-left.invariant.out_later c.run_step.ensures.out_cause).later;
}
