use Rattle.std.proofs.Common.{◌≡◌, ◌≤◌, ◌^◌, ◌-◌, min, length}
use Rattle.sv_commands.specs.Commands.{steps_view}
use Rattle.sv_commands.specs.declared.status.Status.TheVariants.{Done}
use Rattle.sv_ctl.specs.Talk.Conversation.{steps_said}
use Rattle.sv_ctl.specs.Talk.Doings.{Goes}
use Rattle.sv_ctl.proofs.talk.calling.run_steps.Given as goal

abbrev pub invariant-loop-left : goal.invariant-loop-left
invariant-loop-left g l = record {
  goes : Goes l.server (g.D.Dial.told l.initial.dial) (g.D.Dial.told l.dial) (g.K.Sink.written l.initial.out) (g.K.Sink.written l.out)
      (steps_said l.server.client.url (steps_view l.steps) Done) (steps_said l.server.client.url (steps_view l.left) l.status);
  dial_later : min (g.D.Dial.faults l.initial.dial) (2 ^ 64 - 1) ≤ g.D.Dial.faults l.dial;
  out_later : g.K.Sink.faults l.initial.out ≤ g.K.Sink.faults l.out;
}

abbrev pub decreases-loop-left : goal.decreases-loop-left
decreases-loop-left g l = length l.left
