use Rattle.std.proofs.Common.{◌≤◌, Some, take}
use Rattle.sv_listener.specs.Listening.{Answers}
use Rattle.sv_listener.proofs.listening.handle_all.Given as goal

abbrev pub invariant-loop-event : goal.invariant-loop-event
invariant-loop-event g l = record {
  handler_later : g.H.Handler.faults l.initial.handler ≤ g.H.Handler.faults l.handler;
  answered : Answers (Some l.initial.text.items) (Some l.text.items) (g.H.Handler.told l.initial.handler l.handler)
      (take l.event-index l.events);
}
