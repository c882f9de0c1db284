use Rattle.std.proofs.Common.{◌≡◌, ◌≤◌, ◌^◌, ◌-◌, ◌++◌, ℕ, List, min, length}
use Rattle.sv_ctl.specs.Talk.Conversation.{InputEnd, heard_said, lines_from}
use Rattle.sv_ctl.specs.Talk.Doings.{Goes}
use Rattle.sv_ctl.proofs.talk.talking.hear.Given as goal

abbrev pub invariant-loop-left : goal.invariant-loop-left
invariant-loop-left g l = record {
  goes : (end : InputEnd) (rest : List ℕ) → Goes l.server (g.D.Dial.told l.initial.dial) (g.D.Dial.told l.dial)
      (g.K.Sink.written l.initial.out) (g.K.Sink.written l.out)
      (heard_said l.server.client.url end (lines_from end l.initial.line.items (l.piece ++ rest)) l.initial.status)
      (heard_said l.server.client.url end (lines_from end l.line.items (l.left ++ rest)) l.status);
  dial_later : min (g.D.Dial.faults l.initial.dial) (2 ^ 64 - 1) ≤ g.D.Dial.faults l.dial;
  out_later : g.K.Sink.faults l.initial.out ≤ g.K.Sink.faults l.out;
}

abbrev pub decreases-loop-left : goal.decreases-loop-left
decreases-loop-left g l = length l.left
