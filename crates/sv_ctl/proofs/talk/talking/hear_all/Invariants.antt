use Rattle.std.proofs.Common.{◌≡◌, ◌≤◌, ◌^◌, ◌-◌, ◌+◌, ◌++◌, ℕ, List, [], min, length}
use Rattle.std.specs.Io.KnownBytes.{Consumes}
use Rattle.sv_ctl.specs.Talk.Conversation.{InputEnd, heard_said, lines_from}
use Rattle.sv_ctl.specs.Talk.Doings.{Goes}
use Rattle.sv_ctl.specs.Talk.Hearings.{HearsOn}
use Rattle.sv_ctl.proofs.talk.talking.hear_all.Given as goal

abbrev pub invariant-pieces : goal.invariant-pieces
invariant-pieces g l = record {
  hears : HearsOn l.server (g.D.Dial.told l.initial.dial) (g.D.Dial.told l.dial) (g.R.Source.left l.initial.input) (g.R.Source.left l.input)
      (g.K.Sink.written l.initial.out) (g.K.Sink.written l.out) l.initial.status l.line.items l.status l.room;
  dial_later : min (g.D.Dial.faults l.initial.dial) (2 ^ 64 - 1) ≤ g.D.Dial.faults l.dial;
  input_later : g.R.Source.faults l.initial.input ≤ g.R.Source.faults l.input;
  out_later : g.K.Sink.faults l.initial.out ≤ g.K.Sink.faults l.out;
}

abbrev pub decreases-pieces : goal.decreases-pieces
decreases-pieces g l = l.room
