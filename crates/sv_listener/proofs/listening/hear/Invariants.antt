use Rattle.std.proofs.Common.{◌≡◌, ◌≤◌, ◌^◌, length}
use Rattle.sv_listener.proofs.Listens.{HearsOn}
use Rattle.sv_listener.proofs.listening.hear.Given as goal

abbrev pub invariant-loop-room : goal.invariant-loop-room
invariant-loop-room g l = record {
  source_later : g.R.Source.faults l.initial.source ≤ g.R.Source.faults l.source;
  sink_later : g.K.Sink.faults l.initial.sink ≤ g.K.Sink.faults l.sink;
  handler_later : g.H.Handler.faults l.initial.handler ≤ g.H.Handler.faults l.handler;
  room : l.room ≤ 2 ^ 63;
  buffer : length l.buffer ≡ 16384;
  hears : HearsOn l.side l.room (g.R.Source.left l.initial.source) (g.R.Source.left l.source) (g.K.Sink.written l.initial.sink) (g.K.Sink.written l.sink)
      (g.H.Handler.told l.initial.handler l.handler);
}

abbrev pub decreases-loop-room : goal.decreases-loop-room
decreases-loop-room g l = l.room
