use Rattle.std.proofs.Common.{◌≡◌, ◌≤◌, ◌+◌, length}
use Rattle.sv_loop.specs.Replaying.{ReadsOn}
use Rattle.sv_loop.proofs.replaying.read_all.Given as goal

abbrev pub invariant-loop-room : goal.invariant-loop-room
invariant-loop-room g l = record {
  source_later : g.R.Source.faults l.initial.source ≤ g.R.Source.faults l.source;
  sink_later : g.K.Sink.faults l.initial.sink ≤ g.K.Sink.faults l.sink;
  room : l.room ≤ 67108864;
  few : l.run.lines + l.room ≤ 67108864;
  buffer : length l.buffer ≡ 16384;
  reads : ReadsOn l.run l.room (g.R.Source.left l.initial.source) (g.R.Source.left l.source) (g.K.Sink.written l.initial.sink) (g.K.Sink.written l.sink);
}

abbrev pub decreases-loop-room : goal.decreases-loop-room
decreases-loop-room g l = l.room
