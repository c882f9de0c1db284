use Rattle.std.proofs.Common.{◌≤◌}
use Rattle.sv_jobs.proofs.Writes.{WroteSoFar}
use Rattle.sv_lane.specs.Ends.{IsSameSeat, IsSameTaker, posted, taken}
use Rattle.sv_jobs.proofs.stdin_writing.write_words.Given as goal

abbrev pub invariant-loop : goal.invariant-loop
invariant-loop g l = record {
  wrote : WroteSoFar l.run (g.K.Sink.written l.initial.sink) (g.K.Sink.written l.sink) (taken l.initial.taker) (taken l.taker)
      (posted l.initial.poster) (posted l.poster);
  later : g.K.Sink.faults l.initial.sink ≤ g.K.Sink.faults l.sink;
  seat : IsSameSeat l.initial.poster l.poster;
  taker : IsSameTaker l.initial.taker l.taker;
}
