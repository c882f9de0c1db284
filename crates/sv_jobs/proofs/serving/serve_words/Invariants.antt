use Rattle.std.proofs.Common.{◌≤◌}
use Rattle.sv_jobs.proofs.Serves.{ServedSoFar}
use Rattle.sv_lane.specs.Ends.{IsSameSeat, IsSameTaker, posted, taken}
use Rattle.sv_jobs.proofs.serving.serve_words.Given as goal

abbrev pub invariant-loop : goal.invariant-loop
invariant-loop g l = record {
  served : ServedSoFar l.number (g.K.Link.told l.initial.link) (g.K.Link.told l.link) (taken l.initial.taker) (taken l.taker)
      (posted l.initial.poster) (posted l.poster);
  later : g.K.Link.faults l.initial.link ≤ g.K.Link.faults l.link;
  seat : IsSameSeat l.initial.poster l.poster;
  taker : IsSameTaker l.initial.taker l.taker;
}
