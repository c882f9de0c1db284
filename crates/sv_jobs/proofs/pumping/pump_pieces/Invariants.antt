use Rattle.std.proofs.Common.{◌≤◌}
use Rattle.sv_jobs.specs.Pumping.{Pumping}
use Rattle.sv_lane.specs.Ends.{IsSameSeat, posted}
use Rattle.sv_jobs.proofs.pumping.pump_pieces.Given as goal

abbrev pub invariant-loop : goal.invariant-loop
invariant-loop g l = record {
  pumping : Pumping l.run l.stream (g.S.Source.left l.initial.source) (g.S.Source.left l.source) (posted l.initial.poster) (posted l.poster);
  later : g.S.Source.faults l.initial.source ≤ g.S.Source.faults l.source;
  seat : IsSameSeat l.initial.poster l.poster;
}
