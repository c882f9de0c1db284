use Rattle.std.proofs.Common.{◌≤◌}
use Rattle.sv_jobs.specs.Accepting.{Accepted}
use Rattle.sv_lane.specs.Ends.{IsSameSeat, posted}
use Rattle.sv_jobs.proofs.accepting.accept_links.Given as goal

abbrev pub invariant-loop : goal.invariant-loop
invariant-loop g l = record {
  accepted : Accepted l.side l.counter (g.L.Listen.told l.initial.listen) (g.L.Listen.told l.listen) (posted l.initial.links) (posted l.links)
      (posted l.initial.poster) (posted l.poster);
  later : g.L.Listen.faults l.initial.listen ≤ g.L.Listen.faults l.listen;
  seat : IsSameSeat l.initial.poster l.poster;
  links_seat : IsSameSeat l.initial.links l.links;
}
