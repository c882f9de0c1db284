use Rattle.std.proofs.Common.{◌≡◌, ◌++◌, replicate}
use Rattle.sv_jobs.specs.declared.notes.Note.TheVariants.{Tick}
use Rattle.sv_lane.specs.Ends.{IsSameSeat, posted}
use Rattle.sv_outside.specs.Told.{GrowsWhileTold}
use Rattle.sv_jobs.proofs.ticking.ticker.Given as goal

abbrev pub invariant-loop : goal.invariant-loop
invariant-loop g l = record {
  paused : GrowsWhileTold (g.C.Clock.paused l.initial.clock) (g.C.Clock.paused l.clock) (replicate l.counter 1000);
  posted : posted l.poster ≡ posted l.initial.poster ++ replicate l.counter Tick;
  seat : IsSameSeat l.initial.poster l.poster;
}
