use Rattle.std.proofs.Common.{◌≡◌}
use Rattle.sv_lane.specs.Ends.{taken}
use Rattle.sv_threads.proofs.Passing.{Passed}
use Rattle.sv_threads.proofs.hearing.hear.Given as goal

abbrev pub invariant-loop : goal.invariant-loop
invariant-loop g l = record {
  passed : Passed (taken l.initial.notes) (taken l.notes) l.initial.runs l.runs l.initial.links l.links;
  clock : l.clock ≡ l.initial.clock;
  count : l.links.count ≡ l.initial.links.count;
  spawner : l.runs.spawner ≡ l.initial.runs.spawner;
}
