use Rattle.std.proofs.Common.{◌≤◌, ◌*◌, ◌-◌, ◌^◌}
use Rattle.sv_generated.specs.Drawn.{HasDrawn}
use Rattle.sv_generated.specs.Generated.{inputs_after}
use Rattle.sv_generated.specs.Taken.{Beginning, Begins, IsAfter, first_of}
use Rattle.sv_generated.proofs.taking.run_through.Given as goal

abbrev pub invariant-loop-draw : goal.invariant-loop-draw
invariant-loop-draw l = record {
  has : HasDrawn l.generated l.number l.generated.drawn;
  within : l.generated.drawn ≤ l.number;
  goes : (begins : Beginning) → Begins l.fn.machine begins →
      IsAfter l.machine l.counts (first_of begins) (inputs_after (first_of begins) l.number l.generated.drawn);
  few_kills : l.counts.kills ≤ l.generated.drawn * 2 ^ 76;
  few_edges : l.counts.edges ≤ l.generated.drawn * 2 ^ 76;
}

abbrev pub decreases-loop-draw : goal.decreases-loop-draw
decreases-loop-draw l = l.number - l.generated.drawn
