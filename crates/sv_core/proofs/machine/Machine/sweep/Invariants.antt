use Rattle.std.proofs.Common.{◌-◌, List}
use Rattle.sv_core.specs.Frames.{StartsRuns}
use Rattle.sv_core.specs.StandsFor.{At, Shows}
use Rattle.sv_core.specs.Sweeps.{Turn, sweeps}
use Rattle.sv_core.specs.World.{World}
use Rattle.sv_out.specs.declared.order.Order.{Order}
use Rattle.sv_core.proofs.machine.Machine.sweep.Given as goal

abbrev pub invariant-loop-place : goal.invariant-loop-place
invariant-loop-place l = record {
  kept : StartsRuns l.initial.self l.self;
  goes : (older : List Order) (w : World) (k : World → Turn) → Shows l.initial.self older w →
      At l.self older (sweeps l.news (l.to - l.fn.from) l.fn.from w k) (λ v. sweeps l.news (l.to - l.next) l.next v k);
}

abbrev pub decreases-loop-place : goal.decreases-loop-place
decreases-loop-place l = l.to - l.next
