use Rattle.std.proofs.Common.{List}
use Rattle.sv_core.specs.Frames.{MovesOn}
use Rattle.sv_core.specs.Calling.{calls_all}
use Rattle.sv_core.specs.StandsFor.{At, Shows}
use Rattle.sv_core.specs.Sweeps.{Turn}
use Rattle.sv_core.specs.World.{World}
use Rattle.sv_out.specs.declared.order.Order.{Order}
use Rattle.sv_core.proofs.machine.Machine.call_all.Given as goal

abbrev pub invariant-loop-left : goal.invariant-loop-left
invariant-loop-left l = record {
  kept : MovesOn l.initial.self l.self;
  goes : (older : List Order) (w : World) (k : World → Turn) → Shows l.initial.self older w →
      At l.self older (calls_all l.count l.link w k) (λ v. calls_all l.left l.link v k);
}

abbrev pub decreases-loop-left : goal.decreases-loop-left
decreases-loop-left l = l.left
