use Rattle.std.proofs.Common.{List}
use Rattle.sv_core.specs.Frames.{MovesOn}
use Rattle.sv_core.specs.Serving.{serves_asks}
use Rattle.sv_core.specs.StandsFor.{At, Shows}
use Rattle.sv_core.specs.Sweeps.{Turn}
use Rattle.sv_core.specs.World.{World}
use Rattle.sv_out.specs.declared.order.Order.{Order}
use Rattle.sv_core.proofs.machine.Machine.serve_asks.Given as goal

abbrev pub invariant-loop-left : goal.invariant-loop-left
invariant-loop-left l = record {
  kept : MovesOn l.initial.self l.self;
  goes : (older : List Order) (w : World) (k : World → Turn) → Shows l.initial.self older w →
      At l.self older (serves_asks l.count l.link w k) (λ v. serves_asks l.left l.link v k);
}

abbrev pub decreases-loop-left : goal.decreases-loop-left
decreases-loop-left l = l.left
