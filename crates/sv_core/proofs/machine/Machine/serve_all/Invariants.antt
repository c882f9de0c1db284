use Rattle.std.proofs.Common.{List, drop, length, ◌-◌}
use Rattle.sv_core.specs.Frames.{MovesOn}
use Rattle.sv_core.specs.Serving.{serves_all}
use Rattle.sv_core.specs.StandsFor.{At, Shows}
use Rattle.sv_core.specs.Sweeps.{Turn}
use Rattle.sv_core.specs.World.{World}
use Rattle.sv_out.specs.declared.order.Order.{Order}
use Rattle.sv_core.proofs.machine.Machine.serve_all.Given as goal

abbrev pub invariant-loop-link : goal.invariant-loop-link
invariant-loop-link l = record {
  kept : MovesOn l.initial.self l.self;
  goes : (older : List Order) (w : World) (k : World → Turn) → Shows l.initial.self older w →
      At l.self older (serves_all (drop l.from l.links.items) w k) (λ v. serves_all (drop l.next l.links.items) v k);
}

abbrev pub decreases-loop-link : goal.decreases-loop-link
decreases-loop-link l = length l.links.items - l.next
