use Rattle.std.proofs.Common.{◌≤◌, ◌-◌, List}
use Rattle.sv_core.proofs.Stopped.{Reaches}
use Rattle.sv_core.specs.Frames.{MovesChildren}
use Rattle.sv_core.specs.StandsFor.{Shows}
use Rattle.sv_core.specs.Stops.{stops_from}
use Rattle.sv_core.specs.World.{World}
use Rattle.sv_out.specs.declared.order.Order.{Order}
use Rattle.sv_core.proofs.machine.Machine.stop_all.Given as goal

abbrev pub invariant-loop-left : goal.invariant-loop-left
invariant-loop-left l = record {
  most : l.left ≤ l.span.to - l.span.from;
  kept : MovesChildren l.initial.self l.self;
  goes : (older : List Order) (w : World) → Shows l.initial.self older w →
      Reaches l.self older (stops_from l.span.from (l.span.to - l.span.from) w) (stops_from l.span.from l.left);
}

abbrev pub decreases-loop-left : goal.decreases-loop-left
decreases-loop-left l = l.left
