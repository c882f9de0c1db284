use Rattle.std.proofs.Common.{List, drop}
use Rattle.sv_core.proofs.Stopped.{Reaches}
use Rattle.sv_core.specs.Frames.{GivesOrders}
use Rattle.sv_core.specs.Moves.{goes_edges}
use Rattle.sv_core.specs.StandsFor.{Shows}
use Rattle.sv_core.specs.World.{World}
use Rattle.sv_out.specs.declared.order.Order.{Order}
use Rattle.sv_core.proofs.machine.Machine.go_edges.Given as goal

abbrev pub invariant-loop-edge : goal.invariant-loop-edge
invariant-loop-edge l = record {
  kept : GivesOrders l.initial.self l.self;
  goes : (older : List Order) (w : World) → Shows l.initial.self older w →
      Reaches l.self older (goes_edges l.how l.child l.pid l.edges w) (goes_edges l.how l.child l.pid (drop l.edge-index l.edges));
}
