use Rattle.std.proofs.Common.{List}
use Rattle.sv_core.specs.Frames.{GivesOrders}
use Rattle.sv_core.specs.Logging.{tells_drops}
use Rattle.sv_core.specs.StandsFor.{Shows}
use Rattle.sv_core.specs.World.{World}
use Rattle.sv_out.specs.declared.order.Order.{Order}
use Rattle.sv_core.proofs.machine.Machine.tell_drops.Given as goal

abbrev pub invariant-loop-report : goal.invariant-loop-report
invariant-loop-report l = record {
  kept : GivesOrders l.initial.self l.self;
  goes : (older : List Order) (w : World) → Shows l.initial.self older w → Shows l.self older (tells_drops l.yielded w);
}
