use Rattle.std.proofs.Common.{◌-◌, List, length}
use Rattle.sv_core.proofs.Stopped.{Reaches}
use Rattle.sv_core.specs.Frames.{HearsListeners}
use Rattle.sv_core.specs.HandingOut.{hands_from}
use Rattle.sv_core.specs.StandsFor.{Shows}
use Rattle.sv_core.specs.World.{World}
use Rattle.sv_out.specs.declared.order.Order.{Order}
use Rattle.sv_core.proofs.machine.Machine.hand_out.Given as goal

abbrev pub invariant-loop-child : goal.invariant-loop-child
invariant-loop-child l = record {
  kept : HearsListeners l.initial.self l.self;
  goes : (older : List Order) (w : World) → Shows l.initial.self older w →
      Reaches l.self older (hands_from (length l.initial.self.children.all - 0) 0 w)
      (hands_from (length l.initial.self.children.all - l.child) l.child);
}
