use Rattle.std.proofs.Common.{List}
use Rattle.sv_core.proofs.Stopped.{Reaches}
use Rattle.sv_core.specs.Frames.{MovesPlan}
use Rattle.sv_core.specs.Shutdown.{moves_on}
use Rattle.sv_core.specs.StandsFor.{Shows}
use Rattle.sv_core.specs.World.{World}
use Rattle.sv_out.specs.declared.order.Order.{Order}
use Rattle.sv_core.proofs.machine.Machine.follow_plan.Given as goal

abbrev pub invariant-loop-self : goal.invariant-loop-self
invariant-loop-self l = record {
  kept : MovesPlan l.initial.self l.self;
  goes : (older : List Order) (w : World) → Shows l.initial.self older w →
      Reaches l.self older (moves_on l.initial.self.course.left w) (moves_on l.self.course.left);
}

abbrev pub decreases-loop-self : goal.decreases-loop-self
decreases-loop-self l = l.self.course.left
