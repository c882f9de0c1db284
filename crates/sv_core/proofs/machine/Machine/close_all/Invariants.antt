use Rattle.std.proofs.Common.{List, drop}
use Rattle.sv_core.proofs.Stopped.{Reaches}
use Rattle.sv_core.specs.Frames.{ServesLinks}
use Rattle.sv_core.specs.Openings.{closes_all}
use Rattle.sv_core.specs.StandsFor.{Shows}
use Rattle.sv_core.specs.World.{World}
use Rattle.sv_out.specs.declared.order.Order.{Order}
use Rattle.sv_core.proofs.machine.Machine.close_all.Given as goal

abbrev pub invariant-loop-link : goal.invariant-loop-link
invariant-loop-link l = record {
  kept : ServesLinks l.initial.self l.self;
  goes : (older : List Order) (w : World) → Shows l.initial.self older w →
      Reaches l.self older (closes_all l.links w) (closes_all (drop l.link-index l.links));
}
