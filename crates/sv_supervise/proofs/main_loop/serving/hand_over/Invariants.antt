use Rattle.std.proofs.Common.{◌≡◌, ◌≤◌, take}
use Rattle.sv_supervise.specs.MainLoop.Telling.{grown}
use Rattle.sv_supervise.proofs.main_loop.serving.hand_over.Given as goal

abbrev pub invariant-loop-order : goal.invariant-loop-order
invariant-loop-order g l = record {
  handed : g.W.World.handed l.world ≡ grown (take l.order-index l.orders) (g.W.World.handed l.initial.world);
  given : g.W.World.given l.world ≡ g.W.World.given l.initial.world;
  left : g.W.World.left l.world ≡ g.W.World.left l.initial.world;
  breaks : g.W.World.breaks l.world ≡ g.W.World.breaks l.initial.world;
  faults : g.W.World.faults l.initial.world ≤ g.W.World.faults l.world;
}
