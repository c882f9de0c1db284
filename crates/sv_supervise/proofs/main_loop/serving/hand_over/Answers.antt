use Rattle.sv_supervise.specs.MainLoop.Working.{HandsFront}
use Rattle.sv_supervise.proofs.MainLoopLemmas.Lists.{on_err}
use Rattle.sv_supervise.proofs.MainLoopLemmas.Steps.{hands_some}
use Rattle.sv_supervise.proofs.main_loop.serving.hand_over.Goals as goal

pub returns-in_err-perform-clause-front : goal.returns-in_err-perform-clause-front
returns-in_err-perform-clause-front g c =
    on_err c.from_residual.result (HandsFront (g.W.World.handed c.args.world.now) (g.W.World.handed c.perform.new.self) c.args.orders.now)
    (hands_some c.args.orders.now c.loop-order.order-index (g.W.World.handed c.args.world.now) (g.W.World.handed c.loop-order.world)
    (g.W.World.handed c.perform.new.self) c.loop-order.invariant.handed c.in_err-perform.ensures.lost)
