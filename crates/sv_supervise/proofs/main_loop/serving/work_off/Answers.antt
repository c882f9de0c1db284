use Rattle.sv_supervise.specs.MainLoop.Telling.{told}
use Rattle.sv_supervise.proofs.MainLoopLemmas.Steps.{nothing_worked}
use Rattle.sv_supervise.proofs.main_loop.serving.work_off.Goals as goal

pub returns-then-is_err-clause-works : goal.returns-then-is_err-clause-works
returns-then-is_err-clause-works g c = λ m stands accepted.
    nothing_worked g.E.Engine.rules (g.L.Lines.texts c.args.lines.now) m c.args.input
    (told (g.W.World.given c.args.world.now) (g.W.World.left c.args.world.now) (g.W.World.handed c.args.world.now) (g.J.Sink.written c.args.journal.now))
