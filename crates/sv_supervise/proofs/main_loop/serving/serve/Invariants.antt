use Rattle.std.proofs.Common.{◌≡◌, ◌≤◌, false, List, length}
use Rattle.sv_out.specs.declared.input.Input.{Input}
use Rattle.sv_supervise.specs.MainLoop.Course.{Stands}
use Rattle.sv_supervise.specs.MainLoop.Telling.{told}
use Rattle.sv_supervise.proofs.main_loop.serving.serve.Given as goal

abbrev pub invariant-loop-before : goal.invariant-loop-before
invariant-loop-before g l = record {
  stands : (m : g.E.Engine.Model) → g.E.Engine.stands l.initial.machine m → g.E.Engine.rules.halted m ≡ false
      → (inputs : List Input)
      × Stands g.E.Engine.rules (g.L.Lines.texts l.lines) m (g.E.Engine.stands l.machine)
      (told (g.W.World.given l.initial.world) (g.W.World.left l.initial.world) (g.W.World.handed l.initial.world) (g.J.Sink.written l.initial.journal))
      (told (g.W.World.given l.world) (g.W.World.left l.world) (g.W.World.handed l.world) (g.J.Sink.written l.journal))
      inputs
      × (length inputs ≡ l.before);
  breaks : g.W.World.breaks l.initial.world ≤ g.W.World.breaks l.world;
  faults : g.W.World.faults l.initial.world ≤ g.W.World.faults l.world;
  later : g.J.Sink.faults l.initial.journal ≤ g.J.Sink.faults l.journal;
}
