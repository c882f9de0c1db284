use Rattle.std.proofs.Common.{◌≡◌, ◌+◌, ◌∷◌, ◌++◌, [], arith, length, length-append, refl}
use Rattle.sv_supervise.specs.MainLoop.Rules.{after}
use Rattle.sv_supervise.specs.MainLoop.Telling.{told}
use Rattle.sv_supervise.proofs.MainLoopLemmas.Courses.{stands_more, stops_after}
use Rattle.sv_supervise.proofs.MainLoopLemmas.Steps.{none_given}
use Rattle.sv_supervise.proofs.main_loop.serving.serve.Goals as goal

pub loop-before-init : goal.loop-before-init
loop-before-init g c = record {
  stands = λ m stands going. (
    [],
    record {
      whole = none_given g.E.Engine.rules (g.L.Lines.texts c.args.lines.now) m
          (told (g.W.World.given c.args.world.now) (g.W.World.left c.args.world.now) (g.W.World.handed c.args.world.now) (g.J.Sink.written c.args.journal.now))
          (told (g.W.World.given c.args.world.now) (g.W.World.left c.args.world.now) (g.W.World.handed c.args.world.now) (g.J.Sink.written c.args.journal.now))
          going refl refl refl refl;
      stands = stands;
    },
    refl,
  );
  breaks = omega arith;
  faults = omega arith;
  later = omega arith;
}

pub returns-in-Err-clause-stops : goal.returns-in-Err-clause-stops
returns-in-Err-clause-stops g c = λ m stands going.
    let at = c.loop-before.invariant.stands m stands going in
    let count = at.2 in
    stops_after g.E.Engine.rules (g.L.Lines.texts c.args.lines.now) 0 c.loop-before.before m
    (told (g.W.World.given c.args.world.now) (g.W.World.left c.args.world.now) (g.W.World.handed c.args.world.now) (g.J.Sink.written c.args.journal.now))
    (told (g.W.World.given c.loop-before.world) (g.W.World.left c.loop-before.world) (g.W.World.handed c.loop-before.world) (g.J.Sink.written c.loop-before.journal))
    (told (g.W.World.given c.take_one.new.world) (g.W.World.left c.take_one.new.world) (g.W.World.handed c.take_one.new.world) (g.J.Sink.written c.take_one.new.journal))
    at.0 c.in-Err.end at.1.whole.0 (omega (arith, count))
    (c.in-Err.ensures.stops (after g.E.Engine.rules m at.0) at.1.stands at.1.whole.1 c.loop-before.before refl)

pub loop-before-preserved : goal.loop-before-preserved
loop-before-preserved g c = record {
  stands = λ m stands going.
      let at = c.loop-before.invariant.stands m stands going in
      let more = c.in-Ok.ensures.goes_on (after g.E.Engine.rules m at.0) at.1.stands at.1.whole.1 in
      let longer = length-append at.0 (more.0 ∷ []) in
      let count = at.2 in (
        at.0 ++ more.0 ∷ [],
        stands_more g.E.Engine.rules (g.L.Lines.texts c.args.lines.now) m (g.E.Engine.stands c.take_one.new.machine)
            (told (g.W.World.given c.args.world.now) (g.W.World.left c.args.world.now) (g.W.World.handed c.args.world.now) (g.J.Sink.written c.args.journal.now))
            (told (g.W.World.given c.loop-before.world) (g.W.World.left c.loop-before.world) (g.W.World.handed c.loop-before.world) (g.J.Sink.written c.loop-before.journal))
            (told (g.W.World.given c.take_one.new.world) (g.W.World.left c.take_one.new.world) (g.W.World.handed c.take_one.new.world) (g.J.Sink.written c.take_one.new.journal))
            at.0 more.0 at.1.whole.0 more.1,
        omega (arith, longer, count),
      );
  breaks = omega (arith, c.loop-before.invariant.breaks, c.in-Ok.ensures.breaks);
  faults = omega (arith, c.loop-before.invariant.faults, c.in-Ok.ensures.faults);
  later = omega (arith, c.loop-before.invariant.later, c.in-Ok.ensures.later);
}
