use Rattle.std.proofs.Common.{◌≡◌, ◌∙◌, ◌∷◌, [], Err, inl, refl, rules, sym}
use Rattle.sv_outside.specs.declared.world.NextFault.TheVariants as fault_is
use Rattle.sv_supervise.specs.MainLoop.Telling.{told}
use Rattle.sv_supervise.proofs.MainLoopLemmas.Lists.{given_one, given_same, led_one}
use Rattle.sv_supervise.proofs.MainLoopLemmas.Steps.{none_given, one_refused, stops_one, takes_nothing, takes_the_end}
use Rattle.sv_supervise.proofs.main_loop.serving.take_one.Goals as goal

pub returns-in-Err-Failed-clause-stops : goal.returns-in-Err-Failed-clause-stops
returns-in-Err-Failed-clause-stops g c = λ m stands going count is. (
  [],
  none_given g.E.Engine.rules (g.L.Lines.texts c.args.lines.now) m
      (told (g.W.World.given c.args.world.now) (g.W.World.left c.args.world.now) (g.W.World.handed c.args.world.now) (g.J.Sink.written c.args.journal.now))
      (told (g.W.World.given c.next.new.self) (g.W.World.left c.next.new.self) (g.W.World.handed c.next.new.self) (g.J.Sink.written c.args.journal.now))
      going
      (c.in-Err-Failed.ensures.given ∙ given_same fault_is.Failed (g.W.World.given c.args.world.now)) (takes_nothing (g.W.World.left c.args.world.now) (g.W.World.left c.next.new.self) c.in-Err-Failed.field-0 c.in-Err-Failed.ensures.left) c.in-Err-Failed.ensures.handed refl,
)

pub returns-in-Err-Ended-clause-stops : goal.returns-in-Err-Ended-clause-stops
returns-in-Err-Ended-clause-stops g c = λ m stands going count is.
    let is_ended : c.in-Err-Ended.field-0 ≡ fault_is.Ended = search rules in (
      [],
      none_given g.E.Engine.rules (g.L.Lines.texts c.args.lines.now) m
          (told (g.W.World.given c.args.world.now) (g.W.World.left c.args.world.now) (g.W.World.handed c.args.world.now) (g.J.Sink.written c.args.journal.now))
          (told (g.W.World.given c.next.new.self) (g.W.World.left c.next.new.self) (g.W.World.handed c.next.new.self) (g.J.Sink.written c.args.journal.now))
          going
          (c.in-Err-Ended.ensures.given ∙ given_same fault_is.Ended (g.W.World.given c.args.world.now)) (takes_nothing (g.W.World.left c.args.world.now) (g.W.World.left c.next.new.self) c.in-Err-Ended.field-0 c.in-Err-Ended.ensures.left) c.in-Err-Ended.ensures.handed refl,
      takes_the_end (g.W.World.left c.args.world.now) (g.W.World.left c.next.new.self) c.in-Err-Ended.field-0 is_ended c.in-Err-Ended.ensures.left,
    )

pub returns-in-Err-OutOfMemory-clause-stops : goal.returns-in-Err-OutOfMemory-clause-stops
returns-in-Err-OutOfMemory-clause-stops g c = λ m stands going count is.
    inl (
      [],
      none_given g.E.Engine.rules (g.L.Lines.texts c.args.lines.now) m
          (told (g.W.World.given c.args.world.now) (g.W.World.left c.args.world.now) (g.W.World.handed c.args.world.now) (g.J.Sink.written c.args.journal.now))
          (told (g.W.World.given c.next.new.self) (g.W.World.left c.next.new.self) (g.W.World.handed c.next.new.self) (g.J.Sink.written c.args.journal.now))
          going
          (c.in-Err-OutOfMemory.ensures.given ∙ given_same fault_is.OutOfMemory (g.W.World.given c.args.world.now)) (takes_nothing (g.W.World.left c.args.world.now) (g.W.World.left c.next.new.self) c.in-Err-OutOfMemory.field-0 c.in-Err-OutOfMemory.ensures.left) c.in-Err-OutOfMemory.ensures.handed refl,
    )

pub returns-then-not-accepts-clause-stops : goal.returns-then-not-accepts-clause-stops
returns-then-not-accepts-clause-stops g c = λ m stands going count is. (
  1,
  one_refused g.E.Engine.rules (g.L.Lines.texts c.args.lines.now) m
      (told (g.W.World.given c.args.world.now) (g.W.World.left c.args.world.now) (g.W.World.handed c.args.world.now) (g.J.Sink.written c.args.journal.now))
      (told (g.W.World.given c.next.new.self) (g.W.World.left c.next.new.self) (g.W.World.handed c.next.new.self) (g.J.Sink.written c.args.journal.now))
      c.in-Ok.input going (sym (c.if-not-accepts.ensures.accepts m stands))
      (c.in-Ok.ensures.given ∙ given_one c.in-Ok.input (g.W.World.given c.args.world.now))
      (c.in-Ok.ensures.left ∙ led_one c.in-Ok.input (g.W.World.left c.next.new.self)) c.in-Ok.ensures.handed refl,
  is,
)

pub returns-in-Err-clause-stops : goal.returns-in-Err-clause-stops
returns-in-Err-clause-stops g c = λ m stands going count is.
    let accepted = sym (c.if-not-accepts.ensures.accepts m stands) in
    stops_one g.E.Engine.rules (g.L.Lines.texts c.args.lines.now) count m (g.E.Engine.stands c.work_off.new.machine)
    (told (g.W.World.given c.args.world.now) (g.W.World.left c.args.world.now) (g.W.World.handed c.args.world.now) (g.J.Sink.written c.args.journal.now))
    (told (g.W.World.given c.next.new.self) (g.W.World.left c.next.new.self) (g.W.World.handed c.next.new.self) (g.J.Sink.written c.args.journal.now))
    (told (g.W.World.given c.work_off.new.world) (g.W.World.left c.work_off.new.world) (g.W.World.handed c.work_off.new.world) (g.J.Sink.written c.work_off.new.journal))
    c.in-Ok.input c.in-Err.end going accepted
    (c.in-Ok.ensures.given ∙ given_one c.in-Ok.input (g.W.World.given c.args.world.now))
    (c.in-Ok.ensures.left ∙ led_one c.in-Ok.input (g.W.World.left c.next.new.self)) c.in-Ok.ensures.handed refl
    (c.in-Err.ensures.works m stands accepted)
