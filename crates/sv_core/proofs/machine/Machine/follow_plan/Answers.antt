use Rattle.std.proofs.Common.{◌≡◌, arith, rules, sym, false, ◌∙◌}
use Rattle.sv_child.specs.Moves.{is_running}
use Rattle.sv_core.proofs.Stopped.{dropped_there, plan_left, plan_next, plan_waits, rests_there}
use Rattle.sv_core.specs.Shutdown.{drops_group, tells_group}
use Rattle.sv_core.proofs.machine.Machine.follow_plan.Goals as goal

pub returns-then-not-has_come_to_rest-clause-follows : goal.returns-then-not-has_come_to_rest-clause-follows
returns-then-not-has_come_to_rest-clause-follows c = λ older w s.
    let ending : is_running c.args.self.now.course.mood ≡ false = search rules in
    let at = c.loop-self.invariant.goes older w s in
    let told = c.in_ok-tell_group.ensures.tells older at.world at.shows in
    plan_left c.args.self.now c.tell_group.new.self older w _ s ending
    (at.is ∙ plan_waits c.loop-self.self.course.left c.next_to_stop-last.result at.world (omega arith) c.next_to_stop-last.ensures
    (rests_there c.tell_group.new.self older _ c.next_to_stop-last.result told ∙ sym c.if-not-has_come_to_rest.ensures)) told

pub loop-self-preserved : goal.loop-self-preserved
loop-self-preserved c = record {
  kept = search rules;
  goes = λ older w s.
      let at = c.loop-self.invariant.goes older w s in
      let told = c.in_ok-tell_group.ensures.tells older at.world at.shows in
      record {
        world = drops_group c.next_to_stop-last.result (tells_group c.next_to_stop-last.result at.world);
        shows = dropped_there c.tell_group.new.self older _ c.next_to_stop-last.result told;
        is = at.is ∙ plan_next c.loop-self.self.course.left c.next_to_stop-last.result at.world (omega arith) c.next_to_stop-last.ensures
            (rests_there c.tell_group.new.self older _ c.next_to_stop-last.result told ∙ sym c.if-not-has_come_to_rest.ensures);
      };
}
