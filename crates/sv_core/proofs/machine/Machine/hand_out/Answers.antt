use Rattle.std.proofs.Common.{length, arith, rules, ◌∙◌}
use Rattle.sv_core.proofs.Shown.{hands_next}
use Rattle.sv_core.proofs.Unmoved.{none_out}
use Rattle.sv_core.specs.HandingOut.{hands_to}
use Rattle.sv_core.proofs.machine.Machine.hand_out.Goals as goal

pub returns-then-not-some_wait-clause-hands : goal.returns-then-not-some_wait-clause-hands
returns-then-not-some_wait-clause-hands c =
    none_out c.args.self.now c.some_wait.result c.some_wait.ensures c.if-not-some_wait.true

pub loop-child-preserved : goal.loop-child-preserved
loop-child-preserved c = record {
  kept = search rules;
  goes = λ older w s.
      let at = c.loop-child.invariant.goes older w s in
      record {
        world = hands_to c.loop-child.child at.world;
        shows = c.in_ok-hand_to.ensures.hands older at.world at.shows;
        is = at.is ∙ hands_next (length c.args.self.now.children.all) c.loop-child.child at.world (omega (arith, c.len-child-end.ensures));
      };
}
