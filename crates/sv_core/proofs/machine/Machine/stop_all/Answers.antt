use Rattle.std.proofs.Common.{◌≡◌, arith, rules, refl, sym, subst, ◌∙◌}
use Rattle.sv_core.proofs.Stopped.{stops_next}
use Rattle.sv_core.specs.StandsFor.{Shows}
use Rattle.sv_core.specs.Stops.{stops}
use Rattle.sv_core.specs.World.{World}
use Rattle.sv_core.proofs.machine.Machine.stop_all.Goals as goal

pub loop-left-preserved : goal.loop-left-preserved
loop-left-preserved c = record {
  most = omega (arith, c.loop-left.invariant.most);
  kept = search rules;
  goes = λ older w s.
      let at = c.loop-left.invariant.goes older w s in
      record {
        world = stops _ at.world;
        shows = c.in_ok-stop.ensures.stops older at.world at.shows;
        is = at.is ∙ stops_next c.args.span.from c.loop-left.left at.world (omega arith);
      };
}

pub returns-clause-stops : goal.returns-clause-stops
returns-clause-stops c = λ older w s.
    let at = c.loop-left.invariant.goes older w s in
    let none : c.loop-left.left ≡ 0 = omega arith in
    subst (λ (u : World). Shows c.loop-left.self older u) (sym (at.is ∙ rw none refl)) at.shows
