use Rattle.std.proofs.Common.{arith, rules, refl, ◌∙◌}
use Rattle.sv_core.proofs.Served.{closes_next}
use Rattle.sv_core.proofs.Shown.{links_there, order_there}
use Rattle.sv_core.specs.World.{gives}
use Rattle.sv_core.specs.declared.machine.Machine.{Machine}
use Rattle.sv_links.specs.LinkBook.{ended}
use Rattle.sv_links.specs.LinkBook.Ending.{Closed}
use Rattle.sv_out.specs.declared.order.Order.TheVariants as order
use Rattle.sv_core.proofs.machine.Machine.close_all.Goals as goal

pub loop-link-preserved : goal.loop-link-preserved
loop-link-preserved c = record {
  kept = search rules;
  goes = λ older w s.
      let at = c.loop-link.invariant.goes older w s in
      let within = c.loop-link-test.true in
      let own : Machine = record c.loop-link.self { hand = record c.loop-link.self.hand { given = c.push.new.self } } in
      let told = order_there c.loop-link.self own older at.world (order.Close _) at.shows refl c.in_ok-push.ensures.items in
      record {
        world = _;
        shows = links_there own older (gives (order.Close _) at.world) (ended _ Closed) told c.close.new.self c.close.ensures;
        is = at.is ∙ closes_next c.args.links.now c.loop-link.link-index _ at.world (omega (arith, within));
      };
}
