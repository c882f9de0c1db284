use Rattle.std.proofs.Common.{◌≡◌, List, ◌++◌, ap, refl, subst, ◌∙◌}
use Rattle.sv_core.proofs.Shown.{made}
use Rattle.sv_core.specs.Events.{offers}
use Rattle.sv_core.specs.Logging.{tells_drops}
use Rattle.sv_core.specs.StandsFor.{Shows, shown}
use Rattle.sv_core.specs.World.{World}
use Rattle.sv_out.specs.declared.order.Order.{Order}
use Rattle.sv_pool.specs.Offers.{offer_reports, offered}
use Rattle.sv_core.proofs.machine.Machine.offer.Goals as goal

pub returns-clause-offers : goal.returns-clause-offers
returns-clause-offers c = made (offers c.args.kind c.args.fact.now) c.args.self.now c.tell_drops.new.self (λ older pools runs streams links calls kept alive written bound called.
    let told = offer_reports c.args.kind c.args.fact.now pools in
    let after : World = record (shown c.args.self.now older pools runs streams links calls) { pools = offered c.args.kind c.args.fact.now pools } in
    let reports : c.offer.new.given.items ≡ told =
    c.in_ok-offer.ensures.given pools kept ∙ ap (λ (first : List Order). first ++ told) c.new-reports.ensures.items in
    subst (λ (all : List Order). Shows c.tell_drops.new.self older (tells_drops all after)) reports
    (c.in_ok-tell_drops.ensures.tells older after
    (record {
      pools = offered c.args.kind c.args.fact.now pools;
      runs = runs;
      streams = streams;
      is = refl;
      pools_kept = c.in_ok-offer.ensures.offered pools kept;
      runs_kept = alive;
      streams_kept = written;
      links = links;
      links_kept = bound;
      calls = calls;
      calls_kept = called;
    })))
