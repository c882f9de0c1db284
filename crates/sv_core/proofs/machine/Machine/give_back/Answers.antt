use Rattle.std.proofs.Common.{◌≡◌, ℕ, List, ◌++◌, ap, refl, subst, ◌∙◌}
use Rattle.sv_core.proofs.Shown.{made}
use Rattle.sv_core.specs.Listening.{gives_back, id_of}
use Rattle.sv_core.specs.Logging.{tells_drops}
use Rattle.sv_core.specs.StandsFor.{Shows, shown}
use Rattle.sv_core.specs.World.{World}
use Rattle.sv_out.specs.declared.order.Order.{Order}
use Rattle.sv_pool.specs.Listeners.{rejection_reports, rejects}
use Rattle.sv_pool.specs.StandsFor as kept_pools
use Rattle.sv_core.proofs.machine.Machine.give_back.Goals as goal

pub returns-clause-gives : goal.returns-clause-gives
returns-clause-gives c = made (gives_back c.args.child) c.args.self.now c.tell_drops.new.self (λ older pools runs streams links calls kept alive written bound called.
    let id = id_of c.args.child in
    let told = rejection_reports id pools in
    let after : World = record (shown c.args.self.now older pools runs streams links calls) { pools = rejects id pools } in
    let reports : c.reject.new.given.items ≡ told =
    c.in_ok-reject.ensures.given pools kept
    ∙ ap (λ (i : ℕ). c.new-reports.result.items ++ rejection_reports i pools) c.id_of.ensures
    ∙ ap (λ (first : List Order). first ++ told) c.new-reports.ensures.items in
    subst (λ (all : List Order). Shows c.tell_drops.new.self older (tells_drops all after)) reports
    (c.in_ok-tell_drops.ensures.tells older after
    (record {
      pools = rejects id pools;
      runs = runs;
      streams = streams;
      is = refl;
      pools_kept = subst (λ (i : ℕ). kept_pools.StandsFor c.reject.new.self (rejects i pools)) c.id_of.ensures (c.in_ok-reject.ensures.rejected pools kept);
      runs_kept = alive;
      streams_kept = written;
      links = links;
      links_kept = bound;
      calls = calls;
      calls_kept = called;
    })))
