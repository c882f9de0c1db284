use Rattle.std.proofs.Common.{◌≡◌, ◌++◌, ℕ, List, true, false, ap, refl, subst, sym, ◌∙◌}
use Rattle.sv_core.proofs.Shown.{made, sends_there, sent_there}
use Rattle.sv_core.specs.HandingOut.{sends_to}
use Rattle.sv_core.specs.Listening.{id_of}
use Rattle.sv_core.specs.StandsFor.{shown}
use Rattle.sv_pool.specs.Listeners.{hand_orders, handed, is_handed}
use Rattle.sv_pool.specs.StandsFor as kept_pools
use Rattle.sv_runs.specs.RunBook.{sent}
use Rattle.sv_core.proofs.machine.Machine.send_to.Goals as goal

pub returns-then-is_sent-clause-sends : goal.returns-then-is_sent-clause-sends
returns-then-is_sent-clause-sends c = made (sends_to c.args.run c.args.child) c.args.self.now _ (λ older pools runs streams links calls kept alive written bound called.
    let w = shown c.args.self.now older pools runs streams links calls in
    let run = c.in-Some.run' in
    let id = c.id_of.ensures in
    let handing = c.in_ok-is_sent-in-Some.ensures in
    let test : is_handed (id_of c.args.child) pools ≡ true =
    ap (λ (i : ℕ). is_handed i pools) (sym id) ∙ sym (handing.told pools kept) ∙ c.if-is_sent.true in
    let orders : c.hand_to.new.given.items ≡ c.args.self.now.hand.given.items ++ hand_orders w.config.identifier run (id_of c.args.child) pools =
    handing.given pools kept ∙ ap (λ (server : List ℕ). c.args.self.now.hand.given.items ++ hand_orders server run c.id_of.result.0 pools) c.as_str.ensures
    ∙ ap (λ (i : ℕ). c.args.self.now.hand.given.items ++ hand_orders w.config.identifier run i pools) id in
    sent_there _ older c.args.run run c.args.child w c.in-Some.is
    (rw test (record {
      pools = handed (id_of c.args.child) pools;
      runs = sent run runs;
      is = sends_there w older c.args.self.now.hand.given.items _ _ _ _ refl orders;
      pools_kept = subst (λ (i : ℕ). kept_pools.StandsFor c.hand_to.new.self (handed i pools)) id (handing.handed pools kept);
      runs_kept = c.sent.ensures runs alive;
      streams = streams;
      streams_kept = written;
      links = links;
      links_kept = bound;
      calls = calls;
      calls_kept = called;
    })))

pub returns-else-is_sent-clause-sends : goal.returns-else-is_sent-clause-sends
returns-else-is_sent-clause-sends c = made (sends_to c.args.run c.args.child) c.args.self.now _ (λ older pools runs streams links calls kept alive written bound called.
    let w = shown c.args.self.now older pools runs streams links calls in
    let run = c.in-Some.run' in
    let id = c.id_of.ensures in
    let handing = c.in_ok-is_sent-in-Some.ensures in
    let test : is_handed (id_of c.args.child) pools ≡ false =
    ap (λ (i : ℕ). is_handed i pools) (sym id) ∙ sym (handing.told pools kept) ∙ c.if-is_sent.false in
    let orders : c.hand_to.new.given.items ≡ c.args.self.now.hand.given.items ++ hand_orders w.config.identifier run (id_of c.args.child) pools =
    handing.given pools kept ∙ ap (λ (server : List ℕ). c.args.self.now.hand.given.items ++ hand_orders server run c.id_of.result.0 pools) c.as_str.ensures
    ∙ ap (λ (i : ℕ). c.args.self.now.hand.given.items ++ hand_orders w.config.identifier run i pools) id in
    sent_there _ older c.args.run run c.args.child w c.in-Some.is
    (rw test (record {
      pools = handed (id_of c.args.child) pools;
      runs = runs;
      is = sends_there w older c.args.self.now.hand.given.items _ _ _ _ refl orders;
      pools_kept = subst (λ (i : ℕ). kept_pools.StandsFor c.hand_to.new.self (handed i pools)) id (handing.handed pools kept);
      runs_kept = alive;
      streams = streams;
      streams_kept = written;
      links = links;
      links_kept = bound;
      calls = calls;
      calls_kept = called;
    })))
