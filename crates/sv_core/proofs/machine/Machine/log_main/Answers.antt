use Rattle.std.proofs.Common.{List, ℕ, Option, Some, ap, refl, sym, ◌∙◌}
use Rattle.sv_core.proofs.Logged.{logged_there}
use Rattle.sv_core.proofs.Shown.{made}
use Rattle.sv_core.specs.Logging.{logs_if}
use Rattle.sv_core.specs.StandsFor.{shown}
use Rattle.sv_core.proofs.machine.Machine.log_main.Goals as goal

pub returns-in_ok-append-in-Some-clause-logs : goal.returns-in_ok-append-in-Some-clause-logs
returns-in_ok-append-in-Some-clause-logs c = made (logs_if c.args.self.now.config.main c.args.bytes) c.args.self.now _ (λ older pools runs streams links calls kept alive written bound called.
    let w = shown c.args.self.now older pools runs streams links calls in
    let main = c.args.self.now.config.main in
    let logged = logged_there w older c.args.self.now.hand.given.items c.append.new.given.items c.append.new.self main c.as_slice.result.now refl
    c.in_ok-append-in-Some.ensures.sizes c.in_ok-append-in-Some.ensures.orders in
    record {
      pools = pools;
      runs = runs;
      streams = streams;
      is = ap (λ (bytes : Option (List ℕ)). logs_if main bytes w) (c.in-Some.is ∙ sym (ap Some c.as_slice.ensures)) ∙ logged;
      pools_kept = kept;
      runs_kept = alive;
      streams_kept = written;
      links = links;
      links_kept = bound;
      calls = calls;
      calls_kept = called;
    })
