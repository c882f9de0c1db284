use Rattle.std.proofs.Common.{List, ℕ, Option, refl, subst}
use Rattle.sv_core.proofs.Shown.{made}
use Rattle.sv_core.specs.Logging.{logs_if, notes}
use Rattle.sv_core.specs.StandsFor.{Shows, shown}
use Rattle.sv_core.proofs.machine.Machine.note.Goals as goal

pub returns-clause-notes : goal.returns-clause-notes
returns-clause-notes c = made (notes c.args.line.now) c.args.self.now c.log_main.new.self (λ older pools runs streams links calls kept alive written bound called.
    let w = shown c.args.self.now older pools runs streams links calls in
    subst (λ (bytes : Option (List ℕ)). Shows c.log_main.new.self older (logs_if w.config.main bytes w)) c.in_ok-bytes.ensures
    (c.in_ok-log_main.ensures.logs older w
    (record { pools = pools; runs = runs; is = refl; pools_kept = kept; runs_kept = alive; streams = streams; streams_kept = written; links = links; links_kept = bound; calls = calls; calls_kept = called })))
