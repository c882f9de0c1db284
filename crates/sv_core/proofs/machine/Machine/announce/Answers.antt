use Rattle.std.proofs.Common.{true, refl}
use Rattle.sv_core.proofs.Shown.{made}
use Rattle.sv_core.specs.Events.{announces}
use Rattle.sv_core.specs.StandsFor.{shown}
use Rattle.sv_core.proofs.machine.Machine.announce.Goals as goal

pub returns-clause-announced : goal.returns-clause-announced
returns-clause-announced c = made announces c.args.self.now c.offer_change.new.self (λ older pools runs streams links calls kept alive written bound called.
    let w = shown c.args.self.now older pools runs streams links calls in
    rw c.if-self.false
    (c.in_ok-offer_change.ensures.offers older (record w { course = record w.course { announced = true } })
    (record { pools = pools; runs = runs; is = refl; pools_kept = kept; runs_kept = alive; streams = streams; streams_kept = written; links = links; links_kept = bound; calls = calls; calls_kept = called })))
