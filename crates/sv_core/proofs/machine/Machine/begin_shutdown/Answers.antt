use Rattle.std.proofs.Common.{◌≡◌, true, refl, rules}
use Rattle.sv_child.specs.Moves.{is_running}
use Rattle.sv_core.proofs.Shown.{made}
use Rattle.sv_core.specs.Shutdown.{begins_shutdown, in_mood}
use Rattle.sv_core.specs.StandsFor.{shown}
use Rattle.sv_base.specs.declared.state.Mood.TheVariants.{Shutdown}
use Rattle.sv_core.proofs.machine.Machine.begin_shutdown.Goals as goal

pub returns-in_ok-offer_change-clause-begins : goal.returns-in_ok-offer_change-clause-begins
returns-in_ok-offer_change-clause-begins c = made begins_shutdown c.args.self.now c.offer_change.new.self (λ older pools runs streams links calls kept alive written bound called.
    let w = shown c.args.self.now older pools runs streams links calls in
    let begins : is_running c.args.self.now.course.mood ≡ true = search rules in
    rw begins
    (c.in_ok-offer_change.ensures.offers older (in_mood Shutdown w) (record { pools = pools; runs = runs; is = refl; pools_kept = kept; runs_kept = alive; streams = streams; streams_kept = written; links = links; links_kept = bound; calls = calls; calls_kept = called })))
