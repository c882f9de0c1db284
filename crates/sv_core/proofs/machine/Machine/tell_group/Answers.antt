use Rattle.std.proofs.Common.{true, refl, subst, sym}
use Rattle.sv_core.proofs.Shown.{made}
use Rattle.sv_core.specs.Shutdown.{tells_group}
use Rattle.sv_core.specs.StandsFor.{Shows, shown}
use Rattle.sv_core.specs.Stops.{stops_all}
use Rattle.sv_groups.specs.declared.order.Span.{Span}
use Rattle.sv_core.proofs.machine.Machine.tell_group.Goals as goal

pub returns-then-self-clause-tells : goal.returns-then-self-clause-tells
returns-then-self-clause-tells c = made (tells_group c.args.group) c.args.self.now c.args.self.now (λ older pools runs streams links calls kept alive written bound called.
    rw c.if-self.true (record { pools = pools; runs = runs; is = refl; pools_kept = kept; runs_kept = alive; streams = streams; streams_kept = written; links = links; links_kept = bound; calls = calls; calls_kept = called }))

pub returns-then-has_come_to_rest-clause-tells : goal.returns-then-has_come_to_rest-clause-tells
returns-then-has_come_to_rest-clause-tells c = made (tells_group c.args.group) c.args.self.now c.args.self.now (λ older pools runs streams links calls kept alive written bound called.
    rw (c.if-self.false, sym c.if-has_come_to_rest.ensures) (record { pools = pools; runs = runs; is = refl; pools_kept = kept; runs_kept = alive; streams = streams; streams_kept = written; links = links; links_kept = bound; calls = calls; calls_kept = called }))

pub returns-clause-tells : goal.returns-clause-tells
returns-clause-tells c = made (tells_group c.args.group) c.args.self.now c.stop_all.new.self (λ older pools runs streams links calls kept alive written bound called.
    let w = shown c.args.self.now older pools runs streams links calls in
    let told = record w { course = record w.course { is_told = true } } in
    rw (c.if-self.false, sym c.if-has_come_to_rest.ensures)
    (subst (λ (span : Span). Shows c.stop_all.new.self older (stops_all span told)) c.group-own.ensures
    (c.in_ok-stop_all.ensures.stops older told (record { pools = pools; runs = runs; is = refl; pools_kept = kept; runs_kept = alive; streams = streams; streams_kept = written; links = links; links_kept = bound; calls = calls; calls_kept = called }))))
