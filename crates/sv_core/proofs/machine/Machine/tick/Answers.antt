use Rattle.std.proofs.Common.{◌∙◌, ℕ, ap, refl}
use Rattle.sv_core.proofs.Shown.{made}
use Rattle.sv_core.specs.Events.{ticks}
use Rattle.sv_events.specs.TickSlice.{ticks as due}
use Rattle.sv_core.specs.StandsFor.{Shows, shown}
use Rattle.sv_core.proofs.machine.Machine.tick.Goals as goal

pub returns-then-moves_within-clause-ticked : goal.returns-then-moves_within-clause-ticked
returns-then-moves_within-clause-ticked c = made ticks c.args.self.now _ (λ older pools runs streams links calls kept alive written bound called.
    let none = c.moves_within.ensures.none c.if-moves_within.true in
    rw (none.0, none.1, none.2) (record { pools = pools; runs = runs; is = rw (c.moves_within.ensures.moved c.if-moves_within.true) refl; pools_kept = kept; runs_kept = alive; streams = streams; streams_kept = written; links = links; links_kept = bound; calls = calls; calls_kept = called }))

pub returns-clause-ticked : goal.returns-clause-ticked
returns-clause-ticked c = made ticks c.args.self.now c.offer_tick-3.new.self (λ older pools runs streams links calls kept alive written bound called.
    let x = c.args.self.now in
    let w = record (shown x older pools runs streams links calls) { clock = x.hand.moment } in
    let shows : Shows (record x { clock = c.at-due.new.self }) older w = record { pools = pools; runs = runs; is = rw c.at-due.ensures.clock refl; pools_kept = kept; runs_kept = alive; streams = streams; streams_kept = written; links = links; links_kept = bound; calls = calls; calls_kept = called } in
    let same = ap (λ (clock : ℕ). due clock x.hand.moment) (c.moves_within.ensures.kept c.if-moves_within.false) in
    rw (c.at-due.ensures.ticks ∙ same) at
    (c.in_ok-offer_tick-3.ensures.offers older _
    (c.in_ok-offer_tick-2.ensures.offers older _
    (c.in_ok-offer_tick.ensures.offers older w shows))))
