-- What becomes an event: it is offered to each pool, and what full pools drop for it is reported
-- (the manual's chapter on events).
use Rattle.std.specs.Prelude.{ℕ, Option, Some, None, true, if◌then◌else◌}
use Rattle.sv_base.specs.declared.kind.Kind.{Kind}
use Rattle.sv_base.specs.declared.kind.Kind.TheVariants as kind
use Rattle.sv_core.specs.Logging.{tells_drops}
use Rattle.sv_core.specs.World.{World}
use Rattle.sv_events.specs.TickSlice.{tick}
use Rattle.sv_events.specs.declared.fact.Fact.{Fact}
use Rattle.sv_events.specs.declared.fact.Fact.TheVariants as fact
use Rattle.sv_pool.specs.Offers.{offer_reports, offered}

-- an event of this type, that tells of this fact
abbrev pub offers : Kind → Fact → World → World
offers kind fact w =
    tells_drops (offer_reports kind fact w.pools) (record w { pools = offered kind fact w.pools })

-- of a fact that may not be there
abbrev pub offers_if : Kind → Option Fact → World → World
offers_if kind None w = w
offers_if kind (Some fact) w = offers kind fact w

-- the daemon runs, or is about to stop
abbrev pub offers_change : Kind → World → World
offers_change kind w = offers kind fact.Supervisor w

-- a period's clock ticks, if it comes to another slice
abbrev pub offers_tick : Kind → Option ℕ → World → World
offers_tick kind None w = w
offers_tick kind (Some when) w = offers kind (fact.Tick when) w

-- step 0: in the first turn the daemon says that it runs
abbrev pub announces : World → World
announces w =
    if w.course.announced then w
    else offers_change kind.SupervisorStateChangeRunning
    (record w { course = record w.course { announced = true } })

-- step 3: the ticks of 5, 60 and 3,600 seconds, in this order, since the clock was last looked at
abbrev pub ticks : World → World
ticks w =
    let old = w.clock in
    let new = w.moment in
    offers_tick kind.Tick3600 (tick 3600 old new)
    (offers_tick kind.Tick60 (tick 60 old new)
    (offers_tick kind.Tick5 (tick 5 old new) (record w { clock = new })))
