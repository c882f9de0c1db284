-- An event is offered to each pool, which takes it where it asks for it (the manual's chapter on
-- events).
use Rattle.std.specs.Prelude.{ℕ, List, [], ◌+◌, ◌^◌, ◌%◌, Bool, map, if◌then◌else◌}
use Rattle.std.specs.List.{flat_map, list_any}
use Rattle.std.specs.Option.{option_map, option_to_list}
use Rattle.sv_base.specs.declared.kind.Kind.{Kind}
use Rattle.sv_events.specs.EventText.{body_of}
use Rattle.sv_events.specs.declared.event.Event.{Event}
use Rattle.sv_events.specs.declared.fact.Fact.{Fact}
use Rattle.sv_out.specs.declared.order.Order.{Order}
use Rattle.sv_out.specs.declared.order.Order.TheVariants as order
use Rattle.sv_pool.specs.PoolLists.{accepted, dropped_for_room}
use Rattle.sv_pool.specs.declared.taken.Dropped.{Dropped}
use Rattle.sv_pool.specs.Covering.{ask_for}
use Rattle.sv_pool.specs.EventPools.{EventPool, EventPools}

-- the report of an event that a pool dropped
abbrev pub drop_report : List ℕ → Dropped → Order
drop_report group dropped = order.Dropped group dropped.serial dropped.poolserial

-- what a pool reports where it makes room for an event
abbrev pub room_reports : EventPool → List Order
room_reports p = option_to_list (option_map (drop_report p.group) (dropped_for_room p.lists))

-- a pool that asks for the event takes it
abbrev pub takes : Event → EventPool → Bool
takes event p = ask_for p.kinds event.kind

-- the pool after it
abbrev pub offered_to : Event → EventPool → EventPool
offered_to event p = if takes event p then record p { lists = accepted event p.lists } else p

-- what it reports
abbrev pub reports_of_offer : Event → EventPool → List Order
reports_of_offer event p = if takes event p then room_reports p else []

-- an event of this type, number and body
abbrev pub event_with : Kind → ℕ → List ℕ → Event
event_with kind serial body = record { kind = kind; serial = serial; body = body }

-- one that tells of this fact; its number is taken modulo 2^64
abbrev pub event_of : Kind → Fact → ℕ → Event
event_of kind fact drawn = event_with kind (drawn % 2 ^ 64) (body_of fact)

-- some pool takes it: then it gets the next number
abbrev pub is_asked_for : Kind → List EventPool → Bool
is_asked_for kind ps = list_any (λ (p : EventPool). ask_for p.kinds kind) ps

-- the pools after the offer
abbrev pub offered : Kind → Fact → EventPools → EventPools
offered kind fact ps = record {
  each = map (offered_to (event_of kind fact ps.drawn)) ps.each;
  drawn = if is_asked_for kind ps.each then ps.drawn + 1 else ps.drawn;
}

-- what they report, in the order of the pools
abbrev pub offer_reports : Kind → Fact → EventPools → List Order
offer_reports kind fact ps = flat_map (reports_of_offer (event_of kind fact ps.drawn)) ps.each
