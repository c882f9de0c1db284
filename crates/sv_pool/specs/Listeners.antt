-- What passes between a pool and one of its listeners, which is known by its place in the start
-- order (the manual's chapter on events, "event listener notification protocol").
use Rattle.std.specs.Prelude.{ℕ, List, [], ◌-◌, Bool, ◌&&◌, is_some, nat_le, map, slice_get}
use Rattle.std.specs.Prelude.{if◌then◌else◌}
use Rattle.std.specs.List.{flat_map, list_any}
use Rattle.std.specs.Option.{option_map, option_to_list}
use Rattle.sv_base.specs.declared.ids.Run.{Run}
use Rattle.sv_events.specs.EventText.{envelope_of}
use Rattle.sv_out.specs.declared.order.Order.{Order}
use Rattle.sv_out.specs.declared.order.Order.TheVariants as order
use Rattle.sv_pool.specs.Account.{holds_one, may_take}
use Rattle.sv_pool.specs.PoolLists.{acknowledged, rejected, took}
use Rattle.sv_pool.specs.declared.taken.Taken.{Taken}
use Rattle.sv_pool.specs.EventPools.{EventPool, EventPools}
use Rattle.sv_pool.specs.Offers.{room_reports}

-- an event waits in the pool
abbrev pub has_waiting : EventPool → Bool
has_waiting p = is_some (slice_get p.lists.waiting 0)

-- in some pool
abbrev pub some_wait : EventPools → Bool
some_wait ps = list_any has_waiting ps.each

-- the process of this place is one of the pool's listeners, and holds an event
abbrev pub is_holding : ℕ → EventPool → Bool
is_holding place p = nat_le p.first place && holds_one (place - p.first) p.lists

-- it is one of them and holds none, and an event waits
abbrev pub may_get : ℕ → EventPool → Bool
may_get place p = nat_le p.first place && may_take (place - p.first) p.lists

-- the event that waits first, as it is written to the run of a listener
abbrev pub written : List ℕ → Run → List ℕ → Taken → Order
written server run group taken =
    order.Stdin run (envelope_of server group taken.poolserial taken.event)

-- and so the pool's, if one waits
abbrev pub front_written : List ℕ → Run → EventPool → List Order
front_written server run p =
    option_to_list (option_map (written server run p.group) (slice_get p.lists.waiting 0))

-- the listener gets the event that waits first, if it may
abbrev pub handed_by : ℕ → EventPool → EventPool
handed_by place p =
    if may_get place p then record p { lists = took (place - p.first) p.lists } else p

-- the order that goes with it
abbrev pub orders_to : List ℕ → Run → ℕ → EventPool → List Order
orders_to server run place p = if may_get place p then front_written server run p else []

-- all pools after it
abbrev pub handed : ℕ → EventPools → EventPools
handed place ps = record ps { each = map (handed_by place) ps.each }

-- what is ordered then
abbrev pub hand_orders : List ℕ → Run → ℕ → EventPools → List Order
hand_orders server run place ps = flat_map (orders_to server run place) ps.each

-- whether the listener gets one
abbrev pub is_handed : ℕ → EventPools → Bool
is_handed place ps = list_any (may_get place) ps.each

-- the listener is done with the event that it holds
abbrev pub acknowledged_by : ℕ → EventPool → EventPool
acknowledged_by place p =
    if is_holding place p then record p { lists = acknowledged (place - p.first) p.lists } else p

-- all pools after it
abbrev pub acknowledges : ℕ → EventPools → EventPools
acknowledges place ps = record ps { each = map (acknowledged_by place) ps.each }

-- the event that it holds goes back to the front
abbrev pub rejected_by : ℕ → EventPool → EventPool
rejected_by place p =
    if is_holding place p then record p { lists = rejected (place - p.first) p.lists } else p

-- what the pool reports
abbrev pub reports_of_rejection : ℕ → EventPool → List Order
reports_of_rejection place p = if is_holding place p then room_reports p else []

-- all pools after it
abbrev pub rejects : ℕ → EventPools → EventPools
rejects place ps = record ps { each = map (rejected_by place) ps.each }

-- what they report
abbrev pub rejection_reports : ℕ → EventPools → List Order
rejection_reports place ps = flat_map (reports_of_rejection place) ps.each

-- a listener holds an event
abbrev pub holds : ℕ → EventPools → Bool
holds place ps = list_any (is_holding place) ps.each
