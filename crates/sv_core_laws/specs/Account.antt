-- The account of the event pools: each event that a pool took is in one place, each that it dropped
-- is reported, and each that a listener got is written to it (the manual's chapter on events).
use Rattle.std.specs.Prelude.{◌≡◌, ◌<◌, ◌^◌, ◌≤◌, ℕ, List, [], ◌∷◌, ◌++◌, Bool, true, false, Option}
use Rattle.std.specs.Prelude.{Some, IfSome, length, map, filter, slice_get, if◌then◌else◌}
use Rattle.std.specs.List.{flat_map}
use Rattle.std.specs.Str.{bytes_eq}
use Rattle.sv_base.specs.declared.config.Config.{Config}
use Rattle.sv_base.specs.declared.ids.Run.{Run}
use Rattle.sv_base.specs.declared.kind.Kind.{Kind}
use Rattle.sv_base.specs.declared.spec.GroupSpec.{GroupSpec}
use Rattle.sv_core.specs.MachineState.{Model, now}
use Rattle.sv_events.specs.declared.fact.Fact.{Fact}
use Rattle.sv_out.specs.declared.order.Order.{Order}
use Rattle.sv_out.specs.declared.order.Order.TheVariants as order
use Rattle.sv_pool.specs.Account.{IsAccount}
use Rattle.sv_pool.specs.PoolLists.{report}
use Rattle.sv_pool.specs.declared.taken.Dropped.{Dropped}
use Rattle.sv_pool.specs.EventPools.{EventPool, EventPools, opening}
use Rattle.sv_pool.specs.Listeners.{acknowledges, hand_orders, handed, rejection_reports, rejects}
use Rattle.sv_pool.specs.Offers.{offer_reports, offered}

-- the report of an event that the pool of this group dropped, if the order is one
abbrev pub drop_told : List ℕ → Order → List Dropped
drop_told group (order.Dropped its_group serial poolserial) =
    if bytes_eq its_group group then record { serial = serial; poolserial = poolserial } ∷ []
    else []
drop_told group given = []

-- what the orders report of that pool, in order
abbrev pub drops_told : List ℕ → List Order → List Dropped
drops_told group orders = flat_map (drop_told group) orders

-- a pool that was opened so is there, and each of its listeners has one place; its events stand in
-- one place each, and no more wait than can; those that it dropped are those reported, in order
pub record IsAccountedFor (opened : EventPool) (found : Option EventPool) (given : List Order)
    : Type 0 where
  pub pool : EventPool
  pub is : found ≡ Some pool
  pub group : pool.group ≡ opened.group
  pub listeners : length pool.lists.held ≡ length opened.lists.held
  pub places : pool.lists.taken < 2 ^ 64 → IsAccount opened.lists.buffer pool.lists
  pub dropped : map report pool.lists.dropped ≡ drops_told opened.group given

-- each pool of these groups can hold an event
abbrev pub HoldSome : List GroupSpec → Type 0
HoldSome [] = Unit {0}
HoldSome (g ∷ gs) = IfSome g.pool (λ pool. 1 ≤ pool.buffer) × HoldSome gs

-- so each pool of the configuration
abbrev pub PoolsAreAccountedFor : Config → Model → List Order → Type 0
PoolsAreAccountedFor config m given = (place : ℕ) (opened : EventPool)
    → slice_get (opening config.groups).each place ≡ Some opened
    → IsAccountedFor opened (slice_get (now m).pools.each place) given

-- what happens to the pools: an event is offered; and the listener of a place gets the event that
-- waits first in its pool, as this run, is done with it, or gives it back
pub data Happening : Type 0 where
  Offered : (kind : Kind) (fact : Fact) → Happening
  Handed : (run : Run) (place : ℕ) → Happening
  Acknowledged : (place : ℕ) → Happening
  Rejected : (place : ℕ) → Happening

-- the pools after it
abbrev pub happened : Happening → EventPools → EventPools
happened (Offered kind fact) ps = offered kind fact ps
happened (Handed run place) ps = handed place ps
happened (Acknowledged place) ps = acknowledges place ps
happened (Rejected place) ps = rejects place ps

-- what it orders: an event that is handed out is written to the run in its envelope, and one that
-- is dropped is reported
abbrev pub ordered : List ℕ → Happening → EventPools → List Order
ordered server (Offered kind fact) ps = offer_reports kind fact ps
ordered server (Handed run place) ps = hand_orders server run place ps
ordered server (Acknowledged place) ps = []
ordered server (Rejected place) ps = rejection_reports place ps

-- an entry of the account: something happened to the pools, or bytes of a client are written to a
-- run
pub data Entry : Type 0 where
  Happens : Happening → Entry
  Writes : (run : Run) (bytes : List ℕ) → Entry

-- the pools after it
abbrev pub entered : Entry → EventPools → EventPools
entered (Happens h) ps = happened h ps
entered (Writes run bytes) ps = ps

-- what it orders
abbrev pub entry_ordered : List ℕ → Entry → EventPools → List Order
entry_ordered server (Happens h) ps = ordered server h ps
entry_ordered server (Writes run bytes) ps = order.Stdin run bytes ∷ []

-- one after the other
abbrev pub all_entered : List Entry → EventPools → EventPools
all_entered [] ps = ps
all_entered (e ∷ es) ps = all_entered es (entered e ps)

-- the orders of all of them
abbrev pub all_ordered : List ℕ → List Entry → EventPools → List Order
all_ordered server [] ps = []
all_ordered server (e ∷ es) ps = entry_ordered server e ps ++ all_ordered server es (entered e ps)

-- an order that writes an event or reports one that was dropped
abbrev pub is_of_pools : Order → Bool
is_of_pools (order.Stdin run bytes) = true
is_of_pools (order.Dropped group serial poolserial) = true
is_of_pools other = false

-- the pools are what became of the opened ones; and what happened to them, and clients wrote, is in
-- order all that is written to a run or reported as dropped
pub record PoolsHaveAHistory (config : Config) (m : Model) (given : List Order) : Type 0 where
  pub all : List Entry
  pub pools : (now m).pools ≡ all_entered all (opening config.groups)
  pub orders : filter is_of_pools given ≡ all_ordered config.identifier all (opening config.groups)
