-- Orders that report no child: what events give.
use Rattle.std.proofs.Common.{◌≡◌, ℕ, List, [], ◌∷◌, ◌++◌, map, Bool, true, false, Option, Some, None, refl, subst, sym, if◌then◌else◌}
use Rattle.std.specs.List.{flat_map}
use Rattle.std.specs.Option.{option_map, option_to_list}
use Rattle.std.proofs.lemmas.List.{map-append}
use Rattle.sv_base.specs.declared.config.FileOrder.{FileOrder}
use Rattle.sv_base.specs.declared.config.FileOrder.TheVariants as file
use Rattle.sv_base.specs.declared.ids.Run.{Run}
use Rattle.sv_base.specs.declared.kind.Kind.{Kind}
use Rattle.sv_base.specs.declared.spec.GroupSpec.{GroupSpec}
use Rattle.sv_base.specs.declared.spec.LogSpec.{LogSpec}
use Rattle.sv_base.specs.declared.spec.Spec.{Spec}
use Rattle.sv_base.specs.declared.state.State.{State}
use Rattle.sv_child.proofs.Walks.{walk_append}
use Rattle.sv_child.specs.Diagram.{IsWalk}
use Rattle.sv_child.specs.declared.step.Edge.{Edge}
use Rattle.sv_children.specs.Crew.{Crew}
use Rattle.sv_children.specs.Orders.{reports_at, reports_of}
use Rattle.sv_children.specs.Reported.{edge_told, edges_told}
use Rattle.sv_events.specs.declared.fact.Fact.{Fact}
use Rattle.sv_logs.specs.Logging.{log_orders, order_of, orders_if, plan_as}
use Rattle.sv_logs.specs.Sizes.{Sizes, size_in}
use Rattle.sv_groups.specs.StartOrder.{pairs_of}
use Rattle.sv_logs.specs.Rotation.{orders_of}
use Rattle.sv_out.specs.declared.order.Order.{Order}
use Rattle.sv_out.specs.declared.order.Order.TheVariants as order
use Rattle.sv_pool.specs.declared.taken.Dropped.{Dropped}
use Rattle.sv_pool.specs.declared.taken.Taken.{Taken}
use Rattle.sv_pool.specs.PoolLists.{dropped_for_room}
use Rattle.sv_pool.specs.EventPools.{EventPool, EventPools}
use Rattle.sv_pool.specs.Listeners.{front_written, hand_orders, is_holding, may_get, orders_to, rejection_reports, reports_of_rejection, written}
use Rattle.sv_pool.specs.Offers.{drop_report, event_of, offer_reports, reports_of_offer, room_reports, takes}
use Rattle.std.specs.Prelude.{slice_get}

-- these orders report nothing of any child
abbrev pub IsSilent : List Order → Type 0
IsSilent orders = (group name : List ℕ) (state : State) → IsWalk state (edges_told group name orders) state

pub silent_none : IsSilent []
silent_none group name state = refl

pub silent_both : (one other : List Order) → IsSilent one → IsSilent other → IsSilent (one ++ other)
silent_both one other a b group name state =
    subst (λ (edges : List (Option Edge)). IsWalk state edges state) (sym (map-append (edge_told group name) one other))
    (walk_append state state state (edges_told group name one) (edges_told group name other) (a group name state) (b group name state))

silent_all : {A : Type 0} (f : A → List Order) (xs : List A) → ((x : A) → IsSilent (f x)) → IsSilent (flat_map f xs)
silent_all f [] each = silent_none
silent_all f (x ∷ xs) each = silent_both (f x) (flat_map f xs) (each x) (silent_all f xs each)

silent_if : (b : Bool) (orders : List Order) → IsSilent orders → IsSilent (if b then orders else [])
silent_if true orders silent = silent
silent_if false orders silent = silent_none

-- ---- file orders

silent_file : (f : FileOrder) → IsSilent (order_of f ∷ [])
silent_file (file.Append name bytes) = λ g n state. refl
silent_file (file.Shift from to) = λ g n state. refl
silent_file (file.Fresh name) = λ g n state. refl

silent_files : (fs : List FileOrder) → IsSilent (map order_of fs)
silent_files [] = silent_none
silent_files (f ∷ fs) = silent_both (order_of f ∷ []) (map order_of fs) (silent_file f) (silent_files fs)

pub silent_log : (log : LogSpec) (piece : List ℕ) (sizes : Sizes) → IsSilent (log_orders log piece sizes)
silent_log log piece sizes = by_file log.file where
  by_file : (name : Option (List ℕ)) → IsSilent (orders_if name log piece sizes)
  by_file None = silent_none
  by_file (Some name) = silent_files (orders_of (plan_as name (size_in name sizes) log) piece)

-- ---- reports of what full pools dropped

abbrev pub is_drop : Order → Bool
is_drop (order.Dropped pool serial poolserial) = true
is_drop other = false

-- all of these are such
abbrev pub AreDrops : List Order → Type 0
AreDrops [] = Unit {0}
AreDrops (o ∷ os) = (is_drop o ≡ true) × AreDrops os

drops_both : (one other : List Order) → AreDrops one → AreDrops other → AreDrops (one ++ other)
drops_both [] other a b = b
drops_both (o ∷ one) other a b = (a.0, drops_both one other a.1 b)

drops_all : {A : Type 0} (f : A → List Order) (xs : List A) → ((x : A) → AreDrops (f x)) → AreDrops (flat_map f xs)
drops_all f [] each = tt
drops_all f (x ∷ xs) each = drops_both (f x) (flat_map f xs) (each x) (drops_all f xs each)

drops_if : (b : Bool) (orders : List Order) → AreDrops orders → AreDrops (if b then orders else [])
drops_if true orders are = are
drops_if false orders are = tt

drops_room : (p : EventPool) → AreDrops (room_reports p)
drops_room p = by_drop (dropped_for_room p.lists) where
  by_drop : (dropped : Option Dropped) → AreDrops (option_to_list (option_map (drop_report p.group) dropped))
  by_drop None = tt
  by_drop (Some dropped) = (refl, tt)

pub offer_drops : (kind : Kind) (fact : Fact) (ps : EventPools) → AreDrops (offer_reports kind fact ps)
offer_drops kind fact ps =
    drops_all (reports_of_offer (event_of kind fact ps.drawn)) ps.each
    (λ p. drops_if (takes (event_of kind fact ps.drawn) p) (room_reports p) (drops_room p))

pub rejection_drops : (place : ℕ) (ps : EventPools) → AreDrops (rejection_reports place ps)
rejection_drops place ps =
    drops_all (reports_of_rejection place) ps.each (λ p. drops_if (is_holding place p) (room_reports p) (drops_room p))

pub silent_drop : (o : Order) → is_drop o ≡ true → IsSilent (o ∷ [])
silent_drop (order.Dropped pool serial poolserial) is = λ g n state. refl
silent_drop (order.State group name from to) is = cc
silent_drop (order.Spawn spawning) is = cc
silent_drop (order.Kill run signal group) is = cc
silent_drop (order.Stdin run bytes) is = cc
silent_drop (order.Append name bytes) is = cc
silent_drop (order.Shift from to) is = cc
silent_drop (order.Fresh name) is = cc
silent_drop (order.ReadFile name start length) is = cc
silent_drop (order.ClearFile name) is = cc
silent_drop (order.Names pattern) is = cc
silent_drop (order.Size name) is = cc
silent_drop (order.Send link bytes) is = cc
silent_drop (order.More link) is = cc
silent_drop (order.Close link) is = cc
silent_drop order.Halt is = cc

silent_front : (server : List ℕ) (run : Run) (p : EventPool) (front : Option Taken)
    → IsSilent (option_to_list (option_map (written server run p.group) front))
silent_front server run p None = silent_none
silent_front server run p (Some taken) = λ g n state. refl

pub silent_hand : (server : List ℕ) (run : Run) (place : ℕ) (ps : EventPools) → IsSilent (hand_orders server run place ps)
silent_hand server run place ps =
    silent_all (orders_to server run place) ps.each
    (λ p. silent_if (may_get place p) (front_written server run p) (silent_front server run p (slice_get p.lists.waiting 0)))

-- ---- a walk in two parts

pub record Parted (from : State) (one other : List (Option Edge)) (to : State) : Type 0 where
  pub between : State
  pub first : IsWalk from one between
  pub second : IsWalk between other to

pub parted : (from : State) (one other : List (Option Edge)) (to : State) → IsWalk from (one ++ other) to → Parted from one other to
parted from [] other to walk = record { between = from; first = refl; second = walk }
parted from (None ∷ one) other to walk =
    let rest = parted from one other to walk in record { between = rest.between; first = rest.first; second = rest.second }
parted from (Some edge ∷ one) other to walk =
    let rest = parted edge.to one other to walk.2 in
    record { between = rest.between; first = (walk.0, walk.1, rest.first); second = rest.second }

-- the reports of one edge, and of the others
pub reports_more : (crew : Crew) (c : ℕ) (edge : Edge) (edges : List (Option Edge))
    → reports_at crew c (Some edge ∷ edges) ≡ reports_at crew c (Some edge ∷ []) ++ reports_at crew c edges
reports_more crew c edge edges = by_pair (slice_get (pairs_of crew.roster) c) where
  by_pair : (pair : Option (GroupSpec × Spec)) → reports_of pair (Some edge ∷ edges) ≡ reports_of pair (Some edge ∷ []) ++ reports_of pair edges
  by_pair None = refl
  by_pair (Some pair) = refl

pub reports_skip : (crew : Crew) (c : ℕ) (edges : List (Option Edge)) → reports_at crew c (None ∷ edges) ≡ reports_at crew c edges
reports_skip crew c edges = by_pair (slice_get (pairs_of crew.roster) c) where
  by_pair : (pair : Option (GroupSpec × Spec)) → reports_of pair (None ∷ edges) ≡ reports_of pair edges
  by_pair None = refl
  by_pair (Some pair) = refl
