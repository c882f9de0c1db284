-- What becomes of one child, on the world that the machine's fields show.
use Rattle.std.proofs.Common.{◌≡◌, ℕ, ◌+◌, ◌≤◌, ◌<◌, List, [], ◌∷◌, ◌++◌, Some, None, sym, append_assoc, refl}
use Rattle.std.proofs.lemmas.Bool.{le-leb, lt-leb}
use Rattle.sv_base.specs.declared.ids.LinkId.{LinkId}
use Rattle.sv_children.specs.Orders.{spawn_at}
use Rattle.sv_core.specs.Moves.{fails}
use Rattle.sv_core.specs.Sweeps.{Turn, asks, spawns}
use Rattle.sv_core.specs.Requests.{asks_start, spawns_for, start_fails}
use Rattle.sv_core.specs.World.{World}
use Rattle.sv_out.specs.declared.order.Order.{Order}
use Rattle.sv_out.specs.declared.order.Order.TheVariants as order
use Rattle.sv_out.specs.declared.order.SpawnOrder.{SpawnOrder}

-- what is added to the orders of the input in hand is added to all orders
all_added : (all older given later more : List Order) → all ≡ older ++ given → later ≡ given ++ more → older ++ later ≡ all ++ more
all_added all older given later more is is_later = rw (is, is_later) (sym (append_assoc older given more))

-- a spawn is ordered
pub spawned_there : (w : World) (older given later : List Order) (c : ℕ) (spawning : SpawnOrder) (k : World → Turn)
    → w.given ≡ older ++ given
    → w.next_run ≤ 4294967295
    → Some spawning ≡ spawn_at w.children c w.next_run
    → later ≡ given ++ order.Spawn spawning ∷ []
    → spawns c w k ≡ asks c (record { 0 = w.next_run }) (record w { next_run = w.next_run + 1; given = older ++ later }) k
spawned_there w older given later c spawning k is bound is_spawning is_later =
    let added : older ++ later ≡ w.given ++ order.Spawn spawning ∷ [] = all_added w.given older given later (order.Spawn spawning ∷ []) is is_later in
    rw (le-leb w.next_run 4294967295 bound, sym is_spawning, added) refl

-- no process is there to be started
pub nothing_spawned : (w : World) (c : ℕ) (k : World → Turn) → w.next_run ≤ 4294967295 → None ≡ spawn_at w.children c w.next_run
    → spawns c w k ≡ k w
nothing_spawned w c k bound none = rw (le-leb w.next_run 4294967295 bound, sym none) refl

-- no number is left for a run
pub none_left : (w : World) (c : ℕ) (k : World → Turn) → 4294967295 < w.next_run → spawns c w k ≡ k (fails c w)
none_left w c k past = rw (lt-leb w.next_run 4294967295 past) refl

-- ---- a start for the call of a link

pub start_there : (link : LinkId) (w : World) (older given later : List Order) (c : ℕ) (spawning : SpawnOrder) (k : World → Turn)
    → w.given ≡ older ++ given
    → w.next_run ≤ 4294967295
    → Some spawning ≡ spawn_at w.children c w.next_run
    → later ≡ given ++ order.Spawn spawning ∷ []
    → spawns_for link c w k ≡ asks_start link c (record { 0 = w.next_run }) (record w { next_run = w.next_run + 1; given = older ++ later }) k
start_there link w older given later c spawning k is bound is_spawning is_later =
    let added : older ++ later ≡ w.given ++ order.Spawn spawning ∷ [] = all_added w.given older given later (order.Spawn spawning ∷ []) is is_later in
    rw (le-leb w.next_run 4294967295 bound, sym is_spawning, added) refl

pub nothing_started : (link : LinkId) (w : World) (c : ℕ) (k : World → Turn) → w.next_run ≤ 4294967295 → None ≡ spawn_at w.children c w.next_run
    → spawns_for link c w k ≡ k w
nothing_started link w c k bound none = rw (le-leb w.next_run 4294967295 bound, sym none) refl

pub no_number : (link : LinkId) (w : World) (c : ℕ) (k : World → Turn) → 4294967295 < w.next_run
    → spawns_for link c w k ≡ k (start_fails link c w)
no_number link w c k past = rw (lt-leb w.next_run 4294967295 past) refl
