-- What is counted of the orders of a run, and the line that tells it.
use Rattle.std.specs.Prelude.{◌≡◌, ◌++◌, ◌∷◌, ℕ, List, [], Bool, true, false, codes, length}
use Rattle.std.specs.Fmt.{decimal}
use Rattle.std.specs.List.{filter}
use Rattle.sv_base.specs.Ascii.{line_feed}
use Rattle.sv_generated.specs.declared.counts.Counts.{Counts}
use Rattle.sv_out.specs.declared.order.Order.{Order}
use Rattle.sv_out.specs.declared.order.Order.TheVariants as order

-- a process is spawned
abbrev pub is_spawn : Order → Bool
is_spawn (order.Spawn spawning) = true
is_spawn other = false

-- a signal is sent
abbrev pub is_kill : Order → Bool
is_kill (order.Kill run signal group) = true
is_kill other = false

-- an edge is reported
abbrev pub is_edge : Order → Bool
is_edge (order.State group name from to) = true
is_edge other = false

-- how many of the orders are so
abbrev pub spawns : List Order → ℕ
spawns orders = length (filter is_spawn orders)

abbrev pub kills : List Order → ℕ
kills orders = length (filter is_kill orders)

abbrev pub edges : List Order → ℕ
edges orders = length (filter is_edge orders)

-- these are the counts of the orders
pub record Counted (counts : Counts) (orders : List Order) : Type 0 where
  pub spawned : counts.spawns ≡ spawns orders
  pub killed : counts.kills ≡ kills orders
  pub moved : counts.edges ≡ edges orders

-- the line of a run of so many inputs that gives these orders
abbrev pub run_line : ℕ → List Order → List ℕ
run_line number orders =
    codes "inputs " ++ decimal number
    ++ codes " spawns " ++ decimal (spawns orders)
    ++ codes " kills " ++ decimal (kills orders)
    ++ codes " edges " ++ decimal (edges orders)
    ++ line_feed ∷ []
