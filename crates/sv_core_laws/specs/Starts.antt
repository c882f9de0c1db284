-- Each start of a process has its spawn (the manual's chapter on subprocesses).
use Rattle.std.specs.Prelude.{◌≡◌, ◌<◌, ℕ, List, [], ◌∷◌, length}
use Rattle.std.specs.List.{flat_map}
use Rattle.sv_base.specs.declared.state.State.{State}
use Rattle.sv_base.specs.declared.state.State.TheVariants.{Starting}
use Rattle.sv_out.specs.declared.order.Order.{Order}
use Rattle.sv_out.specs.declared.order.Order.TheVariants as order

-- a process by the names of its group and of itself, where this is the state that it enters
abbrev pub starting_by : State → List ℕ → List ℕ → List (List ℕ × List ℕ)
starting_by Starting group name = (group, name) ∷ []
starting_by state group name = []

-- the process that an order reports to be STARTING
abbrev pub starting_told : Order → List (List ℕ × List ℕ)
starting_told (order.State group name from to) = starting_by to group name
starting_told other = []

-- the process that an order spawns
abbrev pub spawn_told : Order → List (List ℕ × List ℕ)
spawn_told (order.Spawn spawning) = (spawning.group, spawning.name) ∷ []
spawn_told other = []

-- those that are reported to be STARTING, one after the other
abbrev pub starts_told : List Order → List (List ℕ × List ℕ)
starts_told orders = flat_map starting_told orders

-- those that are spawned
abbrev pub spawns_told : List Order → List (List ℕ × List ℕ)
spawns_told orders = flat_map spawn_told orders

-- while a number is left for a run, each process that is reported to be STARTING is spawned, and no
-- other, one after the other
abbrev pub EachStartIsSpawned : List Order → Type 0
EachStartIsSpawned given =
    length (spawns_told given) < 4294967295 → starts_told given ≡ spawns_told given
