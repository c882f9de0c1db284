-- Which orders have a line.
use Rattle.std.specs.Prelude.{◌≤◌, ℕ, List, [], ◌∷◌, IsUtf8, length}
use Rattle.sv_out.specs.declared.order.Order.{Order}
use Rattle.sv_out.specs.declared.order.Order.TheVariants as order_is
use Rattle.sv_out.specs.declared.order.SpawnOrder.{SpawnOrder}
use Rattle.sv_journal.specs.JournalLine.{AreBytes, AreTexts}
use Rattle.sv_journal.specs.Limits.{number_limit, run_limit}

-- each of these is a name and a value
abbrev pub ArePairs : List (List ℕ × List ℕ) → Type 0
ArePairs [] = Unit {0}
ArePairs (pair ∷ pairs) = (IsUtf8 pair.0 × IsUtf8 pair.1) × ArePairs pairs

-- the spawns that have a line
abbrev pub FitsSpawn : SpawnOrder → Type 0
FitsSpawn spawn =
    (spawn.run.0 ≤ run_limit)
    × IsUtf8 spawn.group
    × IsUtf8 spawn.name
    × IsUtf8 spawn.directory
    × IsUtf8 spawn.umask
    × IsUtf8 spawn.user
    × AreTexts spawn.words
    × (length spawn.words ≤ number_limit)
    × ArePairs spawn.environment
    × (length spawn.environment ≤ number_limit)

-- the orders that have a line
abbrev pub FitsOrder : Order → Type 0
FitsOrder (order_is.State group name from to) = IsUtf8 group × IsUtf8 name
FitsOrder (order_is.Dropped pool serial poolserial) =
    IsUtf8 pool × (serial ≤ number_limit) × (poolserial ≤ number_limit)
FitsOrder (order_is.Spawn spawn) = FitsSpawn spawn
FitsOrder (order_is.Kill run signal group) = run.0 ≤ run_limit
FitsOrder (order_is.Stdin run bytes) = (run.0 ≤ run_limit) × AreBytes bytes
FitsOrder (order_is.Append file bytes) = IsUtf8 file × AreBytes bytes
FitsOrder (order_is.Shift from to) = IsUtf8 from × IsUtf8 to
FitsOrder (order_is.Fresh file) = IsUtf8 file
FitsOrder (order_is.ReadFile file start length) =
    IsUtf8 file × (start ≤ number_limit) × (length ≤ number_limit)
FitsOrder (order_is.ClearFile file) = IsUtf8 file
FitsOrder (order_is.Names pattern) = IsUtf8 pattern
FitsOrder (order_is.Size file) = IsUtf8 file
FitsOrder (order_is.Send link bytes) = (link.0 ≤ run_limit) × AreBytes bytes
FitsOrder (order_is.More link) = link.0 ≤ run_limit
FitsOrder (order_is.Close link) = link.0 ≤ run_limit
FitsOrder order_is.Halt = Unit {0}
