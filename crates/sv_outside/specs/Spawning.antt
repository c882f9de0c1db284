-- What a spawner was asked for, and what it answered.
use Rattle.std.specs.Prelude.{ℕ, ◌++◌, ◌∷◌, Bool, true, false, List, [], Option, None, Some, Result}
use Rattle.std.specs.Prelude.{Ok, Err}
use Rattle.sv_base.specs.declared.signal.Signal.{Signal}
use Rattle.sv_out.specs.declared.order.SpawnOrder.{SpawnOrder}
use Rattle.sv_outside.specs.declared.spawner.Asked.{Asked}
use Rattle.sv_outside.specs.declared.spawner.Asked.TheVariants.{Spawn, Kill}
use Rattle.sv_outside.specs.declared.spawner.KillFault.{KillFault}
use Rattle.sv_outside.specs.declared.spawner.KillFault.TheVariants as kills
use Rattle.sv_outside.specs.declared.spawner.SpawnFault.{SpawnFault}
use Rattle.sv_outside.specs.declared.spawner.SpawnFault.TheVariants as spawns
use Rattle.sv_outside.specs.declared.spawner.Started.{Started}

-- a told list with one thing more
abbrev pub with_one : {A : Type 0} → A → Option (List A) → Option (List A)
with_one one None = None
with_one one (Some told) = Some (told ++ one ∷ [])

module _ {I O E W : Type 0} where
  -- a call that asked for this program; one in which memory was refused isn't told
  abbrev pub spawn_asked : SpawnOrder → Result (Started I O E W) SpawnFault → Option (List Asked)
      → Option (List Asked)
  spawn_asked order (Ok started) asked = with_one (Spawn order (Ok started.pid)) asked
  spawn_asked order (Err (spawns.Refused refusal)) asked =
      with_one (Spawn order (Err refusal)) asked
  spawn_asked order (Err spawns.OutOfMemory) asked = asked

  -- the program was refused
  abbrev pub IsSpawnFailure : Result (Started I O E W) SpawnFault → Type 0
  IsSpawnFailure (Ok started) = ⊥
  IsSpawnFailure (Err (spawns.Refused refusal)) = Unit {0}
  IsSpawnFailure (Err spawns.OutOfMemory) = ⊥

-- a call that asked for this signal
abbrev pub kill_asked : ℕ → Signal → Bool → Result (Unit {0}) KillFault → Option (List Asked)
    → Option (List Asked)
kill_asked pid signal group (Ok done) asked = with_one (Kill pid signal group true) asked
kill_asked pid signal group (Err kills.Failed) asked = with_one (Kill pid signal group false) asked
kill_asked pid signal group (Err kills.OutOfMemory) asked = asked

-- the signal wasn't sent
abbrev pub IsKillFailure : Result (Unit {0}) KillFault → Type 0
IsKillFailure (Ok done) = ⊥
IsKillFailure (Err kills.Failed) = Unit {0}
IsKillFailure (Err kills.OutOfMemory) = ⊥
