-- What a spawner in memory tells, and which of its calls fail.
use Rattle.std.specs.Prelude.{◌≡◌, ℕ, true, false, List, [], ◌∷◌, Option, Some, Result, Ok, Err}
use Rattle.sv_out.specs.Plans.{CallPlan, called, is_to_fail}
use Rattle.sv_out.specs.declared.sink.ListSink.{ListSink}
use Rattle.sv_out.specs.declared.source.ListSource.{ListSource}
use Rattle.sv_outside.specs.declared.script_spawner.Program.{Program}
use Rattle.sv_outside.specs.declared.script_spawner.ScriptSpawner.{ScriptSpawner}
use Rattle.sv_outside.specs.declared.spawner.Asked.{Asked}
use Rattle.sv_outside.specs.declared.spawner.KillFault.{KillFault}
use Rattle.sv_outside.specs.declared.spawner.KillFault.TheVariants as kills
use Rattle.sv_outside.specs.declared.spawner.SpawnFault.{SpawnFault}
use Rattle.sv_outside.specs.declared.spawner.SpawnFault.TheVariants as spawns
use Rattle.sv_outside.specs.declared.spawner.Started.{Started}
use Rattle.sv_outside.specs.declared.waiter.ScriptWaiter.{ScriptWaiter}

-- what it was asked for and what it answered
abbrev pub told_asked : ScriptSpawner → Option (List Asked)
told_asked spawner = Some spawner.asked.items

-- the number of the next process
abbrev pub next_pid : ScriptSpawner → ℕ
next_pid spawner = spawner.next

-- the programs that it still has to start
abbrev pub programs_left : ScriptSpawner → List Program
programs_left spawner = spawner.programs.items

-- how many of its calls failed
abbrev pub spawner_faults : ScriptSpawner → ℕ
spawner_faults spawner = spawner.calls.faults

-- what a spawn of it gives
abbrev pub Given : Type 0
Given = Result (Started ListSink ListSource ListSource ScriptWaiter) SpawnFault

-- a spawn is counted, and fails exactly where it was to; where memory was refused nothing is said
abbrev pub SpawnsAsPlanned : CallPlan → CallPlan → Given → Type 0
SpawnsAsPlanned before after (Ok started) =
    (is_to_fail before ≡ false) × (after ≡ called before false)
SpawnsAsPlanned before after (Err (spawns.Refused refusal)) =
    (is_to_fail before ≡ true) × (after ≡ called before true)
SpawnsAsPlanned before after (Err spawns.OutOfMemory) = Unit {0}

-- what was started is the next program; past the list any
abbrev pub IsNext : List Program → List Program
    → Started ListSink ListSource ListSource ScriptWaiter → Type 0
IsNext [] left started = left ≡ []
IsNext (program ∷ later) left started =
    (left ≡ later) × (started.stdin ≡ program.stdin) × (started.stdout ≡ program.stdout)
    × (started.stderr ≡ program.stderr) × (started.waiter ≡ program.waiter)

-- the same of a kill
abbrev pub KillsAsPlanned : CallPlan → CallPlan → Result (Unit {0}) KillFault → Type 0
KillsAsPlanned before after (Ok done) =
    (is_to_fail before ≡ false) × (after ≡ called before false)
KillsAsPlanned before after (Err kills.Failed) =
    (is_to_fail before ≡ true) × (after ≡ called before true)
KillsAsPlanned before after (Err kills.OutOfMemory) = Unit {0}
