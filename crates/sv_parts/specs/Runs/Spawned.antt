-- What an order to start a program comes to.
use Rattle.std.specs.Prelude.{◌≡◌, ◌<◌, ◌++◌, ◌∷◌, ℕ, Bool, false, List, [], Option, Result, Ok}
use Rattle.std.specs.Prelude.{Err, take}
use Rattle.sv_base.specs.declared.ids.Run.{Run}
use Rattle.sv_base.specs.declared.signal.Signal.TheVariants as signals
use Rattle.sv_lane.specs.Ends.{posted}
use Rattle.sv_out.specs.declared.order.SpawnOrder.{SpawnOrder}
use Rattle.sv_outside.specs.Spawning.{with_one}
use Rattle.sv_outside.specs.declared.jobs.JobWord.{JobWord}
use Rattle.sv_outside.specs.declared.spawner.Asked.{Asked}
use Rattle.sv_outside.specs.declared.spawner.Asked.TheVariants.{Kill, Spawn}
use Rattle.sv_parts.specs.Runs.JobWords.{grown, words_of_run}
use Rattle.sv_parts.specs.declared.runs.life.Life.{Life}
use Rattle.sv_parts.specs.declared.runs.spawning.SpawnAnswer.{SpawnAnswer}
use Rattle.sv_parts.specs.declared.runs.spawning.SpawnAnswer.TheVariants.{Pid, Refused, NoThread}

-- a life of this run stands after the others, to whose standard input nothing was posted
pub record Begins (run : Run) (pid : ℕ) (old new : List Life) : Type 0 where
  pub life : Life
  pub last : new ≡ old ++ life ∷ []
  pub run_is : life.run ≡ run
  pub pid_is : life.pid ≡ pid
  pub none : posted life.words ≡ []
  pub unwritten : life.unwritten ≡ 0
  pub closed : life.closed ≡ false

-- the program was started, not all of its jobs were kept, and its process was sent KILL, once
pub record StopsShort (order : SpawnOrder) (asked asked_after : Option (List Asked))
    (kept kept_after : Option (List JobWord)) : Type 0 where
  pub pid : ℕ
  pub sent : Bool
  pub count : ℕ
  pub asks : asked_after ≡ with_one (Kill pid signals.Kill false sent)
      (with_one (Spawn order (Ok pid)) asked)
  pub few : count < 4
  pub jobs : kept_after ≡ grown (take count (words_of_run order.run)) kept

-- the spawner was asked once for this order. Where it started the program, the gate was handed the
-- jobs of the run, in their order; where it kept them all, the run lives
abbrev pub Spawns : {E : Type 0} → SpawnOrder → Result SpawnAnswer E → Option (List Asked)
    → Option (List Asked)
    → Option (List JobWord) → Option (List JobWord) → List Life → List Life → Type 0
Spawns order (Ok (Pid pid)) asked asked_after kept kept_after lives lives_after =
    (asked_after ≡ with_one (Spawn order (Ok pid)) asked)
    × (kept_after ≡ grown (words_of_run order.run) kept)
    × Begins order.run pid lives lives_after
Spawns order (Ok (Refused refusal)) asked asked_after kept kept_after lives lives_after =
    (asked_after ≡ with_one (Spawn order (Err refusal)) asked) × (kept_after ≡ kept)
    × (lives_after ≡ lives)
Spawns order (Ok NoThread) asked asked_after kept kept_after lives lives_after =
    StopsShort order asked asked_after kept kept_after × (lives_after ≡ lives)
Spawns order (Err error) asked asked_after kept kept_after lives lives_after = lives_after ≡ lives

-- the spawner refused it
abbrev pub IsRefused : {E : Type 0} → Result SpawnAnswer E → Type 0
IsRefused (Ok (Pid pid)) = ⊥
IsRefused (Ok (Refused refusal)) = Unit {0}
IsRefused (Ok NoThread) = ⊥
IsRefused (Err error) = ⊥

-- the gate didn't keep all jobs
abbrev pub IsNoThread : {E : Type 0} → Result SpawnAnswer E → Type 0
IsNoThread (Ok (Pid pid)) = ⊥
IsNoThread (Ok (Refused refusal)) = ⊥
IsNoThread (Ok NoThread) = Unit {0}
IsNoThread (Err error) = ⊥
