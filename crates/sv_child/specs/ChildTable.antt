-- The child table (the manual's chapter on subprocesses): what each stimulus does in each state.
use Rattle.std.specs.Prelude.{ℕ, List, ◌&&◌, if◌then◌else◌}
use Rattle.sv_base.specs.declared.ids.Run.{Run}
use Rattle.sv_base.specs.declared.spec.Spec.{Spec}
use Rattle.sv_base.specs.declared.state.How.{How}
use Rattle.sv_base.specs.declared.state.Mood.{Mood}
use Rattle.sv_base.specs.declared.state.State.{State}
use Rattle.sv_base.specs.declared.state.State.TheVariants.{Stopped, Starting, Running, Backoff}
use Rattle.sv_base.specs.declared.state.State.TheVariants.{Stopping, Exited, Fatal}
use Rattle.sv_child.specs.declared.child.Child.{Child}
use Rattle.sv_child.specs.Moves.{Answer, nothing, goes, starts, stops, is_killed, is_spawned}
use Rattle.sv_child.specs.Moves.{backs_off, exited, ends_start, is_reached, is_running, has_tired}
use Rattle.sv_child.specs.Moves.{restarts, is_first_start}

-- what may happen to a child
pub data Stimulus : Type 0 where
  -- it is to start
  Start : Stimulus
  -- it is to stop
  Stop : Stimulus
  -- its process was started
  Spawned : (run : Run) (pid : ℕ) → Stimulus
  -- its process couldn't be started
  Spawn_failed : (fault : List ℕ) → Stimulus
  -- its process ended
  Ended : (how : How) → Stimulus
  -- time has passed
  Time : Stimulus

-- the table: one line for each stimulus and state
abbrev pub row : Stimulus → State → Spec → Child → Mood → ℕ → Answer
row Start Stopped spec child mood now = starts Stopped child now
row Start Exited spec child mood now = starts Exited child now
row Start Fatal spec child mood now = starts Fatal child now
row Stop Starting spec child mood now = stops Starting spec child now
row Stop Running spec child mood now = stops Running spec child now
row Stop Backoff spec child mood now = goes Backoff child Stopped
row (Spawned run pid) Starting spec child mood now = is_spawned spec child run pid now
row (Spawn_failed fault) Starting spec child mood now = backs_off child fault now
row (Ended how) Starting spec child mood now = ends_start child how now
row (Ended how) Running spec child mood now = goes Running (exited child how now) Exited
row (Ended how) Stopping spec child mood now = goes Stopping (exited child how now) Stopped
row Time Stopped spec child mood now =
    if is_first_start spec child && is_running mood then starts Stopped child now else nothing child
row Time Starting spec child mood now =
    if is_reached child.deadline now then goes Starting child Running else nothing child
row Time Backoff spec child mood now =
    if has_tired spec child then goes Backoff child Fatal
    else if is_reached child.deadline now && is_running mood then starts Backoff child now
    else nothing child
row Time Stopping spec child mood now =
    if is_reached child.deadline now then is_killed spec child now else nothing child
row Time Exited spec child mood now =
    if is_running mood && restarts spec child then starts Exited child now else nothing child
row stimulus state spec child mood now = nothing child

-- what a stimulus does to a child at a moment
abbrev pub happens : Spec → Child → Stimulus → Mood → ℕ → Answer
happens spec child stimulus mood now = row stimulus child.state spec child mood now
