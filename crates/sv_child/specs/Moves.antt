-- The moves of a child, of which the child table is made: for each kind of answer what becomes of
-- the child, which edges it takes, and what is to be done.
use Rattle.std.specs.Prelude.{ℕ, ℤ, pos, negsuc, List, [], ◌∷◌, Option, Some, None, Bool, true}
use Rattle.std.specs.Prelude.{false, ◌+◌, ◌*◌, ◌&&◌, not, if◌then◌else◌, min, nat_le, nat_lt}
use Rattle.std.specs.Prelude.{is_none, codes}
use Rattle.std.specs.List.{list_any}
use Rattle.std.specs.Ordering.{int_eq}
use Rattle.sv_base.specs.declared.ids.Run.{Run}
use Rattle.sv_base.specs.declared.signal.Signal.TheVariants as signal_is
use Rattle.sv_base.specs.declared.spec.Spec.{Spec}
use Rattle.sv_base.specs.declared.state.Autorestart.{Autorestart}
use Rattle.sv_base.specs.declared.state.Autorestart.TheVariants.{Never, Unexpected, Always}
use Rattle.sv_base.specs.declared.state.How.{How}
use Rattle.sv_base.specs.declared.state.How.TheVariants as how_is
use Rattle.sv_base.specs.declared.state.Mood.{Mood}
use Rattle.sv_base.specs.declared.state.Mood.TheVariants as mood_is
use Rattle.sv_base.specs.declared.state.State.{State}
use Rattle.sv_base.specs.declared.state.State.TheVariants.{Stopped, Starting, Running, Backoff}
use Rattle.sv_base.specs.declared.state.State.TheVariants.{Stopping, Exited, Fatal}
use Rattle.sv_child.specs.declared.child.Child.{Child}
use Rattle.sv_child.specs.declared.step.ChildDeed.{ChildDeed}
use Rattle.sv_child.specs.declared.step.ChildDeed.TheVariants.{Spawn, Kill}
use Rattle.sv_child.specs.declared.step.Step.{Step}

-- what comes of a stimulus: the child after it, and the step that it took
pub record Answer : Type 0 where
  pub child : Child
  pub step : Step

-- a child that was never started
abbrev pub new_child : Child
new_child = record {
  state = Stopped;
  run = None;
  pid = 0;
  start = None;
  stop = None;
  deadline = None;
  tries = 0;
  exit = pos 0;
  fault = [];
}

-- nothing of the child runs or is about to run
abbrev pub is_at_rest : State → Bool
is_at_rest Stopped = true
is_at_rest Exited = true
is_at_rest Fatal = true
is_at_rest state = false

-- a deadline is reached at equality, and none is never reached
abbrev pub is_reached : Option ℕ → ℕ → Bool
is_reached None now = false
is_reached (Some deadline) now = nat_le deadline now

-- the deadline so many seconds after now
abbrev pub seconds_after : ℕ → ℕ → Option ℕ
seconds_after now seconds = Some (now + 1000 * seconds)

-- the daemon neither restarts nor shuts down
abbrev pub is_running : Mood → Bool
is_running mood_is.Running = true
is_running mood = false

-- more starts failed in a row than are tried again
abbrev pub has_tired : Spec → Child → Bool
has_tired spec child = nat_lt spec.startretries child.tries

-- started again always, or after an exit code that isn't expected
abbrev pub restarts_by : Autorestart → List ℕ → ℤ → Bool
restarts_by Always codes exit = true
restarts_by Unexpected codes exit = not (list_any (λ code. int_eq (pos code) exit) codes)
restarts_by Never codes exit = false

-- an exited child is to be started again
abbrev pub restarts : Spec → Child → Bool
restarts spec child = restarts_by spec.autorestart spec.exitcodes child.exit

-- a child is to be started with the daemon, and never was
abbrev pub is_first_start : Spec → Child → Bool
is_first_start spec child = is_none child.start && spec.autostart

-- no edge
abbrev pub stays : Option ChildDeed → Step
stays deed = record { edges = None ∷ None ∷ []; deed = deed }

-- one edge
abbrev pub leads : State → State → Option ChildDeed → Step
leads from to deed =
    record { edges = Some (record { from = from; to = to }) ∷ None ∷ []; deed = deed }

-- two edges, one after the other
abbrev pub leads_over : State → State → State → Step
leads_over from by to = record {
  edges = Some (record { from = from; to = by }) ∷ Some (record { from = by; to = to }) ∷ [];
  deed = None;
}

-- the failed starts in a row are forgotten on entering these four states
abbrev pub tries_on : State → ℕ → ℕ
tries_on Running tries = 0
tries_on Exited tries = 0
tries_on Fatal tries = 0
tries_on Stopped tries = 0
tries_on state tries = tries

-- the child in the state that it enters
abbrev pub entered : Child → State → Child
entered child to = record child { state = to; tries = tries_on to child.tries }

-- nothing
abbrev pub nothing : Child → Answer
nothing child = record { child = child; step = stays None }

-- from one state to another, and that is all
abbrev pub goes : State → Child → State → Answer
goes from child to = record { child = entered child to; step = leads from to None }

-- to STARTING, with a spawn
abbrev pub starts : State → Child → ℕ → Answer
starts from child now = record {
  child = record (entered child Starting) { start = Some now };
  step = leads from Starting (Some Spawn);
}

-- to STOPPING, with the stop signal, and with a deadline for KILL
abbrev pub stops : State → Spec → Child → ℕ → Answer
stops from spec child now = record {
  child = record (entered child Stopping) { deadline = seconds_after now spec.stopwaitsecs };
  step = leads from Stopping (Some (Kill spec.stopsignal spec.stopasgroup));
}

-- KILL, and a new deadline for the next one
abbrev pub is_killed : Spec → Child → ℕ → Answer
is_killed spec child now = record {
  child = record child { deadline = seconds_after now spec.stopwaitsecs };
  step = stays (Some (Kill signal_is.Kill spec.killasgroup));
}

-- the process runs: it has until its deadline to show that it stays up
abbrev pub is_spawned : Spec → Child → Run → ℕ → ℕ → Answer
is_spawned spec child run pid now = record {
  child =
      record child
      { run = Some run; pid = pid; deadline = seconds_after now spec.startsecs; fault = [] };
  step = stays None;
}

-- one failed start more, but it stops at one above the most retries
abbrev pub one_try_more : ℕ → ℕ
one_try_more tries = min (tries + 1) 1000001

-- from STARTING to BACKOFF: the next try waits for as many seconds as starts failed in a row
abbrev pub backs_off : Child → List ℕ → ℕ → Answer
backs_off child fault now = record {
  child = record child {
    state = Backoff;
    tries = one_try_more child.tries;
    fault = fault;
    deadline = seconds_after now (one_try_more child.tries);
  };
  step = leads Starting Backoff None;
}

-- the exit code, or -1 for a signal
abbrev pub exit_of : How → ℤ
exit_of (how_is.Code code) = pos code
exit_of (how_is.Signal signal) = negsuc 0

-- the child once its process has ended
abbrev pub exited : Child → How → ℕ → Child
exited child how now = record child { exit = exit_of how; stop = Some now; pid = 0 }

-- the fault of a process that didn't stay up long enough
abbrev pub exited_too_quickly : List ℕ
exited_too_quickly = codes "Exited too quickly (process log may have details)"

-- an exit of a child whose start isn't settled: one that came at its deadline or later was in time
abbrev pub ends_start : Child → How → ℕ → Answer
ends_start child how now =
    if is_reached child.deadline now then record {
      child = entered (entered (exited child how now) Running) Exited;
      step = leads_over Starting Running Exited;
    } else backs_off (exited child how now) exited_too_quickly now
