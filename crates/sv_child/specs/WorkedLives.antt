-- Lives that were worked out by hand, one line for each time that the daemon looks at the child.
-- Moments are in milliseconds; startsecs, startretries, autorestart and stopwaitsecs stand after
-- `program spec`.
use Rattle.std.specs.Prelude.{◌≡◌, [], ◌∷◌, ◌++◌, codes}
use Rattle.sv_base.specs.declared.signal.Signal.TheVariants as signal_is
use Rattle.sv_base.specs.declared.spec.Spec.{Spec}
use Rattle.sv_base.specs.declared.state.Autorestart.TheVariants.{Never, Unexpected}
use Rattle.sv_base.specs.declared.state.How.TheVariants.{Code, Signal}
use Rattle.sv_base.specs.declared.state.State.TheVariants.{Stopped, Starting, Running, Backoff}
use Rattle.sv_base.specs.declared.state.State.TheVariants.{Stopping, Exited, Fatal}
use Rattle.sv_child.specs.Examples.{program, tick, pid, refused, exit, stop, told}
use Rattle.sv_child.specs.Examples.Told.{Took, Had}
use Rattle.sv_child.specs.declared.step.ChildDeed.TheVariants.{Spawn, Kill}

-- it stays up for its second, and then exits
abbrev pub StartsStaysUpAndExits : Spec → Type 0
StartsStaysUpAndExits spec =
    told (program spec 1 3 Unexpected 10)
    (tick 0
    ++ pid 1 12 0
    ++ tick 1000
    ++ exit (Code 0) 2000)
    ≡ Took Stopped Starting ∷ Had Spawn
    ∷ Took Starting Running
    ∷ Took Running Exited ∷ []

-- without retries one refused spawn is FATAL
abbrev pub FatalWithoutRetries : Spec → Type 0
FatalWithoutRetries spec =
    told (program spec 1 0 Unexpected 10)
    (tick 0
    ++ refused (codes "no room") 0
    ++ tick 0)
    ≡ Took Stopped Starting ∷ Had Spawn
    ∷ Took Starting Backoff
    ∷ Took Backoff Fatal ∷ []

-- the waits grow by a second each, and after three retries it is FATAL
abbrev pub ThreeRetriesThenFatal : Spec → Type 0
ThreeRetriesThenFatal spec =
    told (program spec 1 3 Unexpected 10)
    (tick 0 ++ pid 1 1 0 ++ exit (Code 1) 500
    ++ tick 1499
    ++ tick 1500 ++ pid 2 2 1500 ++ exit (Code 1) 1600
    ++ tick 3599
    ++ tick 3600 ++ pid 3 3 3600 ++ exit (Code 1) 3700
    ++ tick 6700 ++ pid 4 4 6700 ++ exit (Code 1) 6800)
    ≡ Took Stopped Starting ∷ Had Spawn ∷ Took Starting Backoff
    ∷ Took Backoff Starting ∷ Had Spawn ∷ Took Starting Backoff
    ∷ Took Backoff Starting ∷ Had Spawn ∷ Took Starting Backoff
    ∷ Took Backoff Starting ∷ Had Spawn ∷ Took Starting Backoff
    ∷ Took Backoff Fatal ∷ []

-- with startsecs 0 an exit at once is one of a child that was up
abbrev pub UpAtOnce : Spec → Type 0
UpAtOnce spec =
    told (program spec 0 3 Unexpected 10)
    (tick 0
    ++ pid 1 7 0
    ++ exit (Code 0) 0)
    ≡ Took Stopped Starting ∷ Had Spawn
    ∷ Took Starting Running
    ∷ Took Running Exited ∷ []

-- the clock goes back by an hour: the deadline goes back too
abbrev pub ClockGoesBack : Spec → Type 0
ClockGoesBack spec =
    told (program spec 1 3 Unexpected 10)
    (tick 3600000
    ++ pid 1 7 3600000
    ++ exit (Code 0) 500)
    ≡ Took Stopped Starting ∷ Had Spawn
    ∷ Took Starting Backoff ∷ []

-- a stop while it waits for the next try needs no kill
abbrev pub StopInBackoff : Spec → Type 0
StopInBackoff spec =
    told (program spec 1 3 Unexpected 10)
    (tick 0
    ++ pid 1 7 0
    ++ exit (Code 1) 500
    ++ stop 600)
    ≡ Took Stopped Starting ∷ Had Spawn
    ∷ Took Starting Backoff
    ∷ Took Backoff Stopped ∷ []

-- it doesn't heed TERM: KILL follows after two seconds, and again after two more
abbrev pub KillAtEachDeadline : Spec → Type 0
KillAtEachDeadline spec =
    told (program spec 1 3 Never 2)
    (tick 0
    ++ pid 1 9 0
    ++ tick 1000
    ++ stop 1500
    ++ tick 3499
    ++ tick 3500
    ++ tick 5500
    ++ exit (Signal 9) 5600)
    ≡ Took Stopped Starting ∷ Had Spawn
    ∷ Took Starting Running
    ∷ Took Running Stopping ∷ Had (Kill signal_is.Term spec.stopasgroup)
    ∷ Had (Kill signal_is.Kill spec.killasgroup)
    ∷ Had (Kill signal_is.Kill spec.killasgroup)
    ∷ Took Stopping Stopped ∷ []
