-- Journals of one program that were worked out by hand, one line for each input, and what the
-- daemon then does. Moments are in milliseconds; startsecs, startretries, autorestart and
-- stopwaitsecs stand after `program spec`.
use Rattle.std.specs.Prelude.{◌≡◌, ℕ, List, [], ◌∷◌, None, true, codes, length}
use Rattle.sv_base.specs.declared.config.Config.{Config}
use Rattle.sv_base.specs.declared.config.Host.{Host}
use Rattle.sv_base.specs.declared.ids.Run.{Run}
use Rattle.sv_base.specs.declared.signal.Signal.TheVariants as signal_is
use Rattle.sv_base.specs.declared.spec.GroupSpec.{GroupSpec}
use Rattle.sv_base.specs.declared.spec.Spec.{Spec}
use Rattle.sv_base.specs.declared.state.Autorestart.{Autorestart}
use Rattle.sv_base.specs.declared.state.Autorestart.TheVariants.{Never, Unexpected}
use Rattle.sv_base.specs.declared.state.How.TheVariants.{Code, Signal}
use Rattle.sv_base.specs.declared.state.Level.TheVariants.{Critical}
use Rattle.sv_base.specs.declared.state.State.{State}
use Rattle.sv_base.specs.declared.state.State.TheVariants.{Stopped, Starting, Running, Backoff}
use Rattle.sv_base.specs.declared.state.State.TheVariants.{Stopping, Exited, Fatal}
use Rattle.sv_child.specs.Examples.{program}
use Rattle.sv_children.specs.Orders.{spawn}
use Rattle.sv_core.specs.Deeds.{deeds}
use Rattle.sv_core.specs.MachineState.{Model, opening, resting}
use Rattle.sv_out.specs.declared.input.Input.{Input}
use Rattle.sv_out.specs.declared.input.Input.TheVariants.{Tick, Exit, Stop, Signal as Told, Pid}
use Rattle.sv_out.specs.declared.input.Input.TheVariants.{Failed}
use Rattle.sv_out.specs.declared.order.Order.{Order}
use Rattle.sv_out.specs.declared.order.Order.TheVariants as order

-- what the rest of the configuration, of the group, of the program, of the sizes and of the host is
-- doesn't matter
pub record Rest : Type 0 where
  pub config : Config
  pub group : GroupSpec
  pub spec : Spec
  pub sizes : List (List ℕ × ℕ)
  pub host : Host

-- the program x, alone in its group
abbrev pub x_of : Rest → ℕ → ℕ → Autorestart → ℕ → Spec
x_of rest startsecs startretries autorestart stopwaitsecs =
    record (program rest.spec startsecs startretries autorestart stopwaitsecs)
    { group = codes "x"; name = codes "x" }

-- these groups alone, and no line of the main log is written
abbrev pub only : Rest → List GroupSpec → Config
only rest groups = record rest.config { level = Critical; groups = groups }

-- the configuration of this program alone
abbrev pub alone : Rest → Spec → Config
alone rest spec =
    only rest (record rest.group { name = codes "x"; members = spec ∷ []; pool = None } ∷ [])

-- the daemon starts at moment 0
abbrev pub host_of : Rest → Host
host_of rest = record rest.host { start = 0 }

-- what it does for x and these inputs
abbrev pub done : Rest → Spec → List Input → List Order
done rest spec inputs = deeds (opening (alone rest spec) rest.sizes (host_of rest)) inputs

-- the run of this number
abbrev pub run : ℕ → Run
run number = record { 0 = number }

-- x goes an edge
abbrev pub took : State → State → Order
took from to = order.State (codes "x") (codes "x") from to

-- it stays up for its second, and then exits
abbrev pub StartsStaysUpAndExits : Rest → Type 0
StartsStaysUpAndExits rest =
    let x = x_of rest 1 3 Unexpected 10 in
    done rest x
    (Tick 0
    ∷ Pid 12
    ∷ Tick 1000
    ∷ Exit 2000 (run 1) (Code 0) ∷ [])
    ≡ took Stopped Starting ∷ order.Spawn (spawn x.group x 1)
    ∷ took Starting Running
    ∷ took Running Exited ∷ []

-- the waits grow by a second each, and after three retries it is FATAL
abbrev pub ThreeRetriesThenFatal : Rest → Type 0
ThreeRetriesThenFatal rest =
    let x = x_of rest 1 3 Unexpected 10 in
    done rest x
    (Tick 0 ∷ Pid 1 ∷ Exit 500 (run 1) (Code 1)
    ∷ Tick 1499
    ∷ Tick 1500 ∷ Pid 2 ∷ Exit 1600 (run 2) (Code 1)
    ∷ Tick 3599
    ∷ Tick 3600 ∷ Pid 3 ∷ Exit 3700 (run 3) (Code 1)
    ∷ Tick 6700 ∷ Pid 4 ∷ Exit 6800 (run 4) (Code 1) ∷ [])
    ≡ took Stopped Starting ∷ order.Spawn (spawn x.group x 1) ∷ took Starting Backoff
    ∷ took Backoff Starting ∷ order.Spawn (spawn x.group x 2) ∷ took Starting Backoff
    ∷ took Backoff Starting ∷ order.Spawn (spawn x.group x 3) ∷ took Starting Backoff
    ∷ took Backoff Starting ∷ order.Spawn (spawn x.group x 4) ∷ took Starting Backoff
    ∷ took Backoff Fatal ∷ []

-- with startsecs 0 an exit at once is one of a child that was up
abbrev pub UpAtOnce : Rest → Type 0
UpAtOnce rest =
    let x = x_of rest 0 3 Unexpected 10 in
    done rest x
    (Tick 0
    ∷ Pid 7
    ∷ Exit 0 (run 1) (Code 0) ∷ [])
    ≡ took Stopped Starting ∷ order.Spawn (spawn x.group x 1)
    ∷ took Starting Running
    ∷ took Running Exited ∷ []

-- the clock goes back by an hour: the deadline goes back too
abbrev pub ClockGoesBack : Rest → Type 0
ClockGoesBack rest =
    let x = x_of rest 1 3 Unexpected 10 in
    done rest x
    (Tick 3600000
    ∷ Pid 7
    ∷ Exit 500 (run 1) (Code 0) ∷ [])
    ≡ took Stopped Starting ∷ order.Spawn (spawn x.group x 1)
    ∷ took Starting Backoff ∷ []

-- it doesn't heed TERM: KILL follows after two seconds, and again after two more
abbrev pub KillAtEachDeadline : Rest → Type 0
KillAtEachDeadline rest =
    let x = x_of rest 1 3 Never 2 in
    done rest x
    (Tick 0
    ∷ Pid 9
    ∷ Tick 1000
    ∷ Stop 1500 (codes "x")
    ∷ Tick 3499
    ∷ Tick 3500
    ∷ Tick 5500
    ∷ Exit 5600 (run 1) (Signal 9) ∷ [])
    ≡ took Stopped Starting ∷ order.Spawn (spawn x.group x 1)
    ∷ took Starting Running
    ∷ took Running Stopping ∷ order.Kill (run 1) signal_is.Term x.stopasgroup
    ∷ order.Kill (run 1) signal_is.Kill x.killasgroup
    ∷ order.Kill (run 1) signal_is.Kill x.killasgroup
    ∷ took Stopping Stopped ∷ []

-- the spawn, which is order 1, can't be carried out
abbrev pub SpawnThatFails : Rest → Type 0
SpawnThatFails rest =
    let x = x_of rest 1 3 Unexpected 10 in
    done rest x
    (Tick 0
    ∷ Failed 1 ∷ [])
    ≡ took Stopped Starting ∷ order.Spawn (spawn x.group x 1)
    ∷ took Starting Backoff ∷ []

-- a program that is alone in its group
abbrev pub lone : Rest → List ℕ → Spec
lone rest name = record (program rest.spec 1 3 Unexpected 10) { group = name; name = name }

-- a process goes an edge
abbrev pub goes : Spec → State → State → Order
goes spec from to = order.State spec.group spec.name from to

-- TERM stops b, the last group; when it is at rest, a; and then the daemon halts
abbrev pub GroupsStopOneByOne : Rest → Type 0
GroupsStopOneByOne rest =
    let a = lone rest (codes "a") in
    let b = lone rest (codes "b") in
    let plain = record rest.group { pool = None } in
    let groups =
    record plain { name = codes "a"; members = a ∷ [] }
    ∷ record plain { name = codes "b"; members = b ∷ [] } ∷ [] in
    deeds (opening (only rest groups) rest.sizes (host_of rest))
    (Tick 0 ∷ Pid 1 ∷ Pid 2
    ∷ Tick 1000
    ∷ Told 5000 signal_is.Term
    ∷ Exit 5100 (run 2) (Code 0)
    ∷ Exit 5200 (run 1) (Signal 15) ∷ [])
    ≡ goes a Stopped Starting ∷ order.Spawn (spawn a.group a 1) ∷ goes b Stopped Starting
    ∷ order.Spawn (spawn b.group b 2)
    ∷ goes a Starting Running ∷ goes b Starting Running
    ∷ goes b Running Stopping ∷ order.Kill (run 2) signal_is.Term b.stopasgroup
    ∷ goes b Stopping Stopped ∷ goes a Running Stopping
    ∷ order.Kill (run 1) signal_is.Term a.stopasgroup
    ∷ goes a Stopping Stopped ∷ order.Halt ∷ []

-- the world in which the daemon begins, but that so many runs were numbered already
abbrev pub numbered : Rest → Spec → ℕ → Model
numbered rest spec next_run =
    let w =
    (opening (alone rest spec) rest.sizes (host_of rest)).base in resting
    (record w { next_run = next_run })

-- all numbers of runs but the last are taken: the last spawn gets it, and each further one fails by
-- itself
abbrev pub NoRunNumberLeft : Rest → Type 0
NoRunNumberLeft rest =
    let x = x_of rest 1 3 Unexpected 10 in
    deeds (numbered rest x 4294967295)
    (Tick 0 ∷ Pid 1 ∷ Exit 500 (run 4294967295) (Code 1)
    ∷ Tick 1500
    ∷ Tick 3500 ∷ [])
    ≡ took Stopped Starting ∷ order.Spawn (spawn x.group x 4294967295) ∷ took Starting Backoff
    ∷ took Backoff Starting ∷ took Starting Backoff
    ∷ took Backoff Starting ∷ took Starting Backoff ∷ []

-- the world in which the daemon begins, but that it said that it runs, and these orders were given
-- already
abbrev pub ordered : Rest → Spec → List Order → Model
ordered rest spec older =
    let w = (opening (alone rest spec) rest.sizes (host_of rest)).base in
    resting (record w { given = older; course = record w.course { announced = true } })

-- one number of orders is left before they begin again: the report has the number
-- 18446744073709551615 and can't fail, and the spawn after it has the number 0; the number 1 isn't
-- given yet
abbrev pub OrderNumbersBeginAgain : Rest → Type 0
OrderNumbersBeginAgain rest = (older : List Order) → length older ≡ 18446744073709551615 →
    let x = x_of rest 1 3 Unexpected 10 in
    deeds (ordered rest x older)
    (Tick 0
    ∷ Failed 18446744073709551615
    ∷ Failed 1
    ∷ Failed 0 ∷ [])
    ≡ took Stopped Starting ∷ order.Spawn (spawn x.group x 1)
    ∷ took Starting Backoff ∷ []
