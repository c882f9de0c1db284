-- Step 7 of a turn, the pools hand out: each listener that is READY and whose process is RUNNING
-- gets the event that waits first in its pool, in start order (the manual's chapter on events,
-- "Event Listener Notification Protocol").
use Rattle.std.specs.Prelude.{ℕ, zero, suc, ◌++◌, Option, Some, None, Bool, true, false, ◌+◌, ◌-◌}
use Rattle.std.specs.Prelude.{length, slice_get, if◌then◌else◌}
use Rattle.sv_base.specs.declared.ids.Run.{Run}
use Rattle.sv_base.specs.declared.state.State.{State}
use Rattle.sv_base.specs.declared.state.State.TheVariants.{Running}
use Rattle.sv_child.specs.declared.child.Child.{Child}
use Rattle.sv_core.specs.Listening.{id_of}
use Rattle.sv_core.specs.World.{World}
use Rattle.sv_pool.specs.Listeners.{hand_orders, handed, is_handed}
use Rattle.sv_runs.specs.RunBook.{RunBook, is_ready, sent}

-- the process is up
abbrev pub is_up : State → Bool
is_up Running = true
is_up state = false

-- the run, where its listener is READY
abbrev pub ready_one : Option Run → RunBook → Option Run
ready_one None runs = None
ready_one (Some run) runs = if is_ready run runs then Some run else None

-- the run of a child that may get an event
abbrev pub ready_of : Option Child → RunBook → Option Run
ready_of None runs = None
ready_of (Some child) runs = if is_up child.state then ready_one child.run runs else None

-- the event that waits first is sent to this run of the listener of a place, if one waits
abbrev pub sends : Run → ℕ → World → World
sends run c w = record w {
  pools = handed (id_of c) w.pools;
  runs = if is_handed (id_of c) w.pools then sent run w.runs else w.runs;
  given = w.given ++ hand_orders w.config.identifier run (id_of c) w.pools;
}

-- if the listener is ready
abbrev pub sends_to : Option Run → ℕ → World → World
sends_to None c w = w
sends_to (Some run) c w = sends run c w

-- to the listener of a place
abbrev pub hands_to : ℕ → World → World
hands_to c w = sends_to (ready_of (slice_get w.children.all c) w.runs) c w

-- to so many from this place on
abbrev pub hands_from : ℕ → ℕ → World → World
hands_from zero c w = w
hands_from (suc left) c w = hands_from left (c + 1) (hands_to c w)

-- to all
abbrev pub hands_out : World → World
hands_out w = hands_from (length w.children.all - 0) 0 w
