-- The end of the daemon (the manual's chapter on running supervisord, its signals): a signal begins
-- it, the groups are stopped one after the other, and when all are at rest the daemon halts.
use Rattle.std.specs.Prelude.{ℕ, zero, suc, [], ◌∷◌, ◌++◌, Bool, true, false, ◌||◌, if◌then◌else◌}
use Rattle.sv_base.specs.declared.kind.Kind.TheVariants.{SupervisorStateChangeStopping}
use Rattle.sv_base.specs.declared.signal.Signal.{Signal}
use Rattle.sv_base.specs.declared.signal.Signal.TheVariants.{Term, Int, Quit}
use Rattle.sv_base.specs.declared.state.Mood.{Mood}
use Rattle.sv_base.specs.declared.state.Mood.TheVariants as mood_is
use Rattle.sv_child.specs.Moves.{is_running}
use Rattle.sv_children.specs.Spans.{are_at_rest}
use Rattle.sv_core.specs.Events.{offers_change}
use Rattle.sv_core.specs.Openings.{closes_links}
use Rattle.sv_core.specs.Stops.{stops_all}
use Rattle.sv_core.specs.World.{World}
use Rattle.sv_groups.specs.StartOrder.{span_of}
use Rattle.sv_out.specs.declared.order.Order.TheVariants as order

-- these signals end the daemon; no other changes anything
abbrev pub is_ending : Signal → Bool
is_ending Term = true
is_ending Int = true
is_ending Quit = true
is_ending signal = false

-- the daemon is in this mood
abbrev pub in_mood : Mood → World → World
in_mood mood w = record w { course = record w.course { mood = mood } }

-- the shutdown begins, unless it has: the daemon says that it is about to stop
abbrev pub begins_shutdown : World → World
begins_shutdown w =
    if is_running w.course.mood
    then offers_change SupervisorStateChangeStopping (in_mood mood_is.Shutdown w) else w

-- such a signal begins the shutdown
abbrev pub heeds : Signal → World → World
heeds signal w = if is_ending signal then begins_shutdown w else w

-- no child of the group at this place has a process or gets one by itself
abbrev pub has_come_to_rest : ℕ → World → Bool
has_come_to_rest group w = are_at_rest (span_of group w.children.roster) w.children.all

-- a group that isn't at rest is told to stop, once
abbrev pub tells_group : ℕ → World → World
tells_group group w =
    if w.course.is_told || has_come_to_rest group w then w
    else stops_all (span_of group w.children.roster)
    (record w { course = record w.course { is_told = true } })

-- a group that is at rest is done with
abbrev pub drops_group : ℕ → World → World
drops_group left w = record w { course = record w.course { left = left; is_told = false } }

-- so many groups of the start order are left to be stopped: the last is told; when it is at rest,
-- the one before
abbrev pub moves_on : ℕ → World → World
moves_on zero w = w
moves_on (suc left) w =
    let told = tells_group left w in
    if has_come_to_rest left told then moves_on left (drops_group left told) else told

-- the stop plan
abbrev pub follows_plan : World → World
follows_plan w = if is_running w.course.mood then w else moves_on w.course.left w

-- no group is left: the links that are open get Close, and the daemon halts
abbrev pub halts_after : ℕ → World → World
halts_after zero w =
    let closed = closes_links w in
    record closed
    { course = record closed.course { halted = true }; given = closed.given ++ order.Halt ∷ [] }
halts_after (suc left) w = w

-- step 8: only while the daemon ends
abbrev pub halts : World → World
halts w = if is_running w.course.mood then w else halts_after w.course.left w
