-- The events of a child's edges (the manual's chapter on events, "PROCESS_STATE Event Type" and
-- those below it).
use Rattle.std.specs.Prelude.{ℕ, Option, Some, None, Bool, not, slice_get}
use Rattle.sv_base.specs.declared.kind.Kind.{Kind}
use Rattle.sv_base.specs.declared.kind.Kind.TheVariants.{ProcessStateStarting, ProcessStateRunning}
use Rattle.sv_base.specs.declared.kind.Kind.TheVariants.{ProcessStateBackoff, ProcessStateStopping}
use Rattle.sv_base.specs.declared.kind.Kind.TheVariants.{ProcessStateExited, ProcessStateStopped}
use Rattle.sv_base.specs.declared.kind.Kind.TheVariants.{ProcessStateFatal, ProcessStateUnknown}
use Rattle.sv_base.specs.declared.spec.Spec.{Spec}
use Rattle.sv_base.specs.declared.state.Autorestart.TheVariants.{Unexpected}
use Rattle.sv_base.specs.declared.state.State.{State}
use Rattle.sv_base.specs.declared.state.State.TheVariants.{Stopped, Starting, Running, Backoff}
use Rattle.sv_base.specs.declared.state.State.TheVariants.{Stopping, Exited, Fatal, Unknown}
use Rattle.sv_child.specs.Moves.{restarts_by}
use Rattle.sv_child.specs.declared.child.Child.{Child}
use Rattle.sv_child.specs.declared.step.Edge.{Edge}
use Rattle.sv_children.specs.Crew.{Crew, Member, member_at}
use Rattle.sv_events.specs.declared.fact.Fact.{Fact}
use Rattle.sv_events.specs.declared.fact.Fact.TheVariants.{Trying, Living, Ended, GaveUp}

-- the type of the event of entering a state
abbrev pub kind_of : State → Kind
kind_of Stopped = ProcessStateStopped
kind_of Starting = ProcessStateStarting
kind_of Running = ProcessStateRunning
kind_of Backoff = ProcessStateBackoff
kind_of Stopping = ProcessStateStopping
kind_of Exited = ProcessStateExited
kind_of Fatal = ProcessStateFatal
kind_of Unknown = ProcessStateUnknown

-- its last exit was expected: it is none for which a program that is started again after unexpected
-- ones is started
abbrev pub is_expected : Spec → Child → Bool
is_expected spec child = not (restarts_by Unexpected spec.exitcodes child.exit)

-- what the event of entering this state tells: of a process that had this number, of a child as it
-- is after its step
abbrev pub entry_fact : State → ℕ → Member → State → Fact
entry_fact Stopped pid m from = Living m.spec.name m.group.name from pid
entry_fact Starting pid m from = Trying m.spec.name m.group.name from m.child.tries
entry_fact Running pid m from = Living m.spec.name m.group.name from pid
entry_fact Backoff pid m from = Trying m.spec.name m.group.name from m.child.tries
entry_fact Stopping pid m from = Living m.spec.name m.group.name from pid
entry_fact Exited pid m from = Ended m.spec.name m.group.name from (is_expected m.spec m.child) pid
entry_fact Fatal pid m from = GaveUp m.spec.name m.group.name from
entry_fact Unknown pid m from = GaveUp m.spec.name m.group.name from

-- what the event of an edge tells
abbrev pub fact_of : ℕ → Member → Edge → Fact
fact_of pid m edge = entry_fact edge.to pid m edge.from

-- of a child that may not be there
abbrev pub fact_of_one : ℕ → Option Member → Edge → Option Fact
fact_of_one pid None edge = None
fact_of_one pid (Some m) edge = Some (fact_of pid m edge)

-- what the event of an edge tells of the child of a place, whose process had this number before its
-- step
abbrev pub fact_at : Crew → ℕ → ℕ → Edge → Option Fact
fact_at crew place pid edge = fact_of_one pid (member_at crew place) edge

-- the number of a child's process
abbrev pub pid_of : Option Child → ℕ
pid_of None = 0
pid_of (Some child) = child.pid

-- the number of the process of the child of a place; 0 where it has none, or no child is there
abbrev pub pid_at : Crew → ℕ → ℕ
pid_at crew place = pid_of (slice_get crew.all place)
