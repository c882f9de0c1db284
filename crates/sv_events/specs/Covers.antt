-- Which events a pool is told of (the manual's chapter on events): an event type covers itself and
-- those below it.
use Rattle.std.specs.Prelude.{◌≡◌, Option, Some, None}
use Rattle.sv_base.specs.declared.kind.Kind.{Kind}
use Rattle.sv_base.specs.declared.kind.Kind.TheVariants.{Event, ProcessState, ProcessStateStarting}
use Rattle.sv_base.specs.declared.kind.Kind.TheVariants.{ProcessStateRunning, ProcessStateBackoff}
use Rattle.sv_base.specs.declared.kind.Kind.TheVariants.{ProcessStateStopping, ProcessStateExited}
use Rattle.sv_base.specs.declared.kind.Kind.TheVariants.{ProcessStateStopped, ProcessStateFatal}
use Rattle.sv_base.specs.declared.kind.Kind.TheVariants.{ProcessStateUnknown, ProcessCommunication}
use Rattle.sv_base.specs.declared.kind.Kind.TheVariants.{ProcessCommunicationStdout}
use Rattle.sv_base.specs.declared.kind.Kind.TheVariants.{ProcessCommunicationStderr, ProcessLog}
use Rattle.sv_base.specs.declared.kind.Kind.TheVariants.{ProcessLogStdout, ProcessLogStderr}
use Rattle.sv_base.specs.declared.kind.Kind.TheVariants.{RemoteCommunication, SupervisorStateChange}
use Rattle.sv_base.specs.declared.kind.Kind.TheVariants.{SupervisorStateChangeRunning}
use Rattle.sv_base.specs.declared.kind.Kind.TheVariants.{SupervisorStateChangeStopping, Tick, Tick5}
use Rattle.sv_base.specs.declared.kind.Kind.TheVariants.{Tick60, Tick3600, ProcessGroup}
use Rattle.sv_base.specs.declared.kind.Kind.TheVariants.{ProcessGroupAdded, ProcessGroupRemoved}

-- the event type right above an event type
abbrev pub parent_of : Kind → Option Kind
parent_of Event = None
parent_of ProcessState = Some Event
parent_of ProcessStateStarting = Some ProcessState
parent_of ProcessStateRunning = Some ProcessState
parent_of ProcessStateBackoff = Some ProcessState
parent_of ProcessStateStopping = Some ProcessState
parent_of ProcessStateExited = Some ProcessState
parent_of ProcessStateStopped = Some ProcessState
parent_of ProcessStateFatal = Some ProcessState
parent_of ProcessStateUnknown = Some ProcessState
parent_of ProcessCommunication = Some Event
parent_of ProcessCommunicationStdout = Some ProcessCommunication
parent_of ProcessCommunicationStderr = Some ProcessCommunication
parent_of ProcessLog = Some Event
parent_of ProcessLogStdout = Some ProcessLog
parent_of ProcessLogStderr = Some ProcessLog
parent_of RemoteCommunication = Some Event
parent_of SupervisorStateChange = Some Event
parent_of SupervisorStateChangeRunning = Some SupervisorStateChange
parent_of SupervisorStateChangeStopping = Some SupervisorStateChange
parent_of Tick = Some Event
parent_of Tick5 = Some Tick
parent_of Tick60 = Some Tick
parent_of Tick3600 = Some Tick
parent_of ProcessGroup = Some Event
parent_of ProcessGroupAdded = Some ProcessGroup
parent_of ProcessGroupRemoved = Some ProcessGroup

-- the first covers the second: itself, and what is covered by one that it stands right above
pub data Covers : Kind → Kind → Type 0 where
  itself : (kind : Kind) → Covers kind kind
  above : (upper middle lower : Kind) → parent_of middle ≡ Some upper → Covers middle lower
      → Covers upper lower
