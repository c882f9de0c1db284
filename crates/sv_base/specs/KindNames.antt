-- The names of the event types (the manual's chapter on events), as a configuration and an event's
-- head write them.
use Rattle.std.specs.Prelude.{List, [], ◌∷◌, ℕ, codes}
use Rattle.sv_base.specs.declared.kind.Kind.{Kind}
use Rattle.sv_base.specs.declared.kind.Kind.TheVariants.{Event, ProcessState, ProcessStateStarting}
use Rattle.sv_base.specs.declared.kind.Kind.TheVariants.{ProcessStateRunning, ProcessStateBackoff}
use Rattle.sv_base.specs.declared.kind.Kind.TheVariants.{ProcessStateStopping, ProcessStateExited}
use Rattle.sv_base.specs.declared.kind.Kind.TheVariants.{ProcessStateStopped, ProcessStateFatal}
use Rattle.sv_base.specs.declared.kind.Kind.TheVariants.{ProcessStateUnknown, ProcessCommunication}
use Rattle.sv_base.specs.declared.kind.Kind.TheVariants.{ProcessCommunicationStdout}
use Rattle.sv_base.specs.declared.kind.Kind.TheVariants.{ProcessCommunicationStderr, ProcessLog}
use Rattle.sv_base.specs.declared.kind.Kind.TheVariants.{ProcessLogStdout, ProcessLogStderr}
use Rattle.sv_base.specs.declared.kind.Kind.TheVariants.{RemoteCommunication, SupervisorStateChange}
use Rattle.sv_base.specs.declared.kind.Kind.TheVariants.{SupervisorStateChangeRunning}
use Rattle.sv_base.specs.declared.kind.Kind.TheVariants.{SupervisorStateChangeStopping, Tick, Tick5}
use Rattle.sv_base.specs.declared.kind.Kind.TheVariants.{Tick60, Tick3600, ProcessGroup}
use Rattle.sv_base.specs.declared.kind.Kind.TheVariants.{ProcessGroupAdded, ProcessGroupRemoved}

-- the name of an event type
abbrev pub kind_name : Kind → List ℕ
kind_name Event = codes "EVENT"
kind_name ProcessState = codes "PROCESS_STATE"
kind_name ProcessStateStarting = codes "PROCESS_STATE_STARTING"
kind_name ProcessStateRunning = codes "PROCESS_STATE_RUNNING"
kind_name ProcessStateBackoff = codes "PROCESS_STATE_BACKOFF"
kind_name ProcessStateStopping = codes "PROCESS_STATE_STOPPING"
kind_name ProcessStateExited = codes "PROCESS_STATE_EXITED"
kind_name ProcessStateStopped = codes "PROCESS_STATE_STOPPED"
kind_name ProcessStateFatal = codes "PROCESS_STATE_FATAL"
kind_name ProcessStateUnknown = codes "PROCESS_STATE_UNKNOWN"
kind_name ProcessCommunication = codes "PROCESS_COMMUNICATION"
kind_name ProcessCommunicationStdout = codes "PROCESS_COMMUNICATION_STDOUT"
kind_name ProcessCommunicationStderr = codes "PROCESS_COMMUNICATION_STDERR"
kind_name ProcessLog = codes "PROCESS_LOG"
kind_name ProcessLogStdout = codes "PROCESS_LOG_STDOUT"
kind_name ProcessLogStderr = codes "PROCESS_LOG_STDERR"
kind_name RemoteCommunication = codes "REMOTE_COMMUNICATION"
kind_name SupervisorStateChange = codes "SUPERVISOR_STATE_CHANGE"
kind_name SupervisorStateChangeRunning = codes "SUPERVISOR_STATE_CHANGE_RUNNING"
kind_name SupervisorStateChangeStopping = codes "SUPERVISOR_STATE_CHANGE_STOPPING"
kind_name Tick = codes "TICK"
kind_name Tick5 = codes "TICK_5"
kind_name Tick60 = codes "TICK_60"
kind_name Tick3600 = codes "TICK_3600"
kind_name ProcessGroup = codes "PROCESS_GROUP"
kind_name ProcessGroupAdded = codes "PROCESS_GROUP_ADDED"
kind_name ProcessGroupRemoved = codes "PROCESS_GROUP_REMOVED"

-- the event types, in the order of the type
abbrev pub all_kinds : List Kind
all_kinds =
    Event ∷ ProcessState ∷ ProcessStateStarting ∷ ProcessStateRunning ∷ ProcessStateBackoff
    ∷ ProcessStateStopping
    ∷ ProcessStateExited ∷ ProcessStateStopped ∷ ProcessStateFatal ∷ ProcessStateUnknown
    ∷ ProcessCommunication
    ∷ ProcessCommunicationStdout ∷ ProcessCommunicationStderr ∷ ProcessLog ∷ ProcessLogStdout
    ∷ ProcessLogStderr
    ∷ RemoteCommunication ∷ SupervisorStateChange ∷ SupervisorStateChangeRunning
    ∷ SupervisorStateChangeStopping
    ∷ Tick ∷ Tick5 ∷ Tick60 ∷ Tick3600 ∷ ProcessGroup ∷ ProcessGroupAdded ∷ ProcessGroupRemoved ∷ []
