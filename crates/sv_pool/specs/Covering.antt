-- Which events a pool asks for (the manual's chapter on events), as an answer.
use Rattle.std.specs.Prelude.{ℕ, List, Bool, false, ◌||◌, ◌==◌, Option, Some, None}
use Rattle.std.specs.List.{list_any}
use Rattle.sv_base.specs.declared.kind.Kind.{Kind}
use Rattle.sv_base.specs.declared.kind.Kind.TheVariants.{Event, ProcessState, ProcessStateStarting}
use Rattle.sv_base.specs.declared.kind.Kind.TheVariants.{ProcessStateRunning, ProcessStateBackoff}
use Rattle.sv_base.specs.declared.kind.Kind.TheVariants.{ProcessStateStopping, ProcessStateExited}
use Rattle.sv_base.specs.declared.kind.Kind.TheVariants.{ProcessStateStopped, ProcessStateFatal}
use Rattle.sv_base.specs.declared.kind.Kind.TheVariants.{ProcessStateUnknown, ProcessCommunication}
use Rattle.sv_base.specs.declared.kind.Kind.TheVariants.{ProcessCommunicationStdout}
use Rattle.sv_base.specs.declared.kind.Kind.TheVariants.{ProcessCommunicationStderr, ProcessLog}
use Rattle.sv_base.specs.declared.kind.Kind.TheVariants.{ProcessLogStdout, ProcessLogStderr}
use Rattle.sv_base.specs.declared.kind.Kind.TheVariants.{RemoteCommunication, SupervisorStateChange}
use Rattle.sv_base.specs.declared.kind.Kind.TheVariants.{SupervisorStateChangeRunning}
use Rattle.sv_base.specs.declared.kind.Kind.TheVariants.{SupervisorStateChangeStopping, Tick, Tick5}
use Rattle.sv_base.specs.declared.kind.Kind.TheVariants.{Tick60, Tick3600, ProcessGroup}
use Rattle.sv_base.specs.declared.kind.Kind.TheVariants.{ProcessGroupAdded, ProcessGroupRemoved}
use Rattle.sv_events.specs.Covers.{parent_of}

-- the number of an event type in the manual's list
abbrev pub number_of : Kind → ℕ
number_of Event = 1
number_of ProcessState = 2
number_of ProcessStateStarting = 3
number_of ProcessStateRunning = 4
number_of ProcessStateBackoff = 5
number_of ProcessStateStopping = 6
number_of ProcessStateExited = 7
number_of ProcessStateStopped = 8
number_of ProcessStateFatal = 9
number_of ProcessStateUnknown = 10
number_of ProcessCommunication = 11
number_of ProcessCommunicationStdout = 12
number_of ProcessCommunicationStderr = 13
number_of ProcessLog = 14
number_of ProcessLogStdout = 15
number_of ProcessLogStderr = 16
number_of RemoteCommunication = 17
number_of SupervisorStateChange = 18
number_of SupervisorStateChangeRunning = 19
number_of SupervisorStateChangeStopping = 20
number_of Tick = 21
number_of Tick5 = 22
number_of Tick60 = 23
number_of Tick3600 = 24
number_of ProcessGroup = 25
number_of ProcessGroupAdded = 26
number_of ProcessGroupRemoved = 27

-- two event types are one
abbrev pub is_same : Kind → Kind → Bool
is_same a b = number_of a == number_of b

-- the event type stands right above another, where that one has one above it
abbrev pub is_parent : Kind → Option Kind → Bool
is_parent upper None = false
is_parent upper (Some parent) = is_same upper parent

-- an event type covers itself, EVENT covers all, and the plain name of a family covers the family
abbrev pub covers : Kind → Kind → Bool
covers upper lower =
    is_same upper lower || (is_same upper Event || is_parent upper (parent_of lower))

-- one of these event types covers it
abbrev pub ask_for : List Kind → Kind → Bool
ask_for kinds kind = list_any (λ asked. covers asked kind) kinds
