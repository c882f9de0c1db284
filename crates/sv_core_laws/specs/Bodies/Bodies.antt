-- Which events have which body (the manual's chapter on events): the facts that an event of a type
-- may tell.
use Rattle.std.specs.Prelude.{Bool, true, false}
use Rattle.sv_base.specs.declared.kind.Kind.{Kind}
use Rattle.sv_base.specs.declared.kind.Kind.TheVariants as kind
use Rattle.sv_base.specs.declared.state.Stream.TheVariants.{Out, Err}
use Rattle.sv_events.specs.declared.fact.Fact.{Fact}
use Rattle.sv_events.specs.declared.fact.Fact.TheVariants as fact

-- events of this type tell facts of this form; those of a family's own name happen to nobody
abbrev pub tells : Kind → Fact → Bool
tells kind.ProcessStateStarting (fact.Trying name group from tries) = true
tells kind.ProcessStateBackoff (fact.Trying name group from tries) = true
tells kind.ProcessStateRunning (fact.Living name group from pid) = true
tells kind.ProcessStateStopping (fact.Living name group from pid) = true
tells kind.ProcessStateStopped (fact.Living name group from pid) = true
tells kind.ProcessStateExited (fact.Ended name group from expected pid) = true
tells kind.ProcessStateFatal (fact.GaveUp name group from) = true
tells kind.ProcessStateUnknown (fact.GaveUp name group from) = true
tells kind.ProcessCommunicationStdout (fact.Communication name group pid bytes) = true
tells kind.ProcessCommunicationStderr (fact.Communication name group pid bytes) = true
tells kind.ProcessLogStdout (fact.Log name group pid Out bytes) = true
tells kind.ProcessLogStderr (fact.Log name group pid Err bytes) = true
tells kind.RemoteCommunication (fact.Remote sort bytes) = true
tells kind.SupervisorStateChangeRunning fact.Supervisor = true
tells kind.SupervisorStateChangeStopping fact.Supervisor = true
tells kind.Tick5 (fact.Tick when) = true
tells kind.Tick60 (fact.Tick when) = true
tells kind.Tick3600 (fact.Tick when) = true
tells kind.ProcessGroupAdded (fact.GroupChange group) = true
tells kind.ProcessGroupRemoved (fact.GroupChange group) = true
tells kind fact = false
