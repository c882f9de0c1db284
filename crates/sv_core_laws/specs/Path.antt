-- What the orders report of each child is a path of the diagram of states.
use Rattle.std.specs.Prelude.{◌≡◌, ℕ, List, Some, slice_get}
use Rattle.sv_base.specs.declared.config.Config.{Config}
use Rattle.sv_base.specs.declared.spec.GroupSpec.{GroupSpec}
use Rattle.sv_base.specs.declared.spec.Spec.{Spec}
use Rattle.sv_base.specs.declared.state.State.TheVariants.{Stopped}
use Rattle.sv_child.specs.Diagram.{IsWalk}
use Rattle.sv_children.specs.Reported.{edges_told, state_at}
use Rattle.sv_core.specs.MachineState.{Model, now}
use Rattle.sv_groups.specs.StartOrder.{pairs_of}
use Rattle.sv_out.specs.declared.order.Order.{Order}

-- for each child of the configuration, from STOPPED to the state in which it is
abbrev pub ChildrenWalk : Config → Model → List Order → Type 0
ChildrenWalk config m given = (place : ℕ) (group : GroupSpec) (spec : Spec)
    → slice_get (pairs_of config.groups) place ≡ Some (group, spec)
    → IsWalk Stopped (edges_told group.name spec.name given) (state_at (now m).children place)
