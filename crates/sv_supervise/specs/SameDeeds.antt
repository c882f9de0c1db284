-- The deeds of the daemon's inputs, and those that the laws of its machine speak of.
use Rattle.std.specs.Prelude.{◌≡◌, List}
use Rattle.sv_core.specs.Deeds as machine
use Rattle.sv_core.specs.MachineState.{Model}
use Rattle.sv_supervise.specs.MainLoop.Rules as daemon
use Rattle.sv_out.specs.declared.input.Input.{Input}
use Rattle.sv_supervise.specs.Machines.{core_rules}

-- these inputs have the same deeds, and lead to the same state
pub record GiveTheSame (m : Model) (inputs : List Input) : Type 0 where
  pub deeds : daemon.deeds core_rules m inputs ≡ machine.deeds m inputs
  pub state : daemon.after core_rules m inputs ≡ machine.after m inputs
