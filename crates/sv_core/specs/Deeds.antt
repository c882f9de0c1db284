-- The deeds of a list of inputs: the joined orders of the machine. An input that isn't accepted
-- gives no orders and changes nothing.
use Rattle.std.specs.Prelude.{List, [], ◌∷◌, ◌++◌, if◌then◌else◌}
use Rattle.sv_core.specs.MachineState.{Model, accepts, next, orders}
use Rattle.sv_out.specs.declared.input.Input.{Input}
use Rattle.sv_out.specs.declared.order.Order.{Order}

-- the state after the inputs
abbrev pub after : Model → List Input → Model
after m [] = m
after m (i ∷ is) = if accepts m i then after (next m i) is else after m is

-- the orders of the inputs, in order
abbrev pub deeds : Model → List Input → List Order
deeds m [] = []
deeds m (i ∷ is) = if accepts m i then orders m i ++ deeds (next m i) is else deeds m is
