-- A world in memory: its script, the calls that are to fail, and what became of them.
use Rattle.std.specs.Prelude.{◌&&◌, ℕ, List, Bool, Option, Some, drop, take, length, nat_lt}
use Rattle.std.specs.Prelude.{if◌then◌else◌}
use Rattle.sv_out.specs.Faults.{counted}
use Rattle.sv_out.specs.Plans.{CallPlan}
use Rattle.sv_out.specs.declared.input.Input.{Input}
use Rattle.sv_out.specs.declared.order.Order.{Order}
use Rattle.sv_outside.specs.Worlds.{tell_failure}
use Rattle.sv_outside.specs.declared.script_world.ScriptWorld.{ScriptWorld}

-- the inputs that were given
abbrev pub inputs_given : ScriptWorld → List Input
inputs_given world = take world.at world.script.items

-- the inputs that are left
abbrev pub inputs_left : ScriptWorld → List Input
inputs_left world = drop world.at world.script.items

-- the orders that were handed over
abbrev pub orders_handed : ScriptWorld → List Order
orders_handed world = world.orders.items

-- the orders handed over of which the rest of the script tells that they failed
abbrev pub to_fail : ScriptWorld → ℕ → Bool
to_fail world n = nat_lt n (length (orders_handed world)) && tell_failure n (inputs_left world)

-- the count of faults after the next order was handed over
abbrev pub faults_after : ScriptWorld → ℕ
faults_after world =
    if tell_failure (length (orders_handed world)) (inputs_left world) then counted world.faults
    else world.faults

-- which calls for an input are to fail, and how many were made
abbrev pub world_plan : ScriptWorld → CallPlan
world_plan world =
    record { failing = world.failing.items; calls = world.calls; faults = world.breaks }

-- as the trait tells them
abbrev pub told_given : ScriptWorld → Option (List Input)
told_given world = Some (inputs_given world)

-- and those that are left
abbrev pub told_left : ScriptWorld → Option (List Input)
told_left world = Some (inputs_left world)

-- and the orders
abbrev pub told_handed : ScriptWorld → Option (List Order)
told_handed world = Some (orders_handed world)

-- how many orders were handed over
abbrev pub orders_so_far : ScriptWorld → ℕ
orders_so_far world = length (orders_handed world)

-- how many of them could not be carried out
abbrev pub world_faults : ScriptWorld → ℕ
world_faults world = world.faults

-- how many calls for an input failed
abbrev pub world_breaks : ScriptWorld → ℕ
world_breaks world = world.breaks
