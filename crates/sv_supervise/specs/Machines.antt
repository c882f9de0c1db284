-- The daemon's machine, as the loop takes it.
use Rattle.std.specs.Prelude.{Bool}
use Rattle.sv_core.specs.MachineState.{Model, accepts, next, now, orders}
use Rattle.sv_core.specs.StandsFor.{StandsFor, is_fitting}
use Rattle.sv_supervise.specs.MainLoop.Rules.{Rules}
use Rattle.sv_out.specs.declared.input.Input.{Input}
use Rattle.sv_supervise.specs.declared.engine.Core.{Core}

-- which inputs are accepted, what comes next, which orders are given, and whether the halt was
abbrev pub core_rules : Rules Model
core_rules =
    record { accepts = accepts; next = next; orders = orders; halted = λ m. (now m).course.halted }

-- it stands for what its machine stands for
abbrev pub stands_for : Core → Model → Type 0
stands_for core m = StandsFor core.machine m

-- an input may be taken now
abbrev pub fits_core : Core → Input → Bool
fits_core core input = is_fitting core.machine input
