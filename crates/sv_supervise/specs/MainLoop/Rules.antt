-- What a machine is to the daemon's loop: which inputs each of its states accepts, what comes next,
-- and which orders it gives.
use Rattle.std.specs.Prelude.{List, [], ◌∷◌, ◌++◌, Bool, if◌then◌else◌}
use Rattle.sv_out.specs.declared.input.Input.{Input}
use Rattle.sv_out.specs.declared.order.Order.{Order}

-- an input is accepted; the state after an accepted input, and the orders that it gives; and the
-- halt was given
pub record Rules (M : Type 0) : Type 0 where
  pub accepts : M → Input → Bool
  pub next : M → Input → M
  pub orders : M → Input → List Order
  pub halted : M → Bool

-- the state after the inputs; one that isn't accepted changes nothing
abbrev pub after : {M : Type 0} → Rules M → M → List Input → M
after R m [] = m
after R m (i ∷ is) = if R.accepts m i then after R (R.next m i) is else after R m is

-- the orders of the inputs, in order; one that isn't accepted gives none
abbrev pub deeds : {M : Type 0} → Rules M → M → List Input → List Order
deeds R m [] = []
deeds R m (i ∷ is) = if R.accepts m i then R.orders m i ++ deeds R (R.next m i) is else deeds R m is
