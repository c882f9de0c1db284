-- What a daemon's journal holds after its header: what it tells of each input, and after that what
-- it tells of its orders.
use Rattle.std.specs.Prelude.{ℕ, List, [], ◌∷◌, ◌++◌, if◌then◌else◌}
use Rattle.std.specs.List.{flat_map}
use Rattle.sv_out.specs.declared.input.Input.{Input}
use Rattle.sv_out.specs.declared.order.Order.{Order}
use Rattle.sv_supervise.specs.MainLoop.Rules.{Rules}

-- what is told of an input and of an order: a line each, or nothing where no journal is kept
pub record Texts : Type 0 where
  pub of_input : Input → List ℕ
  pub of_order : Order → List ℕ

-- what is told of orders
abbrev pub orders_text : Texts → List Order → List ℕ
orders_text texts given = flat_map texts.of_order given

-- an input with the orders that it gave
abbrev pub entry : Texts → Input → List Order → List ℕ
entry texts input given = texts.of_input input ++ orders_text texts given

-- the inputs with their orders, one after the other; one that isn't accepted leaves nothing
abbrev pub history : {M : Type 0} → Rules M → Texts → M → List Input → List ℕ
history R texts m [] = []
history R texts m (i ∷ is) =
    if R.accepts m i then entry texts i (R.orders m i) ++ history R texts (R.next m i) is
    else history R texts m is
