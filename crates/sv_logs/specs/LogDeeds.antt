-- What becomes of log files, one thing after the other: which orders that gives, and which sizes
-- are then known.
use Rattle.std.specs.Prelude.{ℕ, List, [], ◌∷◌, ◌++◌}
use Rattle.sv_base.specs.declared.spec.LogSpec.{LogSpec}
use Rattle.sv_logs.specs.Logging.{log_orders, logged}
use Rattle.sv_logs.specs.Sizes.{Sizes, cleared}
use Rattle.sv_out.specs.declared.order.Order.{Order}

-- a piece is added to a log; or a file is made empty, or is found missing, as a clear of it was
-- asked for
pub data LogDeed : Type 0 where
  Adds : LogSpec → (piece : List ℕ) → LogDeed
  Empties : (file : List ℕ) → LogDeed

-- the sizes that are known after it
abbrev pub sizes_after : LogDeed → Sizes → Sizes
sizes_after (Adds log piece) sizes = logged log piece sizes
sizes_after (Empties file) sizes = cleared file sizes

-- its orders about files; the clear was asked for before
abbrev pub deed_orders : LogDeed → Sizes → List Order
deed_orders (Adds log piece) sizes = log_orders log piece sizes
deed_orders (Empties file) sizes = []

-- the sizes that are known after all of them
abbrev pub all_sizes : List LogDeed → Sizes → Sizes
all_sizes [] sizes = sizes
all_sizes (deed ∷ deeds) sizes = all_sizes deeds (sizes_after deed sizes)

-- the orders of all of them
abbrev pub all_orders : List LogDeed → Sizes → List Order
all_orders [] sizes = []
all_orders (deed ∷ deeds) sizes =
    deed_orders deed sizes ++ all_orders deeds (sizes_after deed sizes)
