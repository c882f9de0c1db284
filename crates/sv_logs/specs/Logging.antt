-- What is ordered as pieces are added to logs, and which sizes are then known.
use Rattle.std.specs.Prelude.{ℕ, List, [], ◌∷◌, ◌++◌, Option, Some, None, map}
use Rattle.sv_base.specs.declared.config.FileOrder.{FileOrder}
use Rattle.sv_base.specs.declared.config.FileOrder.TheVariants as file
use Rattle.sv_base.specs.declared.spec.LogSpec.{LogSpec}
use Rattle.sv_logs.specs.Sizes.{Sizes, size_in, sized}
use Rattle.sv_logs.specs.Rotation.{after_append, orders_of}
use Rattle.sv_logs.specs.declared.plan.LogPlan.{LogPlan}
use Rattle.sv_out.specs.declared.order.Order.{Order}
use Rattle.sv_out.specs.declared.order.Order.TheVariants.{Append, Shift, Fresh}

-- a log with a file of this name and size
abbrev pub plan_as : List ℕ → ℕ → LogSpec → LogPlan
plan_as name size log =
    record { file = name; maxbytes = log.maxbytes; backups = log.backups; size = size }

-- the order for one step in the keeping of a log
abbrev pub order_of : FileOrder → Order
order_of (file.Append name bytes) = Append name bytes
order_of (file.Shift from to) = Shift from to
order_of (file.Fresh name) = Fresh name

-- a piece is added to a log with this file: the orders for that
abbrev pub orders_as : List ℕ → LogSpec → List ℕ → Sizes → List Order
orders_as name log piece sizes =
    map order_of (orders_of (plan_as name (size_in name sizes) log) piece)

-- and the sizes after it
abbrev pub logged_as : List ℕ → LogSpec → List ℕ → Sizes → Sizes
logged_as name log piece sizes =
    sized name (after_append (plan_as name (size_in name sizes) log) piece).size sizes

-- the orders, where the log may have a file
abbrev pub orders_if : Option (List ℕ) → LogSpec → List ℕ → Sizes → List Order
orders_if None log piece sizes = []
orders_if (Some name) log piece sizes = orders_as name log piece sizes

-- and the sizes after it
abbrev pub logged_if : Option (List ℕ) → LogSpec → List ℕ → Sizes → Sizes
logged_if None log piece sizes = sizes
logged_if (Some name) log piece sizes = logged_as name log piece sizes

-- the orders by which a piece is added to a log; none where it has no file
abbrev pub log_orders : LogSpec → List ℕ → Sizes → List Order
log_orders log piece sizes = orders_if log.file log piece sizes

-- the sizes that are known after them
abbrev pub logged : LogSpec → List ℕ → Sizes → Sizes
logged log piece sizes = logged_if log.file log piece sizes
