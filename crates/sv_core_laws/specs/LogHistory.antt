-- What was logged: each piece that was added to a log, and the orders that carry it out (the
-- manual's chapter on logging).
use Rattle.std.specs.Prelude.{◌≡◌, ℕ, List, Bool, true, false, filter}
use Rattle.sv_base.specs.declared.config.Config.{Config}
use Rattle.sv_core.specs.MachineState.{Model, now}
use Rattle.sv_logs.specs.LogDeeds.{LogDeed, all_orders, all_sizes}
use Rattle.sv_logs.specs.Opening.{opening_sizes}
use Rattle.sv_out.specs.declared.order.Order.{Order}
use Rattle.sv_out.specs.declared.order.Order.TheVariants as order

-- an order about the files of logs
abbrev pub is_of_logs : Order → Bool
is_of_logs (order.Append file bytes) = true
is_of_logs (order.Shift from to) = true
is_of_logs (order.Fresh file) = true
is_of_logs other = false

-- pieces were logged and files made empty, one after the other: the orders about files are those of
-- it, in order, and the known sizes are those after it
pub record LogsHaveAHistory (config : Config) (told : List (List ℕ × ℕ)) (m : Model)
    (given : List Order) : Type 0 where
  pub all : List LogDeed
  pub sizes : (now m).sizes ≡ all_sizes all (opening_sizes config told)
  pub orders : filter is_of_logs given ≡ all_orders all (opening_sizes config told)
