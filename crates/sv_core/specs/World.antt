-- What a turn of the machine works on.
use Rattle.std.specs.Prelude.{ℕ, List, [], ◌∷◌, ◌++◌}
use Rattle.sv_base.specs.declared.config.Config.{Config}
use Rattle.sv_calls.specs.CallBook.{CallBook}
use Rattle.sv_children.specs.Crew.{Crew}
use Rattle.sv_core.specs.declared.course.Course.{Course}
use Rattle.sv_links.specs.LinkBook.{LinkRecord}
use Rattle.sv_out.specs.declared.order.Order.{Order}
use Rattle.sv_pool.specs.EventPools.{EventPools}
use Rattle.sv_runs.specs.RunBook.{RunBook}
use Rattle.sv_runs.specs.Streams.StreamBook.{StreamRecord}

-- the configuration, and the daemon's process number; the groups with their children, both in start
-- order; what the daemon is about; the number that the next run gets; the moment of the turn, and
-- that at which the clock's ticks were last looked at; the known sizes of files, by their names;
-- the event pools; the runs of the processes, and what they wrote; the links of clients, and their
-- calls in hand; and all orders that were given since the beginning
pub record World : Type 0 where
  pub config : Config
  pub pid : ℕ
  pub children : Crew
  pub course : Course
  pub next_run : ℕ
  pub moment : ℕ
  pub clock : ℕ
  pub sizes : List (List ℕ × ℕ)
  pub pools : EventPools
  pub runs : RunBook
  pub streams : List StreamRecord
  pub links : List LinkRecord
  pub calls : CallBook
  pub given : List Order

-- an order is given
abbrev pub gives : Order → World → World
gives given w = record w { given = w.given ++ given ∷ [] }
