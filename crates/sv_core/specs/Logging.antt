-- What is written to log files: lines of the daemon's own, and what processes wrote (the manual's
-- chapter on logging).
use Rattle.std.specs.Prelude.{ℕ, List, [], ◌∷◌, ◌++◌, Option, Some, None}
use Rattle.sv_base.specs.declared.spec.LogSpec.{LogSpec}
use Rattle.sv_core.specs.World.{World}
use Rattle.sv_logs.specs.Logging.{log_orders, logged}
use Rattle.sv_children.specs.Lines.Rows.{overflow_line}
use Rattle.sv_children.specs.Lines.Written.{written}
use Rattle.sv_children.specs.declared.lines.line.Line.{Line}
use Rattle.sv_out.specs.declared.order.Order.{Order}
use Rattle.sv_out.specs.declared.order.Order.TheVariants as order

-- a piece is added to a log, if it has a file
abbrev pub logs : LogSpec → List ℕ → World → World
logs log piece w =
    record w { sizes = logged log piece w.sizes; given = w.given ++ log_orders log piece w.sizes }

-- bytes that may be there are added to a log
abbrev pub logs_if : LogSpec → Option (List ℕ) → World → World
logs_if log None w = w
logs_if log (Some piece) w = logs log piece w

-- the main log gets a line of the turn's moment, unless it is below the level that is written
abbrev pub notes : Line → World → World
notes line w = logs_if w.config.main (written w.config.level w.moment line) w

-- if there is one
abbrev pub notes_if : Option Line → World → World
notes_if None w = w
notes_if (Some line) w = notes line w

-- the line of a report that a full pool dropped an event
abbrev pub drop_line : Order → Option Line
drop_line (order.Dropped pool serial poolserial) = Some (overflow_line pool serial)
drop_line other = None

-- such a report, with its line after it
abbrev pub tells_drop : Order → World → World
tells_drop report w = notes_if (drop_line report) (record w { given = w.given ++ report ∷ [] })

-- one after the other
abbrev pub tells_drops : List Order → World → World
tells_drops [] w = w
tells_drops (report ∷ reports) w = tells_drops reports (tells_drop report w)
