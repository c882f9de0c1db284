-- The board: the rows after a list of reports.
use Rattle.std.specs.Prelude.{◌≡◌, List, [], ◌∷◌, ◌++◌, Bool, ◌&&◌, fold, slice_set, Option, Some}
use Rattle.std.specs.Prelude.{None, ℕ}
use Rattle.std.specs.List.{position}
use Rattle.std.specs.Str.{bytes_eq}
use Rattle.sv_board.specs.declared.row.Report.{Report}
use Rattle.sv_board.specs.declared.row.Row.{Row}

-- the row is of the report's process
abbrev pub is_of : Report → Row → Bool
is_of report row = bytes_eq row.group report.group && bytes_eq row.name report.name

-- the row that a report gives its process
abbrev pub row_of : Report → Row
row_of report = record { group = report.group; name = report.name; state = report.to }

-- a row at this place, or at the end
abbrev pub put_row : List Row → Row → Option ℕ → List Row
put_row rows row None = rows ++ row ∷ []
put_row rows row (Some place) = slice_set rows place row

-- the first report of a process adds its row at the end, a later one changes that row
abbrev pub after : List Row → Report → List Row
after rows report = put_row rows (row_of report) (position (is_of report) rows)

-- the first list is a prefix of the second
abbrev pub IsFront : List Report → List Report → Type 0
IsFront front whole = (later : List Report) × (whole ≡ front ++ later)

-- the rows after these reports
abbrev pub board : List Report → List Row
board reports = fold after [] reports
