-- What a role knows, and what a read tells it.
use Rattle.std.specs.Prelude.{◌≡◌, ℕ, zero, suc, List, [], length}
use Rattle.sv_board.specs.Board.{IsFront, board}
use Rattle.sv_board.specs.declared.role.Role.{Role}
use Rattle.sv_board.specs.declared.role.Role.TheVariants.{Reading, Writing}
use Rattle.sv_board.specs.declared.row.Report.{Report}
use Rattle.sv_board.specs.declared.shown.Shown.{Shown}

-- the reports that it knows of
abbrev pub seen_in : Role → List Report
seen_in (Reading seen) = seen
seen_in (Writing reported) = reported

-- the writer's role, where so many reports were made
abbrev pub writing : ℕ → List Report → Role
writing zero reported = Reading []
writing (suc count) reported = Writing reported

-- the role is a reader's
abbrev pub IsReading : Role → Type 0
IsReading role = role ≡ Reading (seen_in role)

-- what is shown is the board of these reports
abbrev pub Shows : Shown → List Report → Type 0
Shows shown reports = (shown.rows.items ≡ board reports) × (shown.count ≡ length reports)

-- after a read of this value the role knows of the reports that made it, and of no fewer than
-- before
abbrev pub Reads : Role → Role → Shown → Type 0
Reads old new shown =
    IsReading new × IsFront (seen_in old) (seen_in new) × Shows shown (seen_in new)
