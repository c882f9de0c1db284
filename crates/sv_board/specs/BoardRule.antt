-- The rule of the board, which holds at every atomic step.
use Rattle.std.specs.Prelude.{◌≡◌, ℕ, ◌<◌, List, length}
use mathlib.Core.Option.{some}
use lib.ListN.{get_elem?}
use Rattle.sv_board.specs.Board.{IsFront}
use Rattle.sv_board.specs.Roles.{Shows}
use Rattle.sv_board.specs.declared.role.Role.{Role}
use Rattle.sv_board.specs.declared.role.Role.TheVariants.{Reading, Writing}
use Rattle.sv_board.specs.declared.row.Report.{Report}
use Rattle.sv_board.specs.declared.shown.Shown.{Shown}

-- what a pass knows is so: readers know a prefix of what was reported, the writer's pass knows it
-- all
abbrev pub Knows : List Report → ℕ → ℕ → Role → Type 0
Knows reports writer pass (Reading seen) = IsFront seen reports
Knows reports writer pass (Writing reported) =
    (pass ≡ writer) × (reported ≡ reports) × (0 < length reports)

-- the rule, over what is shown and the roles of all passes
pub record BoardRule (shown : Shown) (roles : List Role) : Type 0 where
  -- all that was reported
  pub reports : List Report
  -- the writer's pass
  pub writer : ℕ
  pub shows : Shows shown reports
  pub each : (pass : ℕ) (role : Role)
      → get_elem? roles pass ≡ some role → Knows reports writer pass role
