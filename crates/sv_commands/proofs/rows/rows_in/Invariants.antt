use Rattle.std.proofs.Common.{◌≡◌, ◌++◌, length, option_map}
use Rattle.sv_xmlcall.specs.Trees.{trees_view}
use Rattle.sv_commands.specs.Lines.{rows_in}
use Rattle.sv_commands.proofs.rows.rows_in.Given as goal

abbrev pub invariant-loop-left : goal.invariant-loop-left
invariant-loop-left l =
    rows_in (trees_view l.values) ≡ option_map (λ more. l.rows ++ more) (rows_in (trees_view l.left))

abbrev pub decreases-loop-left : goal.decreases-loop-left
decreases-loop-left l = length l.left
