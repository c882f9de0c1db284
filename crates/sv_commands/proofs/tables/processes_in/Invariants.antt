use Rattle.std.proofs.Common.{◌≡◌, ◌++◌, length, option_map}
use Rattle.sv_xmlcall.specs.Trees.{trees_view}
use Rattle.sv_commands.specs.Tables.{processes_in}
use Rattle.sv_commands.proofs.tables.processes_in.Given as goal

abbrev pub invariant-loop-left : goal.invariant-loop-left
invariant-loop-left l =
    processes_in (trees_view l.values) ≡ option_map (λ more. l.processes ++ more) (processes_in (trees_view l.left))

abbrev pub decreases-loop-left : goal.decreases-loop-left
decreases-loop-left l = length l.left
