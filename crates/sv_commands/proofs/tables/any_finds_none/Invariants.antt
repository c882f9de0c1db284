use Rattle.std.proofs.Common.{◌≡◌, length}
use Rattle.std.specs.List.{list_any}
use Rattle.sv_commands.specs.Tables.{finds_none}
use Rattle.sv_commands.proofs.tables.any_finds_none.Given as goal

abbrev pub invariant-loop-left : goal.invariant-loop-left
invariant-loop-left l = list_any (finds_none l.processes) l.left ≡ list_any (finds_none l.processes) l.names

abbrev pub decreases-loop-left : goal.decreases-loop-left
decreases-loop-left l = length l.left
