use Rattle.std.proofs.Common.{◌≡◌, ◌++◌, length}
use Rattle.std.specs.List.{flat_map}
use Rattle.sv_commands.specs.Tables.{process_line}
use Rattle.sv_commands.proofs.tables.put_processes.Given as goal

abbrev pub invariant-loop-left : goal.invariant-loop-left
invariant-loop-left l =
    l.out.items ++ flat_map (process_line l.size) l.left ≡ l.initial.out.items ++ flat_map (process_line l.size) l.processes

abbrev pub decreases-loop-left : goal.decreases-loop-left
decreases-loop-left l = length l.left
