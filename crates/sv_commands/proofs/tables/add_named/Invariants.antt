use Rattle.std.proofs.Common.{◌≡◌, ◌++◌, length, filter}
use Rattle.sv_commands.specs.Tables.{is_named}
use Rattle.sv_commands.proofs.tables.add_named.Given as goal

abbrev pub invariant-loop-left : goal.invariant-loop-left
invariant-loop-left l =
    l.given ++ filter (is_named l.group l.member) l.left ≡ l.initial.given ++ filter (is_named l.group l.member) l.processes

abbrev pub decreases-loop-left : goal.decreases-loop-left
decreases-loop-left l = length l.left
