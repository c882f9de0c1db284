use Rattle.std.proofs.Common.{◌≡◌, ◌<◌, ◌^◌, length}
use Rattle.sv_commands.specs.Tables.{longest}
use Rattle.sv_commands.proofs.tables.longest.Given as goal

abbrev pub invariant-loop-left : goal.invariant-loop-left
invariant-loop-left l = record {
  same : longest l.most l.left ≡ longest 30 l.processes;
  bound : l.most < 2 ^ 63;
}

abbrev pub decreases-loop-left : goal.decreases-loop-left
decreases-loop-left l = length l.left
