use Rattle.std.proofs.Common.{◌≡◌, ◌++◌, ◌≤◌}
use Rattle.sv_logs.specs.Rotation.{moves}
use Rattle.sv_logs.proofs.plan.rotate.Given as goal

abbrev pub invariant-loop-number : goal.invariant-loop-number
invariant-loop-number l = record {
  told : l.orders.items ++ moves l.file l.number ≡ l.initial.orders.items ++ moves l.file l.initial.number;
  few : l.number ≤ l.initial.number;
}

abbrev pub decreases-loop-number : goal.decreases-loop-number
decreases-loop-number l = l.number
