use Rattle.std.proofs.Common.{◌≡◌, ◌++◌, map}
use Rattle.sv_logs.specs.Logging.{order_of}
use Rattle.sv_logs.proofs.carrying.give.Given as goal

abbrev pub invariant-loop-order : goal.invariant-loop-order
invariant-loop-order l = record {
  told : l.given.items ≡ l.initial.given.items ++ map order_of l.yielded;
}
