use Rattle.std.proofs.Common.{◌≡◌, ◌++◌, map, take}
use Rattle.sv_core.specs.Failure.{failure_of}
use Rattle.sv_core.proofs.numbers.Numbers.note.Given as goal

abbrev pub invariant-loop-order : goal.invariant-loop-order
invariant-loop-order l = record {
  kept : l.self ≡ record l.initial.self { failures = l.self.failures };
  noted : l.self.failures.items ≡ l.initial.self.failures.items ++ map failure_of (take l.order-index l.given);
}
