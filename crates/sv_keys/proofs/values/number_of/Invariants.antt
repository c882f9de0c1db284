use Rattle.std.proofs.Common.{◌≡◌, ◌≤◌, length}
use Rattle.sv_keys.specs.Values.{digits_from}
use Rattle.sv_keys.proofs.values.number_of.Given as goal

abbrev pub invariant-loop-left : goal.invariant-loop-left
invariant-loop-left l = record { same : digits_from l.most l.number l.left ≡ digits_from l.most 0 l.digits; most : l.number ≤ l.most }

abbrev pub decreases-loop-left : goal.decreases-loop-left
decreases-loop-left l = length l.left
