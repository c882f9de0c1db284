use Rattle.std.proofs.Common.{◌≡◌, length}
use Rattle.sv_calls.specs.Waits.{first_fault}
use Rattle.sv_calls.proofs.waits.first_fault.Given as goal

abbrev pub invariant-loop-left : goal.invariant-loop-left
invariant-loop-left l = first_fault l.children l.wait l.rows ≡ first_fault l.children l.wait l.left

abbrev pub decreases-loop-left : goal.decreases-loop-left
decreases-loop-left l = length l.left
