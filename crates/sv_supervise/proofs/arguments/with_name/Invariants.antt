use Rattle.std.proofs.Common.{◌≡◌, ◌++◌, length, map}
use Rattle.sv_supervise.specs.Arguments.{with_name}
use Rattle.sv_supervise.proofs.arguments.with_name.Given as goal

abbrev pub invariant-loop-left : goal.invariant-loop-left
invariant-loop-left l = map (λ word. word.now) l.all.items ++ l.left ≡ with_name l.words

abbrev pub decreases-loop-left : goal.decreases-loop-left
decreases-loop-left l = length l.left
