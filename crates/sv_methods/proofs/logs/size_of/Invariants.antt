use Rattle.std.proofs.Common.{◌≡◌, length}
use Rattle.sv_methods.specs.Processes.{size_of}
use Rattle.sv_methods.proofs.logs.size_of.Given as goal

abbrev pub invariant-loop-left : goal.invariant-loop-left
invariant-loop-left l = size_of l.file l.sizes ≡ size_of l.file l.left

abbrev pub decreases-loop-left : goal.decreases-loop-left
decreases-loop-left l = length l.left
