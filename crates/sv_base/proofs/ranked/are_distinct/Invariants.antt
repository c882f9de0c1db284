use Rattle.std.proofs.Common.{◌≡◌, length}
use Rattle.sv_base.specs.Order.{are_distinct}
use Rattle.sv_base.proofs.ranked.are_distinct.Given as goal

abbrev pub invariant-loop-left : goal.invariant-loop-left
invariant-loop-left g l = are_distinct g.T.Ranked.name_of l.left ≡ are_distinct g.T.Ranked.name_of l.items

abbrev pub decreases-loop-left : goal.decreases-loop-left
decreases-loop-left g l = length l.left
