use Rattle.std.proofs.Common.{◌≡◌, length}
use Rattle.sv_base.specs.Order.{is_rising}
use Rattle.sv_base.proofs.ranked.are_rising.Given as goal

abbrev pub invariant-loop-left : goal.invariant-loop-left
invariant-loop-left g l = is_rising g.T.Ranked.priority_of g.T.Ranked.name_of l.left ≡ is_rising g.T.Ranked.priority_of g.T.Ranked.name_of l.items

abbrev pub decreases-loop-left : goal.decreases-loop-left
decreases-loop-left g l = length l.left
