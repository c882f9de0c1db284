use Rattle.std.proofs.Common.{◌≡◌, ◌++◌, length}
use Rattle.sv_children.specs.Orders.{reports_at}
use Rattle.sv_children.proofs.children.Children.report.Given as goal

abbrev pub invariant-loop-left : goal.invariant-loop-left
invariant-loop-left l =
    l.given.items ++ reports_at l.self l.place l.left ≡ l.initial.given.items ++ reports_at l.self l.place l.edges

abbrev pub decreases-loop-left : goal.decreases-loop-left
decreases-loop-left l = length l.left
