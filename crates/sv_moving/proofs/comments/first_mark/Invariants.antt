use Rattle.std.proofs.Common.{◌≡◌, ◌+◌, ◌≤◌, length}
use Rattle.sv_moving.specs.Comments.{mark_from, first_mark}
use Rattle.sv_moving.proofs.comments.first_mark.Given as goal

abbrev pub invariant-loop-left : goal.invariant-loop-left
invariant-loop-left l = record {
  same : mark_from l.mark l.rank l.place l.behind l.left ≡ first_mark l.mark l.line;
  at : l.place + length l.left ≡ length l.line;
  few : l.rank ≤ l.place;
}

abbrev pub decreases-loop-left : goal.decreases-loop-left
decreases-loop-left l = length l.left
