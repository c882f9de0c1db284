use Rattle.std.proofs.Common.{◌≡◌, ◌+◌, ◌-◌, ◌≤◌, length}
use Rattle.sv_ini.specs.Lines.{comment_at}
use Rattle.sv_ini.proofs.cuts.comment_at.Given as goal

abbrev pub invariant-loop-left : goal.invariant-loop-left
invariant-loop-left l = record {
  same : comment_at l.bytes ≡ length l.bytes - length l.left + comment_at l.left;
  within : length l.left ≤ length l.bytes;
}

abbrev pub decreases-loop-left : goal.decreases-loop-left
decreases-loop-left l = length l.left
