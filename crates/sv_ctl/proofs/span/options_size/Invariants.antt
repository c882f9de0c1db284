use Rattle.std.proofs.Common.{◌≡◌, ◌+◌, false, length}
use Rattle.sv_ctl.specs.Span.{options_size}
use Rattle.sv_ctl.proofs.span.options_size.Given as goal

abbrev pub invariant-loop-left : goal.invariant-loop-left
invariant-loop-left l = record {
  same : options_size false l.words ≡ l.size + options_size l.is_value l.left;
  sizes : l.size + length l.left ≡ length l.words;
}

abbrev pub decreases-loop-left : goal.decreases-loop-left
decreases-loop-left l = length l.left
