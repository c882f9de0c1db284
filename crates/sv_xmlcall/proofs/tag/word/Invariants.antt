use Rattle.std.proofs.Common.{◌≡◌, ◌+◌, length}
use Rattle.sv_xmlcall.specs.Tags.{word_at}
use Rattle.sv_xmlcall.proofs.tag.word.Given as goal

abbrev pub invariant-loop-left : goal.invariant-loop-left
invariant-loop-left l = record {
  read : word_at l.left l.rest ≡ word_at l.wanted l.bytes;
  shorter : length l.rest + length l.wanted ≡ length l.bytes + length l.left;
}

abbrev pub decreases-loop-left : goal.decreases-loop-left
decreases-loop-left l = length l.left
