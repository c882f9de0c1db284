use Rattle.std.proofs.Common.{◌≡◌, ◌+◌, IsUtf8, length}
use Rattle.std.specs.Str.{chars}
use Rattle.std.specs.Str.Iter.{char_indices_rest, char_indices_offset}
use Rattle.sv_expand.specs.Pairs.{after_all, at_start}
use Rattle.sv_expand.proofs.pairs.read_all.Given as goal

abbrev pub invariant-loop-at : goal.invariant-loop-at
invariant-loop-at l = record {
  text : IsUtf8 (char_indices_rest l.at-iterator);
  place : char_indices_offset l.at-iterator + length (char_indices_rest l.at-iterator) ≡ length l.fn.text;
  same : after_all (char_indices_offset l.at-iterator) (chars (char_indices_rest l.at-iterator)) l.reading ≡ after_all 0 (chars l.fn.text) at_start;
}
