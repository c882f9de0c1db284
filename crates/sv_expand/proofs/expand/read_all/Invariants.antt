use Rattle.std.proofs.Common.{◌≡◌, ◌+◌, IsUtf8, length}
use Rattle.std.specs.Str.{chars}
use Rattle.std.specs.Str.Iter.{char_indices_rest, char_indices_offset}
use Rattle.sv_expand.specs.Expansion.{after_all, at_start}
use Rattle.sv_expand.proofs.expand.read_all.Given as goal

abbrev pub invariant-loop-at : goal.invariant-loop-at
invariant-loop-at l = record {
  text : IsUtf8 (char_indices_rest l.at-iterator);
  place : char_indices_offset l.at-iterator + length (char_indices_rest l.at-iterator) ≡ length l.fn.text;
  same : after_all l.names (char_indices_offset l.at-iterator) (chars (char_indices_rest l.at-iterator)) l.reading ≡ after_all l.names 0 (chars l.fn.text) at_start;
}
