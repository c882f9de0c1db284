use Rattle.std.proofs.Common.{◌≡◌, IsUtf8}
use Rattle.std.specs.Str.{chars}
use Rattle.std.specs.Str.Iter.{chars_rest}
use Rattle.sv_expand.specs.Words.{after_all, at_start}
use Rattle.sv_expand.proofs.words.read_all.Given as goal

abbrev pub invariant-loop-c : goal.invariant-loop-c
invariant-loop-c l = record {
  text : IsUtf8 (chars_rest l.c-iterator);
  same : after_all (chars (chars_rest l.c-iterator)) l.reading ≡ after_all (chars l.fn.text) at_start;
}
