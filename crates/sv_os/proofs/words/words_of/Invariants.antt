use Rattle.std.proofs.Common.{◌≡◌, ◌++◌, drop, map, string_bytes}
use Rattle.std.specs.Vec.Iter.{into_iter_items}
use Rattle.sv_os.proofs.words.words_of.Given as goal

abbrev pub invariant-loop-argument : goal.invariant-loop-argument
invariant-loop-argument l = record {
  words : l.words.items ≡ map string_bytes l.yielded;
  left : l.yielded ++ into_iter_items l.argument-iterator ≡ drop 1 (into_iter_items l.fn.arguments);
}
