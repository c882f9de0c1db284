use Rattle.std.proofs.Common.{◌≡◌, ◌++◌, length, string_bytes}
use Rattle.std.specs.Prelude.{encode_utf8_all}
use Rattle.sv_moving.proofs.value.put.Given as goal

abbrev pub invariant-loop-left : goal.invariant-loop-left
invariant-loop-left l =
    string_bytes l.text ++ encode_utf8_all l.left ≡ string_bytes l.initial.text ++ encode_utf8_all l.characters

abbrev pub decreases-loop-left : goal.decreases-loop-left
decreases-loop-left l = length l.left
