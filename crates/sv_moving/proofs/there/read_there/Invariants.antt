use Rattle.std.proofs.Common.{◌≡◌, ◌+◌, length}
use Rattle.sv_moving.specs.There.{texts_read, read_there}
use Rattle.sv_moving.proofs.there.read_there.Given as goal

abbrev pub invariant-loop-left : goal.invariant-loop-left
invariant-loop-left l = record {
  same : texts_read l.number l.left l.sections ≡ read_there l.texts;
  count : l.number + length l.left ≡ length l.texts;
}

abbrev pub decreases-loop-left : goal.decreases-loop-left
decreases-loop-left l = length l.left
