use Rattle.std.proofs.Common.{◌≡◌, ◌++◌, length}
use Rattle.std.specs.Prelude.{map}
use Rattle.sv_moving.specs.Differences.{key_there}
use Rattle.sv_moving.proofs.meaning.say_keys_there.Given as goal

abbrev pub invariant-loop-left : goal.invariant-loop-left
invariant-loop-left l = l.meanings ++ map (key_there l.section) l.left ≡ l.initial.meanings ++ map (key_there l.section) l.keys

abbrev pub decreases-loop-left : goal.decreases-loop-left
decreases-loop-left l = length l.left
