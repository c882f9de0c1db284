use Rattle.std.proofs.Common.{◌≡◌, ◌++◌, length}
use Rattle.std.specs.List.{flat_map}
use Rattle.sv_moving.specs.Differences.{differs_there}
use Rattle.sv_moving.proofs.compared.tell_there.Given as goal

abbrev pub invariant-loop-left : goal.invariant-loop-left
invariant-loop-left l = l.told ++ flat_map (differs_there l.here) l.left ≡ l.initial.told ++ flat_map (differs_there l.here) l.there

abbrev pub decreases-loop-left : goal.decreases-loop-left
decreases-loop-left l = length l.left
