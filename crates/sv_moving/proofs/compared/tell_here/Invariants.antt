use Rattle.std.proofs.Common.{◌≡◌, ◌++◌, length}
use Rattle.std.specs.List.{flat_map}
use Rattle.sv_moving.specs.Differences.{only_here}
use Rattle.sv_moving.proofs.compared.tell_here.Given as goal

abbrev pub invariant-loop-left : goal.invariant-loop-left
invariant-loop-left l = l.told ++ flat_map (only_here l.there) l.left ≡ l.initial.told ++ flat_map (only_here l.there) l.here

abbrev pub decreases-loop-left : goal.decreases-loop-left
decreases-loop-left l = length l.left
