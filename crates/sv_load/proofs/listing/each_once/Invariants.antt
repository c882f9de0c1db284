use Rattle.std.proofs.Common.{◌≡◌, length}
use Rattle.sv_load.specs.Listing.{with_names, each_once}
use Rattle.sv_load.proofs.listing.each_once.Given as goal

abbrev pub invariant-loop-left : goal.invariant-loop-left
invariant-loop-left l = with_names l.once l.left ≡ each_once l.names

abbrev pub decreases-loop-left : goal.decreases-loop-left
decreases-loop-left l = length l.left
