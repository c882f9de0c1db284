use Rattle.std.proofs.Common.{◌≡◌, ◌++◌, false, length}
use Rattle.sv_moving.specs.Lines.{fed}
use Rattle.sv_moving.proofs.cuts.with_feeds.Given as goal

abbrev pub invariant-loop-left : goal.invariant-loop-left
invariant-loop-left l = l.out.items ++ fed l.behind l.left ≡ fed false l.characters

abbrev pub decreases-loop-left : goal.decreases-loop-left
decreases-loop-left l = length l.left
