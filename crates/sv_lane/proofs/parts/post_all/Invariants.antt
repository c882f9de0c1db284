use Rattle.std.proofs.Common.{◌≡◌, ◌++◌}
use Rattle.std.specs.Vec.Iter.{into_iter_items}
use Rattle.sv_lane.specs.Ends.{IsSameSeat, posted}
use Rattle.sv_lane.proofs.parts.post_all.Given as goal

abbrev pub invariant-loop-item : goal.invariant-loop-item
invariant-loop-item g l = record {
  posted : posted l.poster ≡ posted l.fn.poster ++ l.yielded;
  left : l.yielded ++ into_iter_items l.item-iterator ≡ l.fn.items.items;
  same : IsSameSeat l.fn.poster l.poster;
}
