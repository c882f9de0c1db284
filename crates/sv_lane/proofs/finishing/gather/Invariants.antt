use Rattle.std.proofs.Common.{◌≡◌, ◌++◌, map}
use Rattle.std.specs.Vec.Iter.{into_iter_items}
use Rattle.crossbeam_channel.specs.Claims.{view, IsSeatAt}
use Rattle.crossbeam_channel.specs.Ends.{ruled_capacity, sends_on}
use Rattle.sv_lane.specs.Ends.{made, posted}
use Rattle.sv_lane.specs.declared.role.Role.TheVariants.{Seating}
use Rattle.sv_lane.proofs.finishing.gather.Given as goal

abbrev pub invariant-loop-poster : goal.invariant-loop-poster
invariant-loop-poster g l = record {
  left : l.yielded ++ into_iter_items l.poster-iterator ≡ l.fn.posters.items;
  seated : IsSeatAt (sends_on l.sender) l.pass;
  gathered : view l.pass ≡ Seating (ruled_capacity (sends_on l.sender)) (made l.fn.seats) (map posted l.yielded);
}
