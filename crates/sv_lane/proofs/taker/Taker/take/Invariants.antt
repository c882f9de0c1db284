use Rattle.std.proofs.Common.{◌≡◌}
use Rattle.crossbeam_channel.specs.Claims.{view}
use Rattle.crossbeam_channel.specs.Ends.{sends_on}
use Rattle.sv_lane.proofs.taker.Taker.take.Given as goal

abbrev pub invariant-loop : goal.invariant-loop
invariant-loop g l = record {
  lane : sends_on l.self.sender ≡ sends_on l.fn.self.sender;
  view : view l.self.pass ≡ view l.fn.self.pass;
}
