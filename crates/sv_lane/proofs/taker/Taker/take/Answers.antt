use Rattle.sv_lane.proofs.AnyRole.{takes_as, learns_nothing}
use Rattle.sv_lane.proofs.taker.Taker.take.Goals as goal

pub recv_as-requires-clause-rule : goal.recv_as-requires-clause-rule
recv_as-requires-clause-rule g c = (takes_as _ _ _ c.loop.self.taking, learns_nothing _ _)
