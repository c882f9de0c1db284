use Rattle.sv_lane.proofs.AnyRole.{seats_as}
use Rattle.sv_lane.proofs.seats.Seats.seat.Goals as goal

pub another-pass-requires-clause-rule : goal.another-pass-requires-clause-rule
another-pass-requires-clause-rule g c = seats_as _ _ _ c.args.self.now.seating
