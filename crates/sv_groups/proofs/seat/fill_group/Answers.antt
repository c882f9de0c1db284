use Rattle.std.proofs.Common.{arith}
use Rattle.sv_groups.proofs.Seats.{seat_filled}
use Rattle.sv_groups.proofs.seat.fill_group.Goals as goal

pub loop-member-preserved : goal.loop-member-preserved
loop-member-preserved c =
    seat_filled c.args.group c.args.members c.loop-member.member c.args.next c.loop-member.seats _ (omega arith) (omega arith) c.loop-member.invariant
