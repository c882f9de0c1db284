use Rattle.std.proofs.Common.{◌≡◌, ◌+◌, ◌-◌, ◌++◌, take}
use Rattle.sv_groups.specs.Seats.{seats_in}
use Rattle.sv_groups.proofs.seat.fill_group.Given as goal

abbrev pub invariant-loop-member : goal.invariant-loop-member
invariant-loop-member l =
    take (l.next + l.member) l.seats ++ seats_in l.group l.member (l.members - l.member)
    ≡ take l.next l.initial.seats ++ seats_in l.group 0 l.members
