use Rattle.std.proofs.Common.{◌≡◌, ◌+◌, length}
use Rattle.sv_groups.proofs.seat.add_empty.Given as goal

abbrev pub invariant-loop : goal.invariant-loop
invariant-loop l = length l.seats.items ≡ length l.initial.seats.items + l.counter
