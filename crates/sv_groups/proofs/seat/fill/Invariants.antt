use Rattle.std.proofs.Common.{◌≡◌, ◌+◌, ◌++◌, length, take, drop}
use Rattle.sv_groups.specs.Seats.{seats_from}
use Rattle.sv_groups.specs.StartOrder.{processes}
use Rattle.sv_groups.proofs.seat.fill.Given as goal

abbrev pub invariant-loop-group : goal.invariant-loop-group
invariant-loop-group l = record {
  filled : take l.next l.seats ++ seats_from l.group (drop l.group l.groups) ≡ seats_from 0 l.groups;
  size : l.next + length (processes (drop l.group l.groups)) ≡ length l.seats;
}
