use Rattle.std.proofs.Common.{◌≡◌, length}
use Rattle.sv_conf.specs.Promised.{room_in}
use Rattle.sv_conf.proofs.promised.room_in.Given as goal

abbrev pub invariant-loop-left : goal.invariant-loop-left
invariant-loop-left l = room_in l.host l.program l.keys l.left l.room_left ≡ room_in l.host l.program l.keys l.homes l.room

abbrev pub decreases-loop-left : goal.decreases-loop-left
decreases-loop-left l = length l.left
