use Rattle.std.proofs.Common.{◌≡◌}
use Rattle.sv_conf.specs.Crowds.{crowd_with, with_counts}
use Rattle.sv_conf.proofs.crowd.add_counts.Given as goal

abbrev pub invariant-loop-counted : goal.invariant-loop-counted
invariant-loop-counted l = crowd_with l.parts.items l.room_left ≡ with_counts (crowd_with l.initial.parts.items l.initial.room_left) l.yielded
