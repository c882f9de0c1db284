use Rattle.std.proofs.Common.{◌≡◌, ◌++◌}
use Rattle.sv_conf.proofs.groups.add_members.Given as goal

abbrev pub invariant-loop-member : goal.invariant-loop-member
invariant-loop-member l = l.members ≡ l.initial.members ++ l.yielded
