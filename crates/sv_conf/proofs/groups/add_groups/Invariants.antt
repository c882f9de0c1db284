use Rattle.std.proofs.Common.{◌≡◌, ◌++◌}
use Rattle.sv_conf.proofs.groups.add_groups.Given as goal

abbrev pub invariant-loop-group : goal.invariant-loop-group
invariant-loop-group l = l.groups ≡ l.initial.groups ++ l.yielded
