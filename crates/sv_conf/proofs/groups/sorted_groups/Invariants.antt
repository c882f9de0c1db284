use Rattle.std.proofs.Common.{◌≡◌, map}
use Rattle.sv_conf.specs.Configuration.{with_sorted}
use Rattle.sv_conf.proofs.groups.sorted_groups.Given as goal

abbrev pub invariant-loop-group : goal.invariant-loop-group
invariant-loop-group l = l.made ≡ map with_sorted l.yielded
