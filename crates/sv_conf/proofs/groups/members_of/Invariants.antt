use Rattle.std.proofs.Common.{◌≡◌}
use Rattle.sv_conf.specs.Configuration.{members_of}
use Rattle.sv_conf.proofs.groups.members_of.Given as goal

abbrev pub invariant-loop-part : goal.invariant-loop-part
invariant-loop-part l = l.members ≡ members_of l.yielded
