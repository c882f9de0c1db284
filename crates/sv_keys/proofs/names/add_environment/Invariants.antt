use Rattle.std.proofs.Common.{◌≡◌, ◌++◌, length, map}
use Rattle.sv_keys.specs.KnownNames.{env_name}
use Rattle.sv_keys.proofs.names.add_environment.Given as goal

abbrev pub invariant-loop-left : goal.invariant-loop-left
invariant-loop-left l = l.pairs ++ map env_name l.left ≡ l.initial.pairs ++ map env_name l.environment

abbrev pub decreases-loop-left : goal.decreases-loop-left
decreases-loop-left l = length l.left
