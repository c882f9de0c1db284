use Rattle.std.proofs.Common.{◌≡◌, take}
use Rattle.sv_keys.specs.Environments.{with_variables}
use Rattle.sv_keys.proofs.environment.add_all.Given as goal

abbrev pub invariant-loop-name : goal.invariant-loop-name
invariant-loop-name l = l.variables.entries ≡ with_variables l.initial.variables.entries (take l.name-index l.more)
