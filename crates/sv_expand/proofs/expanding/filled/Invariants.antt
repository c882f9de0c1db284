use Rattle.std.proofs.Common.{◌≡◌, ◌++◌, string_bytes}
use Rattle.sv_expand.specs.Values.{filled}
use Rattle.sv_expand.proofs.expanding.filled.Given as goal

abbrev pub invariant-loop-missing : goal.invariant-loop-missing
invariant-loop-missing l = string_bytes l.text ++ filled l.missing l.filler ≡ filled l.count l.filler

abbrev pub decreases-loop-missing : goal.decreases-loop-missing
decreases-loop-missing l = l.missing
