use Rattle.std.proofs.Common.{◌≡◌, length}
use Rattle.sv_expand.specs.Values.{value_of}
use Rattle.sv_expand.proofs.names.text_of.Given as goal

abbrev pub invariant-loop-rest : goal.invariant-loop-rest
invariant-loop-rest l = value_of l.name l.rest ≡ value_of l.name l.pairs

abbrev pub decreases-loop-rest : goal.decreases-loop-rest
decreases-loop-rest l = length l.rest
