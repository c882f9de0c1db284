use Rattle.std.proofs.Common.{◌≡◌, [], length}
use Rattle.sv_keys.specs.Values.{each_from}
use Rattle.sv_keys.proofs.values.each.Given as goal

abbrev pub invariant-loop-left : goal.invariant-loop-left
invariant-loop-left g l = each_from g.R.Reading.value_of l.values l.left ≡ each_from g.R.Reading.value_of [] l.texts

abbrev pub decreases-loop-left : goal.decreases-loop-left
decreases-loop-left g l = length l.left
