use Rattle.std.proofs.Common.{◌≡◌, [], length, Ok}
use Rattle.sv_conf.specs.Crowds.{counts_from}
use Rattle.sv_conf.proofs.sections.counts_each.Given as goal

abbrev pub invariant-loop-left : goal.invariant-loop-left
invariant-loop-left l = counts_from l.host l.common l.listener l.program l.keys l.done l.left ≡ counts_from l.host l.common l.listener l.program l.keys (Ok []) l.homes

abbrev pub decreases-loop-left : goal.decreases-loop-left
decreases-loop-left l = length l.left
