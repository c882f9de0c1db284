use Rattle.std.proofs.Common.{◌≡◌, length}
use Rattle.std.specs.List.{find}
use Rattle.sv_conf.specs.Configuration.{missing_in, is_missing}
use Rattle.sv_conf.proofs.groups.missing_in.Given as goal

abbrev pub invariant-loop-left : goal.invariant-loop-left
invariant-loop-left l = missing_in l.group (find (is_missing l.sections) l.left) ≡ missing_in l.group (find (is_missing l.sections) l.programs)

abbrev pub decreases-loop-left : goal.decreases-loop-left
decreases-loop-left l = length l.left
