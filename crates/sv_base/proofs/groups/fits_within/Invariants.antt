use Rattle.std.proofs.Common.{◌≡◌, length}
use Rattle.sv_base.specs.Roster.{fit_within}
use Rattle.sv_base.proofs.groups.fits_within.Given as goal

abbrev pub invariant-loop-left : goal.invariant-loop-left
invariant-loop-left l = fit_within l.room l.left ≡ fit_within l.most l.groups

abbrev pub decreases-loop-left : goal.decreases-loop-left
decreases-loop-left l = length l.left
