use Rattle.std.proofs.Common.{◌≡◌, length}
use Rattle.sv_sections.specs.AllSections.{with_included}
use Rattle.sv_sections.proofs.sections.with_included.Given as goal

abbrev pub invariant-loop-left : goal.invariant-loop-left
invariant-loop-left l = with_included l.all l.left ≡ with_included l.initial.all l.included

abbrev pub decreases-loop-left : goal.decreases-loop-left
decreases-loop-left l = length l.left
