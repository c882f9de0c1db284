use Rattle.std.proofs.Common.{◌≡◌, length}
use Rattle.sv_sections.specs.AllSections.{all_supported}
use Rattle.sv_sections.proofs.sections.all_supported.Given as goal

abbrev pub invariant-loop-left : goal.invariant-loop-left
invariant-loop-left l = all_supported l.left ≡ all_supported l.sections

abbrev pub decreases-loop-left : goal.decreases-loop-left
decreases-loop-left l = length l.left
