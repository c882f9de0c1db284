use Rattle.std.proofs.Common.{◌≡◌, length}
use Rattle.sv_sections.specs.Includes.{section_named}
use Rattle.sv_sections.proofs.includes.section_named.Given as goal

abbrev pub invariant-loop-left : goal.invariant-loop-left
invariant-loop-left l = section_named l.name l.left ≡ section_named l.name l.sections

abbrev pub decreases-loop-left : goal.decreases-loop-left
decreases-loop-left l = length l.left
