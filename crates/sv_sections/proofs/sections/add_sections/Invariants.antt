use Rattle.std.proofs.Common.{◌≡◌}
use Rattle.sv_sections.specs.AllSections.{with_sections}
use Rattle.sv_sections.proofs.sections.add_sections.Given as goal

abbrev pub invariant-loop-section : goal.invariant-loop-section
invariant-loop-section l = l.all ≡ with_sections l.initial.all l.yielded
