use Rattle.std.proofs.Common.{◌≡◌}
use Rattle.sv_sections.specs.AllSections.{with_all_keys}
use Rattle.sv_sections.proofs.keyed.with_all_keys.Given as goal

abbrev pub invariant-loop-key : goal.invariant-loop-key
invariant-loop-key l = l.all ≡ with_all_keys l.initial.all l.yielded
