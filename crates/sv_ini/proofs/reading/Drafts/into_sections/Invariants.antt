use Rattle.std.proofs.Common.{◌≡◌}
use Rattle.sv_ini.proofs.reading.Drafts.into_sections.Given as goal

abbrev pub invariant-loop-draft : goal.invariant-loop-draft
invariant-loop-draft l = l.sections.items ≡ l.yielded
