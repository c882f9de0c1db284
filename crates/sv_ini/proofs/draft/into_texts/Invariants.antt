use Rattle.std.proofs.Common.{◌≡◌}
use Rattle.sv_ini.proofs.draft.into_texts.Given as goal

abbrev pub invariant-loop-key : goal.invariant-loop-key
invariant-loop-key l = l.texts ≡ l.yielded
