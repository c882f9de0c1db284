use Rattle.sv_ini.specs.Lines.{is_bracket}
use Rattle.sv_ini.proofs.Boundaries.{first_is_ascii, bracket_is_ascii}
use Rattle.sv_ini.proofs.cuts.cut_at_bracket.Goals as goal

pub cut_round-requires : goal.cut_round-requires
cut_round-requires c = rw (c.first_bracket.ensures, c.as_bytes.ensures.value) (first_is_ascii is_bracket bracket_is_ascii c.args.text.now)
