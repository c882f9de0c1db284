use Rattle.sv_ini.specs.Lines.{is_separator}
use Rattle.sv_ini.proofs.Boundaries.{first_is_ascii, separator_is_ascii}
use Rattle.sv_ini.proofs.cuts.cut_at_separator.Goals as goal

pub cut_round-requires : goal.cut_round-requires
cut_round-requires c = rw (c.first_separator.ensures, c.as_bytes.ensures.value) (first_is_ascii is_separator separator_is_ascii c.args.text.now)
