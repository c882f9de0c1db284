use Rattle.sv_ini.specs.Lines.{is_feed}
use Rattle.sv_ini.proofs.Boundaries.{first_is_ascii, feed_is_ascii}
use Rattle.sv_ini.proofs.cuts.cut_at_feed.Goals as goal

pub cut_round-requires : goal.cut_round-requires
cut_round-requires c = rw (c.first_feed.ensures, c.as_bytes.ensures.value) (first_is_ascii is_feed feed_is_ascii c.args.text.now)
