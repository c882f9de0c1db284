use Rattle.sv_ini.proofs.Boundaries.{comment_boundary}
use Rattle.sv_ini.proofs.cuts.value_in.Goals as goal

pub split_at-requires : goal.split_at-requires
split_at-requires c = rw (c.comment_at.ensures, c.as_bytes.ensures.value) (comment_boundary c.args.text.now)
