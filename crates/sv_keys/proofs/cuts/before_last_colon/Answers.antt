use Rattle.sv_keys.proofs.Boundaries.{colon_boundary}
use Rattle.sv_keys.proofs.cuts.before_last_colon.Goals as goal

pub split_at-requires : goal.split_at-requires
split_at-requires c = rw (c.first_part.ensures, c.as_bytes.ensures.value) (colon_boundary c.args.text.now c.utf8.text)
