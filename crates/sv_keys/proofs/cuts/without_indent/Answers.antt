use Rattle.sv_keys.proofs.Boundaries.{indent_boundary}
use Rattle.sv_keys.proofs.cuts.without_indent.Goals as goal

pub split_at-requires : goal.split_at-requires
split_at-requires c = rw (c.indent.ensures, c.as_bytes.ensures.value) (indent_boundary c.args.text.now c.utf8.text)
