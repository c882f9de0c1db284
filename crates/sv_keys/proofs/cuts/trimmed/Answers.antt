use Rattle.std.proofs.lemmas.List.Sums.{suffix_len-le-length}
use Rattle.sv_keys.specs.Cuts.{is_white}
use Rattle.sv_keys.proofs.Boundaries.{tail_boundary}
use Rattle.sv_keys.proofs.cuts.trimmed.Goals as goal

pub overflow_sub-text : goal.overflow_sub-text
overflow_sub-text c = rw (c.tail.ensures, c.as_bytes.ensures.value) (suffix_len-le-length is_white c.without_indent-text.result.now)

pub split_at-requires : goal.split_at-requires
split_at-requires c = rw (c.tail.ensures, c.as_bytes.ensures.value) (tail_boundary c.without_indent-text.result.now)
