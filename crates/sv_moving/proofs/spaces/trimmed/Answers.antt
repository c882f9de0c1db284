use Rattle.std.proofs.lemmas.List.Sums.{suffix_len-le-length}
use Rattle.sv_moving.specs.Spaces.{is_space}
use Rattle.sv_moving.proofs.spaces.trimmed.Goals as goal

pub overflow_sub-line : goal.overflow_sub-line
overflow_sub-line c = rw c.tail_of.ensures (suffix_len-le-length is_space c.without_indent-line.result.now)
