use Rattle.std.proofs.lemmas.List.Sums.{prefix_len-le-length}
use Rattle.sv_moving.specs.Spaces.{is_space}
use Rattle.sv_moving.proofs.spaces.without_indent.Goals as goal

pub split_at-requires : goal.split_at-requires
split_at-requires c = rw c.indent_of.ensures (prefix_len-le-length is_space c.args.line.now)
