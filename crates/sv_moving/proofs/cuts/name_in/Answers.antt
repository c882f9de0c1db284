use Rattle.std.proofs.lemmas.List.Sums.{suffix_len-le-length}
use Rattle.sv_moving.specs.Lines.{is_inside}
use Rattle.sv_moving.proofs.cuts.name_in.Goals as goal

pub overflow_sub-end : goal.overflow_sub-end
overflow_sub-end c = rw c.outside.ensures (suffix_len-le-length is_inside c.args.inside.now)
