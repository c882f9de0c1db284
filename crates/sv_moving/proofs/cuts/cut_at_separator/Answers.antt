use Rattle.sv_moving.specs.Lines.{is_separator}
use Rattle.sv_moving.proofs.Inside.{position_inside}
use Rattle.sv_moving.proofs.cuts.cut_at_separator.Goals as goal

pub cut_round-requires : goal.cut_round-requires
cut_round-requires c = rw c.first_separator.ensures (position_inside is_separator c.args.content.now)
