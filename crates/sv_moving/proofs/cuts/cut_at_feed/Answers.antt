use Rattle.sv_moving.specs.Lines.{is_feed}
use Rattle.sv_moving.proofs.Inside.{position_inside}
use Rattle.sv_moving.proofs.cuts.cut_at_feed.Goals as goal

pub cut_round-requires : goal.cut_round-requires
cut_round-requires c = rw c.first_feed.ensures (position_inside is_feed c.args.text.now)
