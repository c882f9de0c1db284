use Rattle.std.proofs.Common.{sym, ◌∙◌}
use Rattle.sv_moving.proofs.Inside.{bracket_inside}
use Rattle.sv_moving.proofs.cuts.section_name.Goals as goal

pub split_at-requires : goal.split_at-requires
split_at-requires c = bracket_inside c.args.content.now (sym c.opens_bracket.ensures ∙ c.if-opens_bracket.true)
