use Rattle.std.proofs.Common.{◌≡◌, true, sym, ◌∙◌, ap}
use Rattle.sv_ini.specs.Lines.{begins_with, is_opening}
use Rattle.sv_ini.proofs.Boundaries.{bracket_boundary}
use Rattle.sv_ini.proofs.cuts.behind_bracket.Goals as goal

pub split_at-requires : goal.split_at-requires
split_at-requires c =
    let opens : begins_with is_opening c.args.text.now ≡ true =
    ap (begins_with is_opening) (sym c.as_bytes.ensures.value) ∙ sym c.begins_with_bracket.ensures ∙ c.if-begins_with_bracket.true in
    bracket_boundary c.args.text.now c.utf8.text opens
