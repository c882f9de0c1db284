use Rattle.std.proofs.Common.{sym, ap, ◌∙◌}
use Rattle.std.specs.List.{position}
use Rattle.sv_board.proofs.Places.{changed}
use Rattle.sv_board.specs.Board.{is_of}
use Rattle.sv_board.proofs.shown.put.Goals as goal

pub returns : goal.returns
returns c = let report = c.args.report.now in
    changed c.args.rows.now.items report c.in-Some.place c.index_mut.result.now (sym (ap (position (is_of report)) c.as_slice.ensures.value) ∙ sym c.place_of.ensures ∙ c.in-Some.is) c.index_mut.ensures.value
