use Rattle.std.proofs.Common.{◌≡◌, ℕ, ◌+◌, ◌∙◌, ap, fold, List}
use Rattle.left_right.specs.Sides.{view}
use Rattle.sv_board.proofs.RuleKept.{publishes}
use Rattle.sv_board.specs.Board.{after}
use Rattle.sv_board.specs.declared.row.Report.{Report}
use Rattle.sv_board.specs.declared.row.Row.{Row}
use Rattle.sv_board.proofs.writer.publish_one.Goals as goal

pub publish_as-requires : goal.publish_as-requires
publish_as-requires g c next is = let now = c.args.end.desk.shown.value in
    let one : (next.rows.items, next.count) ≡ (after now.rows.items g.N.Published.report, now.count + 1) = is ∙ ap (fold (λ (s : List Row × ℕ) (r : Report). (after s.0 r, s.1 + 1)) (now.rows.items, now.count)) c.requires.waits in
    publishes c.args.end.desk.place.id (view c.args.end.desk.place) now next g.N.Published.report c.requires.writing (ap (λ (s : List Row × ℕ). s.0) one) (ap (λ (s : List Row × ℕ). s.1) one)
