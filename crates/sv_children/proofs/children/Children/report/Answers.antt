use Rattle.sv_children.proofs.Reports.{reports_end, reports_loop}
use Rattle.sv_children.proofs.children.Children.report.Goals as goal

pub loop-left-preserved : goal.loop-left-preserved
loop-left-preserved c =
    reports_loop c.args.self.now c.args.place c.loop-left.left.now _ _ _ _ c.in-len1-up.len_at_least
    c.in_ok-report_one.ensures c.loop-left.invariant

pub returns : goal.returns
returns c = reports_end c.args.self.now c.args.place c.loop-left.left.now _ _ c.in_default.len_below c.loop-left.invariant
