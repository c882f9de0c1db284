use Rattle.std.proofs.Common.{ap, length, ◌∙◌}
use Rattle.sv_timers.proofs.NextLaws.{settled, settled_list}
use Rattle.sv_timers.proofs.list.DueList.settle_anew.Goals as goal

pub returns-clause-list : goal.returns-clause-list
returns-clause-list c =
    settled_list c.args.self.now.looked c.forget.new.self c.settle.new.rows c.args.due.now c.args.now c.requires.room
    c.forget.ensures.room c.forget.ensures.looked c.settle.ensures

pub returns-clause-looks : goal.returns-clause-looks
returns-clause-looks c =
    ap length (c.children.ensures
    ∙ settled c.args.self.now.looked c.forget.new.self c.settle.new.rows c.args.due.now c.args.now c.requires.room
    c.forget.ensures.room c.forget.ensures.looked c.settle.ensures)
