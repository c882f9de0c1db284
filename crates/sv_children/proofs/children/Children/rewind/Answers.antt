use Rattle.std.proofs.Common.{sym, ◌∙◌}
use Rattle.sv_children.proofs.Watching.{crew_stays}
use Rattle.sv_children.proofs.children.Children.rewind.Goals as goal

pub returns-else-not-stays : goal.returns-else-not-stays
returns-else-not-stays c =
    crew_stays c.self.inside.roster c.self.inside.all.items c.self.inside.watch c.args.at c.args.self.now c.self.view_is
    (sym c.stays.ensures ∙ c.if-not-stays.false) c.self.invariant
