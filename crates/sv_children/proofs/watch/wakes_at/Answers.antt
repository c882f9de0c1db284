use Rattle.std.proofs.Common.{Some, ap, ◌∙◌}
use Rattle.sv_children.proofs.Places.{read_there}
use Rattle.sv_children.proofs.Watching.{wakes_read, wakes_without}
use Rattle.sv_groups.specs.StartOrder.{pairs_of}
use Rattle.sv_children.proofs.watch.wakes_at.Goals as goal

pub returns-in-None : goal.returns-in-None
returns-in-None c =
    wakes_without (pairs_of c.args.roster.now) c.args.children.now c.args.place c.in-None.ensures c.requires

pub returns-in-Some : goal.returns-in-Some
returns-in-Some c =
    ap Some c.wake_moment.ensures
    ∙ wakes_read (pairs_of c.args.roster.now) c.args.children.now c.args.place
    (c.in-Some.process.0.now, c.in-Some.process.1.now) c.index-children-place.result c.in-Some.ensures
    (read_there c.args.children.now c.args.place c.index-children-place.result c.requires c.index-children-place.is)
