use Rattle.std.proofs.Common.{Option, ap, sym}
use Rattle.sv_child.specs.declared.step.ChildDeed.{ChildDeed}
use Rattle.sv_children.specs.News.{stimulus_of}
use Rattle.sv_core.proofs.Shown.{at_same}
use Rattle.sv_core.specs.Moves.{comes}
use Rattle.sv_core.specs.Sweeps.{does_noted, meets}
use Rattle.sv_children.specs.Lines.EdgeLines.{how_of}
use Rattle.sv_core.proofs.machine.Machine.meet.Goals as goal

pub returns-clause-meets : goal.returns-clause-meets
returns-clause-meets c = λ older w k s.
    let news = c.args.news.now in
    let place = c.args.child in
    let after = comes (how_of news) (stimulus_of news) place w in
    at_same c.act_noted.new.self older (meets news place w k) (does_noted news c.in_ok-deed.deed place after k) _
    (ap (λ (deed : Option ChildDeed). does_noted news deed place after k) (sym (c.in_ok-deed.ensures.deed older w s)))
    (c.in_ok-asked.ensures.does older after k (c.in_ok-deed.ensures.moves older w s))
