use Rattle.std.proofs.Common.{Option, None, ap, sym}
use Rattle.sv_child.specs.declared.step.ChildDeed.{ChildDeed}
use Rattle.sv_children.specs.News.{stimulus_of}
use Rattle.sv_children.specs.declared.news.News.TheVariants as news_is
use Rattle.sv_core.proofs.Shown.{at_same}
use Rattle.sv_core.specs.Moves.{comes}
use Rattle.sv_core.specs.Requests.{starts_by}
use Rattle.sv_core.proofs.machine.Machine.start.Goals as goal

pub returns-clause-starts : goal.returns-clause-starts
returns-clause-starts c = λ older w k s.
    let v = comes None (stimulus_of news_is.Start) c.args.child w in
    at_same c.start_by.new.self older _ _ _
    (ap (λ (deed : Option ChildDeed). starts_by c.args.link deed c.args.child v k) (sym (c.in_ok-deed.ensures.deed older w s)))
    (c.in_ok-asked.ensures.starts older v k (c.in_ok-deed.ensures.moves older w s))
