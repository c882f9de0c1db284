use Rattle.sv_links.proofs.Listed.{none_numbered}
use Rattle.sv_links.proofs.links.Links.are_idle.Goals as goal

pub returns : goal.returns
returns c = λ book s idle. none_numbered c.args.self.now book (c.is_empty.ensures.0 idle) s
