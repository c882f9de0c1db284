use Rattle.sv_ctl.proofs.AskLemmas.Fronts.{stripped}
use Rattle.sv_ctl.proofs.ask.url.behind.Goals as goal

pub returns : goal.returns
returns c = stripped c.args.front.now c.args.text.now c.strip_prefix.result c.strip_prefix.ensures.cases
