use Rattle.sv_runs.proofs.Begun.{begun_stands}
use Rattle.sv_runs.proofs.runs.Runs.begin.Goals as goal

pub returns : goal.returns
returns c b s =
    begun_stands c.args.self.now c.mark.new.self b c.args.run c.args.child c.args.pid c.args.is_listener c.insert.new.self c.new-open.result
    c.mark.ensures.runs c.in_ok-insert.ensures.updates c.mark.ensures.closed c.new-open.ensures s
