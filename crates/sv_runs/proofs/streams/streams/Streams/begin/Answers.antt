use Rattle.sv_runs.proofs.StreamsLemmas.Begun.{begun_stands}
use Rattle.sv_runs.proofs.streams.streams.Streams.begin.Goals as goal

pub returns : goal.returns
returns c book s =
    begun_stands c.args.self.now.open c.insert.new.self book c.args.run c.args.child c.args.pid c.args.redirect c.args.out_limit
    c.args.err_limit c.in_ok-open.open c.in_ok-insert.ensures.updates c.in_ok-open.ensures s
