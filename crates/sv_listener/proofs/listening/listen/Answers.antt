use Rattle.sv_listener.proofs.Listens.{not_ready, ready_first}
use Rattle.sv_listener.proofs.listening.listen.Goals as goal

pub returns-in-Ok-clause-listens : goal.returns-in-Ok-clause-listens
returns-in-Ok-clause-listens g c =
    ready_first c.hear.result (g.R.Source.left c.args.source.now) (g.R.Source.left c.hear.new.source) (g.K.Sink.written c.args.sink.now)
    (g.K.Sink.written c.write_all.new.sink) (g.K.Sink.written c.hear.new.sink) (g.H.Handler.told c.args.handler.now c.hear.new.handler)
    c.in-Ok.ensures.ok c.hear.ensures.says

pub returns-in-Err-clause-listens : goal.returns-in-Err-clause-listens
returns-in-Err-clause-listens g c =
    not_ready (g.R.Source.left c.args.source.now) (g.K.Sink.written c.args.sink.now) (g.K.Sink.written c.write_all.new.sink)
    (g.H.Handler.told c.args.handler.now c.args.handler.now) (g.met.H.Handler.nothing c.args.handler.now) c.in-Err.ensures.err
