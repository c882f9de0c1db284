use Rattle.sv_loop.proofs.Generates.{generates, refuses}
use Rattle.sv_loop.proofs.replaying.replay.Goals as goal

pub returns-in-Some-clause-generates : goal.returns-in-Some-clause-generates
returns-in-Some-clause-generates g c = λ number said.
    generates c.args.words.now number c.in-Some.number c.generate.result c.number-in-Some.result
    (g.R.Source.left c.args.source.now) (g.K.Sink.written c.args.sink.now) (g.K.Sink.written c.generate.new.sink)
    said c.in-Some.ensures.some c.number-in-Some.ensures c.generate.ensures.tells

pub returns-in-None-clause-refused : goal.returns-in-None-clause-refused
returns-in-None-clause-refused g c = λ other none.
    refuses c.tell.result c.number-in-None.result
    (g.R.Source.left c.args.source.now) (g.K.Sink.written c.args.sink.now) (g.K.Sink.written c.tell.new.sink)
    c.number-in-None.ensures c.tell.ensures.tells
