use Rattle.sv_loop.proofs.OneReading.{good_is_done}
use Rattle.sv_loop.proofs.Refusals.{unconfigured_is_told}
use Rattle.sv_loop.proofs.Says.{writes_deeds}
use Rattle.sv_loop.proofs.Table.{table}
use Rattle.sv_loop.proofs.replaying.run.Goals as goal

pub returns-clause-replays : goal.returns-clause-replays
returns-clause-replays g c =
    table c.read_all-ending.result c.read_all-ending.new.run (g.R.Source.left c.args.source.now) (g.R.Source.left c.read_all-ending.new.source)
    (g.K.Sink.written c.args.sink.now) (g.K.Sink.written c.read_all-ending.new.sink) (g.K.Sink.written c.close.new.sink) c.close.result
    c.read_all-ending.ensures.ended c.close.ensures.tells

pub returns-clause-deeds : goal.returns-clause-deeds
returns-clause-deeds g c = λ whole.
    let row = table c.read_all-ending.result c.read_all-ending.new.run (g.R.Source.left c.args.source.now) (g.R.Source.left c.read_all-ending.new.source)
    (g.K.Sink.written c.args.sink.now) (g.K.Sink.written c.read_all-ending.new.sink) (g.K.Sink.written c.close.new.sink) c.close.result
    c.read_all-ending.ensures.ended c.close.ensures.tells in
    writes_deeds (g.R.Source.left c.args.source.now) (g.R.Source.left c.read_all-ending.new.source) (g.K.Sink.written c.args.sink.now) (g.K.Sink.written c.close.new.sink)
    (rw whole at row)

pub returns-clause-complete : goal.returns-clause-complete
returns-clause-complete g c = λ good.
    let row = table c.read_all-ending.result c.read_all-ending.new.run (g.R.Source.left c.args.source.now) (g.R.Source.left c.read_all-ending.new.source)
    (g.K.Sink.written c.args.sink.now) (g.K.Sink.written c.read_all-ending.new.sink) (g.K.Sink.written c.close.new.sink) c.close.result
    c.read_all-ending.ensures.ended c.close.ensures.tells in
    good_is_done (g.R.Source.left c.args.source.now) (g.R.Source.left c.read_all-ending.new.source) (g.K.Sink.written c.args.sink.now) (g.K.Sink.written c.close.new.sink)
    c.close.result good row

pub returns-clause-unconfigured : goal.returns-clause-unconfigured
returns-clause-unconfigured g c = λ holds.
    let row = table c.read_all-ending.result c.read_all-ending.new.run (g.R.Source.left c.args.source.now) (g.R.Source.left c.read_all-ending.new.source)
    (g.K.Sink.written c.args.sink.now) (g.K.Sink.written c.read_all-ending.new.sink) (g.K.Sink.written c.close.new.sink) c.close.result
    c.read_all-ending.ensures.ended c.close.ensures.tells in
    unconfigured_is_told (g.R.Source.left c.args.source.now) (g.R.Source.left c.read_all-ending.new.source) (g.K.Sink.written c.args.sink.now) (g.K.Sink.written c.close.new.sink)
    c.close.result holds row
