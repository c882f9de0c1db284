use Rattle.sv_follow.proofs.CommandLemmas.{from_refusal, from_server}
use Rattle.sv_follow.proofs.commanding.follow_from.Goals as goal

pub returns-in-Ok-clause-comes : goal.returns-in-Ok-clause-comes
returns-in-Ok-clause-comes g c =
    from_server c.args.options.now c.args.host.now (g.S.Shelf.files c.args.shelf.now) c.args.name.now c.args.stream
    (g.D.Dial.told c.args.dial.now) (g.D.Dial.told c.watch.new.dial) (g.K.Sink.written c.args.out.now)
    (g.K.Sink.written c.watch.new.out) c.in-Ok.server c.watch.result c.in-Ok.ensures.serves c.watch.ensures.comes

pub returns-in-Err-clause-comes : goal.returns-in-Err-clause-comes
returns-in-Err-clause-comes g c =
    from_refusal c.args.options.now c.args.host.now (g.S.Shelf.files c.args.shelf.now) c.args.name.now c.args.stream
    (g.D.Dial.told c.args.dial.now) (g.K.Sink.written c.args.out.now) (g.K.Sink.written c.refuse.new.out) c.in-Err.refusal
    c.refuse.result c.in-Err.ensures.serves c.refuse.ensures.refuses
