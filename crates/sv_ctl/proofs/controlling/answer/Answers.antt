use Rattle.sv_ctl.proofs.Answering.{comes_to_refusal, comes_to_server}
use Rattle.sv_ctl.proofs.controlling.answer.Goals as goal

pub returns-in-Ok-clause-comes : goal.returns-in-Ok-clause-comes
returns-in-Ok-clause-comes g c =
    comes_to_server c.args.words.now c.parted.result.0.now c.parted.result.1.now c.args.host.now (g.S.Shelf.files c.args.shelf.now)
    (g.D.Dial.told c.args.dial.now) (g.D.Dial.told c.converse.new.dial) (g.R.Source.left c.args.input.now)
    (g.R.Source.left c.converse.new.input) (g.K.Sink.written c.args.out.now) (g.K.Sink.written c.converse.new.out) c.in-Ok.server
    c.converse.result c.parted.ensures.options c.parted.ensures.command c.in-Ok.ensures.serves c.converse.ensures.converses

pub returns-in-Err-clause-comes : goal.returns-in-Err-clause-comes
returns-in-Err-clause-comes g c =
    comes_to_refusal c.args.words.now c.parted.result.0.now c.args.host.now (g.S.Shelf.files c.args.shelf.now)
    (g.D.Dial.told c.args.dial.now) (g.R.Source.left c.args.input.now) (g.K.Sink.written c.args.out.now)
    (g.K.Sink.written c.refuse.new.out) c.in-Err.refusal c.refuse.result c.parted.ensures.options c.in-Err.ensures.serves
    c.refuse.ensures.refuses
