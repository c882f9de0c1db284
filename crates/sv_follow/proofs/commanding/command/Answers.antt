use Rattle.sv_ctl.proofs.Answering.{lost_by}
use Rattle.sv_follow.proofs.CommandLemmas.{follows_log, follows_none, lost_in_two}
use Rattle.sv_follow.proofs.commanding.command.Goals as goal

pub returns-in-Some-clause-commands : goal.returns-in-Some-clause-commands
returns-in-Some-clause-commands g c =
    follows_log c.args.words.now c.parted.result.0.now c.parted.result.1.now c.args.host.now (g.S.Shelf.files c.args.shelf.now)
    c.in-Some.name.now c.in-Some.stream (g.D.Dial.told c.args.dial.now) (g.D.Dial.told c.follow_from.new.dial)
    (g.R.Source.left c.args.input.now) (g.K.Sink.written c.args.out.now) (g.K.Sink.written c.follow_from.new.out)
    c.follow_from.result c.number.result c.parted.ensures.options c.parted.ensures.command c.in-Some.ensures
    c.follow_from.ensures.comes c.number.ensures

pub returns-in-None-clause-commands : goal.returns-in-None-clause-commands
returns-in-None-clause-commands g c =
    follows_none c.args.words.now c.parted.result.1.now c.args.host.now (g.S.Shelf.files c.args.shelf.now)
    (g.D.Dial.told c.args.dial.now) (g.D.Dial.told c.control.new.dial) (g.R.Source.left c.args.input.now)
    (g.R.Source.left c.control.new.input) (g.K.Sink.written c.args.out.now) (g.K.Sink.written c.control.new.out)
    c.control.result c.parted.ensures.command c.in-None.ensures c.control.ensures.controls

pub returns-in-Some-clause-lost : goal.returns-in-Some-clause-lost
returns-in-Some-clause-lost g c = λ is.
    lost_in_two (g.S.Shelf.faults c.args.shelf.now) (g.S.Shelf.faults c.follow_from.new.shelf) (g.D.Dial.faults c.args.dial.now)
    (g.D.Dial.faults c.follow_from.new.dial) (g.R.Source.faults c.args.input.now)
    (c.follow_from.ensures.lost (lost_by c.follow_from.result c.number.result c.number.ensures is))
