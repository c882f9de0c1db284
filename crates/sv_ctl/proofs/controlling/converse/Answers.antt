use Rattle.std.proofs.Common.{◌≡◌, ◌<◌, arith, length}
use Rattle.std.proofs.lemmas.Bool.Decides.{nat_tests}
use Rattle.sv_ctl.proofs.Answering.{converse_all, converse_one}
use Rattle.sv_ctl.proofs.controlling.converse.Goals as goal

pub returns-then-is_empty-clause-converses : goal.returns-then-is_empty-clause-converses
returns-then-is_empty-clause-converses g c =
    let none : length c.args.command.now ≡ 0 = grind (arith, nat_tests) in
    converse_all c.args.server.now c.args.command.now (g.D.Dial.told c.args.dial.now) (g.D.Dial.told c.talk.new.dial)
    (g.R.Source.left c.args.input.now) (g.R.Source.left c.talk.new.input) (g.K.Sink.written c.args.out.now)
    (g.K.Sink.written c.talk.new.out) c.talk.result none c.talk.ensures.talks

pub returns-clause-converses : goal.returns-clause-converses
returns-clause-converses g c =
    let some : 0 < length c.args.command.now = grind (arith, nat_tests) in
    converse_one c.args.server.now c.args.command.now (g.D.Dial.told c.args.dial.now) (g.D.Dial.told c.run_command.new.dial)
    (g.R.Source.left c.args.input.now) (g.K.Sink.written c.args.out.now) (g.K.Sink.written c.run_command.new.out) c.run_command.result
    some c.run_command.ensures.comes
