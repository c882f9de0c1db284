use Rattle.std.proofs.Common.{rules}
use Rattle.sv_ctl.proofs.TalkLemmas.Calls.{command_unknown}
use Rattle.sv_ctl.proofs.talk.calling.run_command.Goals as goal

pub returns-in-Ok-None-clause-comes : goal.returns-in-Ok-None-clause-comes
returns-in-Ok-None-clause-comes g c =
    command_unknown c.args.server.now (g.D.Dial.told c.args.dial.now) (g.D.Dial.told c.args.dial.now) (g.K.Sink.written c.args.out.now)
    (g.K.Sink.written c.refuse_words.new.out) c.args.words.now c.refuse_words.result (search rules)
    (c.refuse_words.ensures.comes c.args.server.now (g.D.Dial.told c.args.dial.now))
