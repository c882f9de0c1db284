use Rattle.std.proofs.Common.{ℕ, List, rules, subst}
use Rattle.sv_ctl.proofs.TalkLemmas.Lines.{line_unknown, line_words}
use Rattle.sv_ctl.specs.Talk.Conversation.{words_said}
use Rattle.sv_ctl.specs.Talk.Doings.{Comes}
use Rattle.sv_ctl.proofs.talk.talking.run_line.Goals as goal

pub returns-in-Ok-Some-clause-comes : goal.returns-in-Ok-Some-clause-comes
returns-in-Ok-Some-clause-comes g c next =
    line_words c.args.server.now (g.D.Dial.told c.args.dial.now) (g.D.Dial.told c.run_words.new.dial) (g.K.Sink.written c.args.out.now)
    (g.K.Sink.written c.run_words.new.out) c.args.line.now c.in-Ok-Some.words c.args.status c.run_words.result next (search rules)
    (subst (λ (words : List (List ℕ)). Comes c.args.server.now (g.D.Dial.told c.args.dial.now) (g.D.Dial.told c.run_words.new.dial)
    (g.K.Sink.written c.args.out.now) (g.K.Sink.written c.run_words.new.out)
    (words_said c.args.server.now.client.url words c.args.status next) next c.run_words.result)
    c.as_slice.ensures (c.run_words.ensures.comes next))

pub returns-in-Ok-None-clause-comes : goal.returns-in-Ok-None-clause-comes
returns-in-Ok-None-clause-comes g c next =
    line_unknown c.args.server.now (g.D.Dial.told c.args.dial.now) (g.D.Dial.told c.args.dial.now) (g.K.Sink.written c.args.out.now)
    (g.K.Sink.written c.say_unknown.new.out) c.args.line.now c.args.status c.say_unknown.result next (search rules)
    (c.say_unknown.ensures.prints c.args.server.now (g.D.Dial.told c.args.dial.now) next)
