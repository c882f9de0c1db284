use Rattle.std.proofs.Common.{◌≡◌, ◌<◌, arith, length, rules, subst, sym}
use Rattle.std.proofs.lemmas.Bool.Decides.{nat_tests}
use Rattle.sv_ctl.proofs.TalkLemmas.Lines.{has_command, has_quit, no_words}
use Rattle.sv_ctl.specs.Talk.Conversation.{words_said}
use Rattle.sv_ctl.specs.Talk.Doings.{Comes}
use Rattle.sv_ctl.specs.declared.talk.course.Course.{Course}
use Rattle.sv_ctl.proofs.talk.talking.run_words.Goals as goal

pub returns-then-is_empty-clause-comes : goal.returns-then-is_empty-clause-comes
returns-then-is_empty-clause-comes g c next =
    let none : length c.args.words.now ≡ 0 = grind (arith, nat_tests) in
    no_words c.args.server.now (g.D.Dial.told c.args.dial.now) (g.K.Sink.written c.args.out.now) c.args.words.now c.args.status next none

pub returns-then-is_quit-clause-comes : goal.returns-then-is_quit-clause-comes
returns-then-is_quit-clause-comes g c next =
    has_quit c.args.server.now (g.D.Dial.told c.args.dial.now) (g.K.Sink.written c.args.out.now) c.args.words.now c.args.status next
    (search rules)

pub returns-clause-comes : goal.returns-clause-comes
returns-clause-comes g c next =
    let some : 0 < length c.args.words.now = grind (arith, nat_tests) in
    subst (λ (course : Course). Comes c.args.server.now (g.D.Dial.told c.args.dial.now) (g.D.Dial.told c.run_command.new.dial)
    (g.K.Sink.written c.args.out.now) (g.K.Sink.written c.run_command.new.out)
    (words_said c.args.server.now.client.url c.args.words.now c.args.status next) next course)
    (sym c.settled.ensures)
    (has_command c.args.server.now (g.D.Dial.told c.args.dial.now) (g.D.Dial.told c.run_command.new.dial)
    (g.K.Sink.written c.args.out.now) (g.K.Sink.written c.run_command.new.out) c.args.words.now c.args.status c.run_command.result next
    some (search rules) c.run_command.ensures.comes)
