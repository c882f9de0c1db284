use Rattle.std.proofs.Common.{◌≡◌, ◌==◌, ℕ, List, false, true, arith, subst}
use Rattle.std.proofs.lemmas.Bool.Decides.{nat_tests}
use Rattle.sv_commands.specs.declared.status.Status.{Status}
use Rattle.sv_ctl.proofs.TalkLemmas.Lines.{byte_kept, byte_line}
use Rattle.sv_ctl.specs.Talk.Conversation.{line_said, prompted}
use Rattle.sv_ctl.specs.Talk.Doings.{Comes}
use Rattle.sv_ctl.proofs.talk.talking.hear_byte.Goals as goal

pub returns-then-byte-eq10-clause-comes : goal.returns-then-byte-eq10-clause-comes
returns-then-byte-eq10-clause-comes g c end rest =
    let is : (c.args.byte == 10) ≡ true = grind (arith, nat_tests) in
    byte_line c.args.server.now (g.D.Dial.told c.args.dial.now) (g.D.Dial.told c.take_line-course.new.dial)
    (g.K.Sink.written c.args.out.now) (g.K.Sink.written c.take_line-course.new.out) end c.args.line.now.items c.clear.new.self.items rest
    c.args.byte c.args.status c.take_line-course.result is c.clear.ensures.items
    (λ next. subst (λ (line : List ℕ). Comes c.args.server.now (g.D.Dial.told c.args.dial.now) (g.D.Dial.told c.take_line-course.new.dial)
    (g.K.Sink.written c.args.out.now) (g.K.Sink.written c.take_line-course.new.out)
    (line_said c.args.server.now.client.url line c.args.status (prompted next)) next c.take_line-course.result)
    c.as_slice.ensures.value (c.take_line-course.ensures.comes next))

pub returns-in-Ok-clause-comes : goal.returns-in-Ok-clause-comes
returns-in-Ok-clause-comes g c end rest =
    let is : (c.args.byte == 10) ≡ false = grind (arith, nat_tests) in
    byte_kept c.args.server.now (g.D.Dial.told c.args.dial.now) (g.K.Sink.written c.args.out.now) end c.args.line.now.items
    c.push.new.self.items rest c.args.byte c.args.status is c.in-Ok.ensures.items
