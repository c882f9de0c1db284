use Rattle.std.proofs.Common.{◌≡◌, length, arith}
use Rattle.std.proofs.lemmas.Bool.Decides.{nat_tests}
use Rattle.sv_ctl.proofs.TalkLemmas.Lines.{bare_end}
use Rattle.sv_ctl.proofs.talk.talking.finish.Goals as goal

pub returns-then-is_empty-clause-comes : goal.returns-then-is_empty-clause-comes
returns-then-is_empty-clause-comes g c =
    let none : length c.args.line.now ≡ 0 = grind (arith, nat_tests) in
    bare_end c.args.server.now (g.D.Dial.told c.args.dial.now) (g.K.Sink.written c.args.out.now) c.args.line.now c.args.status none
