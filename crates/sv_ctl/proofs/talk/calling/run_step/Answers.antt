use Rattle.std.proofs.Common.{ℕ, List, subst}
use Rattle.sv_ctl.proofs.TalkLemmas.Calls.{stepped}
use Rattle.sv_ctl.specs.Talk.Answers.{told_of}
use Rattle.sv_ctl.specs.Talk.Doings.{Shows}
use Rattle.sv_xmlcall.specs.Trees.{call_view}
use Rattle.sv_ctl.proofs.talk.calling.run_step.Goals as goal

pub returns-clause-comes : goal.returns-clause-comes
returns-clause-comes g c next =
    stepped c.args.server.now (g.D.Dial.told c.args.dial.now) (g.D.Dial.told c.ask_server-answer.new.dial)
    (g.K.Sink.written c.args.out.now) (g.K.Sink.written c.show.new.out) (call_view c.args.step.now.call) c.ask_server-answer.result
    (told_of c.args.server.now.client.url c.args.step.now.line c.args.status) c.show.result c.ask_server-answer.ensures.calls
    (subst (λ (url : List ℕ). Shows c.ask_server-answer.result (g.K.Sink.written c.args.out.now) (g.K.Sink.written c.show.new.out)
    (told_of url c.args.step.now.line c.args.status) c.show.result) c.as_str.ensures c.show.ensures.shows)
    next
