use Rattle.sv_follow.proofs.Watching.{polled}
use Rattle.sv_ctl.proofs.TalkLemmas.Doings.{nothing_printed}
use Rattle.sv_follow.specs.Following.{poll_said}
use Rattle.sv_xmlcall.specs.Trees.{call_view}
use Rattle.sv_follow.proofs.following.poll.Goals as goal

pub returns-clause-comes : goal.returns-clause-comes
returns-clause-comes g c next =
    polled c.args.server.now (g.D.Dial.told c.args.dial.now) (g.D.Dial.told c.ask_server-answer.new.dial)
    (g.K.Sink.written c.args.out.now) (g.K.Sink.written c.show.new.out) c.as_str.result.now c.args.name.now c.args.stream
    c.args.follower.now c.show.new.follower (call_view c.in-Ok.call) c.ask_server-answer.result c.show.result c.in-Ok.ensures
    c.as_str.ensures c.ask_server-answer.ensures.calls c.show.ensures.shows next

pub returns-in_default-clause-comes : goal.returns-in_default-clause-comes
returns-in_default-clause-comes g c = λ next.
    nothing_printed c.args.server.now (g.D.Dial.told c.args.dial.now) (g.K.Sink.written c.args.out.now)
    (poll_said c.args.server.now.client.url c.args.name.now c.args.stream c.args.follower.now next)
