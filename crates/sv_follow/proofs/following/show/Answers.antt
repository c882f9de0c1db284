use Rattle.std.proofs.Common.{ℕ, List, subst}
use Rattle.sv_follow.proofs.Watching.{shows, shows_nothing}
use Rattle.sv_ctl.specs.Talk.Doings.{Prints}
use Rattle.sv_follow.proofs.following.show.Goals as goal

pub returns-in-Ok-clause-shows : goal.returns-in-Ok-clause-shows
returns-in-Ok-clause-shows g c =
    shows c.args.answer.now (g.K.Sink.written c.args.out.now) (g.K.Sink.written c.say.new.out) c.args.url.now c.args.name.now
    c.args.follower.now c.poll_told.new.follower c.in-Ok.told c.say.result c.in-Ok.ensures.told c.in-Ok.ensures.next c.in-Ok.ensures.known
    (subst (λ (text : List ℕ). Prints (g.K.Sink.written c.args.out.now) (g.K.Sink.written c.say.new.out) text c.in-Ok.told.course c.say.result)
    c.as_slice.ensures c.say.ensures.prints)

pub returns-in-Err-clause-shows : goal.returns-in-Err-clause-shows
returns-in-Err-clause-shows g c =
    shows_nothing c.args.answer.now (g.K.Sink.written c.args.out.now) c.args.url.now c.args.name.now c.args.follower.now
    c.poll_told.new.follower
