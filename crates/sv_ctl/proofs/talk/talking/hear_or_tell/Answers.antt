use Rattle.std.proofs.Common.{◌≡◌, codes}
use Rattle.sv_ctl.proofs.TalkLemmas.Calls.{goes_as}
use Rattle.sv_ctl.proofs.TalkLemmas.Hearing.{told_failing}
use Rattle.sv_ctl.specs.declared.talk.course.Course.TheVariants.{Lost, On}
use Rattle.sv_ctl.proofs.talk.talking.hear_or_tell.Goals as goal

pub returns-in-Err-clause-talks : goal.returns-in-Err-clause-talks
returns-in-Err-clause-talks g c =
    told_failing c.args.server.now (g.D.Dial.told c.args.dial.now) (g.D.Dial.told c.hear_all.new.dial)
    (g.R.Source.left c.args.input.now) (g.R.Source.left c.hear_all.new.input) (g.K.Sink.written c.args.out.now)
    (g.K.Sink.written c.hear_all.new.out) (g.K.Sink.written c.say.new.out) c.args.status c.in-Err.field-0 c.say.result
    c.in-Err.ensures.hears c.say.ensures.prints
    (λ so_far is. let never : Lost ≡ On so_far = goes_as (g.K.Sink.written c.hear_all.new.out) (g.K.Sink.written c.say.new.out)
    (codes "Error: the input failed\n") Lost c.say.result so_far c.say.ensures.says is in cc)
