use Rattle.std.proofs.Common.{◌∙◌, ap}
use Rattle.sv_ctl.proofs.Answering.{refuses_by}
use Rattle.sv_ctl.specs.declared.talk.told.Told.{Told}
use Rattle.sv_ctl.proofs.controlling.refuse.Goals as goal

pub returns-in-Ok-clause-refuses : goal.returns-in-Ok-clause-refuses
returns-in-Ok-clause-refuses g c =
    refuses_by c.args.refusal.now (g.K.Sink.written c.args.out.now) (g.K.Sink.written c.say.new.out) c.as_slice.result.now
    c.in-Ok.told.course c.say.result c.in-Ok.ensures.sayable (ap (λ (t : Told). t.course) c.in-Ok.ensures.told)
    (c.as_slice.ensures ∙ ap (λ (t : Told). t.text) c.in-Ok.ensures.told) c.say.ensures.says
