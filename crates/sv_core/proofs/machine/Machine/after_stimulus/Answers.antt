use Rattle.sv_children.specs.declared.news.News.TheVariants.{Time}
use Rattle.sv_core.proofs.Resting.{rested}
use Rattle.sv_core.proofs.Shown.{at_same}
use Rattle.sv_core.proofs.Standing.{gone_on, left_in_pass}
use Rattle.sv_core.proofs.Sweeps.{all_swept}
use Rattle.sv_core.specs.Turn.{after_pass}
use Rattle.sv_core.proofs.machine.Machine.after_stimulus.Goals as goal

pub returns-then-rests-clause-rest : goal.returns-then-rests-clause-rest
returns-then-rests-clause-rest c = λ older w s.
    let now = c.in_ok-tick.ensures.ticked older w s in
    rested c.tick.new.self older _ (c.rests.ensures.place c.if-rests.true) (c.rests.ensures.rests c.if-rests.true older _ now) now

pub returns-in-Some-clause-rest : goal.returns-in-Some-clause-rest
returns-in-Some-clause-rest c = λ older w s.
    let now = c.in_ok-tick.ensures.ticked older w s in
    at_same _ older _ _ _ (all_swept c.tick.new.self older Time c.len-all.result _ after_pass now c.len-all.ensures)
    (left_in_pass c.sweep_over.new.self older _ c.in_ok-paused.field-0 c.in-Some.paused c.in-Some.is
    (c.in_ok-paused.ensures.sweeps older _ after_pass now))

pub returns-in_ok-after_pass-in-None-clause-rest : goal.returns-in_ok-after_pass-in-None-clause-rest
returns-in_ok-after_pass-in-None-clause-rest c = λ older w s.
    let now = c.in_ok-tick.ensures.ticked older w s in
    let at = c.in_ok-paused.ensures.sweeps older _ after_pass now in
    at_same _ older _ _ _ (all_swept c.tick.new.self older Time c.len-all.result _ after_pass now c.len-all.ensures)
    (gone_on c.sweep_over.new.self c.after_pass.new.self older _ c.in_ok-paused.field-0 after_pass _ c.in-None.is at
    (c.in_ok-after_pass-in-None.ensures.rest older at.world at.shows))
