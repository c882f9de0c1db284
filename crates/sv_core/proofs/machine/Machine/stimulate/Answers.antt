use Rattle.sv_core.proofs.Standing.{gone_on, left_in_stimulus}
use Rattle.sv_core.specs.Turn.{after_stimulus}
use Rattle.sv_core.proofs.machine.Machine.stimulate.Goals as goal

pub returns-in-Some-clause-turn : goal.returns-in-Some-clause-turn
returns-in-Some-clause-turn c = λ older w s.
    left_in_stimulus c.apply.new.self older _ c.in_ok-paused.field-0 c.in-Some.paused c.in-Some.is
    (c.in_ok-paused.ensures.applies older w after_stimulus s)

pub returns-in_ok-after_stimulus-in-None-clause-turn : goal.returns-in_ok-after_stimulus-in-None-clause-turn
returns-in_ok-after_stimulus-in-None-clause-turn c = λ older w s.
    let at = c.in_ok-paused.ensures.applies older w after_stimulus s in
    gone_on c.apply.new.self c.after_stimulus.new.self older _ c.in_ok-paused.field-0 after_stimulus _ c.in-None.is at
    (c.in_ok-after_stimulus-in-None.ensures.rest older at.world at.shows)
