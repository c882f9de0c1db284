use Rattle.sv_core.proofs.Standing.{gone_on_links, left_in_links}
use Rattle.sv_core.specs.Turn.{after_links}
use Rattle.sv_core.proofs.machine.Machine.go_on_in_links.Goals as goal

pub returns-in-Some-clause-turn : goal.returns-in-Some-clause-turn
returns-in-Some-clause-turn c = λ older w s.
    left_in_links c.go_on_serving.new.self older _ c.in_ok-serving.field-0 c.in-Some.serving c.in-Some.is
    (c.in_ok-serving.ensures.goes older w after_links s)

pub returns-in_ok-after_links-in-None-clause-turn : goal.returns-in_ok-after_links-in-None-clause-turn
returns-in_ok-after_links-in-None-clause-turn c = λ older w s.
    let at = c.in_ok-serving.ensures.goes older w after_links s in
    gone_on_links c.go_on_serving.new.self c.after_links.new.self older _ c.in_ok-serving.field-0 after_links _ c.in-None.is at
    (c.in_ok-after_links-in-None.ensures.rest older at.world at.shows)
