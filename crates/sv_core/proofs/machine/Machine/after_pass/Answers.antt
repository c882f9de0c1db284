use Rattle.sv_core.proofs.Standing.{gone_on_links, left_in_links}
use Rattle.sv_core.specs.Turn.{after_links}
use Rattle.sv_core.proofs.machine.Machine.after_pass.Goals as goal

pub returns-in-Some-clause-rest : goal.returns-in-Some-clause-rest
returns-in-Some-clause-rest c = λ older w s.
    left_in_links c.serve_links.new.self older _ c.in_ok-serving.field-0 c.in-Some.serving c.in-Some.is
    (c.in_ok-serving.ensures.serves older w after_links s)

pub returns-in_ok-after_links-in-None-clause-rest : goal.returns-in_ok-after_links-in-None-clause-rest
returns-in_ok-after_links-in-None-clause-rest c = λ older w s.
    let at = c.in_ok-serving.ensures.serves older w after_links s in
    gone_on_links c.serve_links.new.self c.after_links.new.self older _ c.in_ok-serving.field-0 after_links _ c.in-None.is at
    (c.in_ok-after_links-in-None.ensures.rest older at.world at.shows)
