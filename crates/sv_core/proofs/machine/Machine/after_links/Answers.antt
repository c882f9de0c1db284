use Rattle.sv_core.proofs.Standing.{done_there}
use Rattle.sv_core.proofs.machine.Machine.after_links.Goals as goal

pub returns-clause-rest : goal.returns-clause-rest
returns-clause-rest c = λ older w s.
    let followed = c.in_ok-follow_plan.ensures.follows older w s in
    done_there c.halt.new.self older _ (c.in_ok-halt.ensures.halts older _ (c.in_ok-hand_out.ensures.hands older _ followed))
