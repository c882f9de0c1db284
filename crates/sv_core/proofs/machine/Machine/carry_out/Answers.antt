use Rattle.std.proofs.Common.{ap}
use Rattle.sv_child.specs.declared.step.ChildDeed.{ChildDeed}
use Rattle.sv_core.proofs.Shown.{at_same, done_at}
use Rattle.sv_core.specs.Moves.{kills}
use Rattle.sv_core.specs.Sweeps.{carries_out}
use Rattle.sv_core.proofs.machine.Machine.carry_out.Goals as goal

pub returns-in_ok-kill-in-Kill-clause-does : goal.returns-in_ok-kill-in-Kill-clause-does
returns-in_ok-kill-in-Kill-clause-does c = λ older w k s.
    let after = kills c.args.child c.in-Kill.signal c.in-Kill.group w in
    at_same c.kill.new.self older _ (k after) _ (ap (λ (deed : ChildDeed). carries_out deed c.args.child w k) c.in-Kill.is)
    (done_at c.kill.new.self older after k (c.in_ok-kill-in-Kill.ensures.kills older w s))
