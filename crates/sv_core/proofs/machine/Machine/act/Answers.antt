use Rattle.std.proofs.Common.{Option, ap}
use Rattle.sv_child.specs.declared.step.ChildDeed.{ChildDeed}
use Rattle.sv_core.proofs.Shown.{at_same, done_at}
use Rattle.sv_core.specs.Sweeps.{does}
use Rattle.sv_core.proofs.machine.Machine.act.Goals as goal

pub returns-in-None-clause-does : goal.returns-in-None-clause-does
returns-in-None-clause-does c = λ older w k s.
    at_same c.args.self.now older _ (k w) _ (ap (λ (deed : Option ChildDeed). does deed c.args.child w k) c.in-None.is)
    (done_at c.args.self.now older w k s)
