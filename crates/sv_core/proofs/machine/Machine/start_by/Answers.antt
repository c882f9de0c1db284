use Rattle.std.proofs.Common.{Option, None, ap}
use Rattle.sv_child.specs.declared.step.ChildDeed.{ChildDeed}
use Rattle.sv_core.proofs.Left.{made_at, starting_none}
use Rattle.sv_core.proofs.Shown.{at_same}
use Rattle.sv_core.specs.Left.{starting}
use Rattle.sv_core.specs.Requests.{starts_by}
use Rattle.sv_core.proofs.machine.Machine.start_by.Goals as goal

pub returns-in-None-clause-starts : goal.returns-in-None-clause-starts
returns-in-None-clause-starts c = λ older w k s.
    let link = c.args.link in
    at_same c.args.self.now older _ (k w) _ (ap (λ (deed : Option ChildDeed). starts_by link deed c.args.child w k) c.in-None.is)
    (made_at c.args.self.now older w k (starting link None k) (starting_none link k) s)
