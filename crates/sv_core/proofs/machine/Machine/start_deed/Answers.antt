use Rattle.std.proofs.Common.{None, ap}
use Rattle.sv_child.specs.declared.step.ChildDeed.{ChildDeed}
use Rattle.sv_core.proofs.Left.{made_at, starting_none}
use Rattle.sv_core.proofs.Shown.{at_same}
use Rattle.sv_core.specs.Left.{starting}
use Rattle.sv_core.specs.Requests.{starts_deed}
use Rattle.sv_core.proofs.machine.Machine.start_deed.Goals as goal

pub returns-in-Kill-clause-starts : goal.returns-in-Kill-clause-starts
returns-in-Kill-clause-starts c = λ older w k s.
    let link = c.args.link in
    at_same c.args.self.now older _ (k w) _ (ap (λ (deed : ChildDeed). starts_deed link deed c.args.child w k) c.in-Kill.is)
    (made_at c.args.self.now older w k (starting link None k) (starting_none link k) s)
