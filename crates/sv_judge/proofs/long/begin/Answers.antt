use Rattle.sv_core.specs.MachineState.{opening}
use Rattle.sv_judge.proofs.long.begin.Goals as goal

pub returns-in-Ok : goal.returns-in-Ok
returns-in-Ok c =
    c.running.ensures (opening c.args.config c.args.sizes c.args.host.now) (rw c.into_vec.ensures.items at c.in-Ok.ensures)
