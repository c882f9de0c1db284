use Rattle.sv_core.proofs.Sweeps.{sweep_kept, sweep_over}
use Rattle.sv_core.proofs.machine.Machine.sweep_over.Goals as goal

pub returns-in-Some-clause-sweeps : goal.returns-in-Some-clause-sweeps
returns-in-Some-clause-sweeps c = λ older w k s.
    sweep_kept c.sweep.new.self older c.args.news c.args.to _ c.in_ok-stop.field-0 c.in-Some.stop k c.in-Some.is
    (c.in_ok-stop.ensures.sweeps older w k s)

pub returns-in-None-clause-sweeps : goal.returns-in-None-clause-sweeps
returns-in-None-clause-sweeps c = λ older w k s.
    sweep_over c.sweep.new.self older c.args.news c.args.to _ c.in_ok-stop.field-0 k c.in-None.is
    (c.in_ok-stop.ensures.sweeps older w k s)
