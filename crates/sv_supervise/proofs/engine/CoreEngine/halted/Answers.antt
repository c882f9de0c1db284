use Rattle.sv_supervise.proofs.engine.CoreEngine.halted.Goals as goal

pub returns : goal.returns
returns c = c.halted.ensures.halted
