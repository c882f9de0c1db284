use Rattle.sv_supervise.proofs.engine.CoreEngine.accepts.Goals as goal

pub returns-clause-accepts : goal.returns-clause-accepts
returns-clause-accepts c = c.accepts.ensures.accepts

pub returns-clause-fits : goal.returns-clause-fits
returns-clause-fits c = c.accepts.ensures.fits
