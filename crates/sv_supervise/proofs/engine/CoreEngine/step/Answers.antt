use Rattle.sv_supervise.proofs.engine.CoreEngine.step.Goals as goal

pub returns-clause-next : goal.returns-clause-next
returns-clause-next c = c.step.ensures.next

pub returns-clause-orders : goal.returns-clause-orders
returns-clause-orders c = c.step.ensures.orders
