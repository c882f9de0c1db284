use Rattle.std.proofs.Common.{◌∙◌}
use Rattle.sv_core.proofs.Standing.{accepts_is}
use Rattle.sv_core.proofs.machine.Machine.accepts.Goals as goal

pub returns-clause-accepts : goal.returns-clause-accepts
returns-clause-accepts c = λ m s. c.is_fitting.ensures ∙ accepts_is c.args.self.now m c.args.input.now s
