use Rattle.std.proofs.Common.{◌∙◌}
use Rattle.sv_core.proofs.Standing.{halted_is}
use Rattle.sv_core.proofs.machine.Machine.halted.Goals as goal

pub returns-clause-halted : goal.returns-clause-halted
returns-clause-halted c = λ m s. c.has_halted.ensures ∙ halted_is c.args.self.now m s
