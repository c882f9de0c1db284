use Rattle.std.proofs.Common.{ap, ◌∙◌}
use Rattle.std.specs.Prelude.{is_some}
use Rattle.sv_core.proofs.Standing.{awaits_is}
use Rattle.sv_core.proofs.machine.Machine.awaits.Goals as goal

pub returns-clause-awaits : goal.returns-clause-awaits
returns-clause-awaits c = λ m s. c.is_some.ensures ∙ ap is_some c.asked_by.ensures ∙ awaits_is c.args.self.now m s
