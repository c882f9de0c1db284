use Rattle.std.proofs.Common.{◌∙◌}
use Rattle.sv_core.proofs.Standing.{accepts_is}
use Rattle.sv_out.specs.declared.input.Input.TheVariants.{Tick}
use Rattle.sv_core.proofs.machine.Machine.accepts_tick.Goals as goal

pub returns-clause-accepts : goal.returns-clause-accepts
returns-clause-accepts c = λ m at s. c.fits_tick.ensures at ∙ accepts_is c.args.self.now m (Tick at) s
