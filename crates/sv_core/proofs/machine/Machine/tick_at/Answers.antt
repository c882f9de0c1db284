use Rattle.sv_core.proofs.Standing.{fitting_accepted, step_stands, step_orders}
use Rattle.sv_out.specs.declared.input.Input.TheVariants.{Tick}
use Rattle.sv_core.proofs.machine.Machine.tick_at.Goals as goal

pub returns-in-Ok-clause-next : goal.returns-in-Ok-clause-next
returns-in-Ok-clause-next c = λ m s.
    step_stands c.args.self.now _ m (Tick c.args.at) _ s (fitting_accepted c.args.self.now m (Tick c.args.at) s c.requires) c.in-Ok.ensures

pub returns-in-Ok-clause-orders : goal.returns-in-Ok-clause-orders
returns-in-Ok-clause-orders c = λ m s. step_orders c.args.self.now _ m (Tick c.args.at) _ s c.in-Ok.ensures
