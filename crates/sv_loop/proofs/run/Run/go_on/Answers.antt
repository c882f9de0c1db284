use Rattle.std.proofs.Common.{refl}
use Rattle.std.proofs.lemmas.Result.{err_from_is_err_and}
use Rattle.sv_loop.proofs.RunSteps.{stood, stopped_at_write}
use Rattle.sv_loop.proofs.run.Run.go_on.Goals as goal

pub returns-clause-goes_on : goal.returns-clause-goes_on
returns-clause-goes_on g c = λ lines at given bytes text holds leads.
    stood c.args.self.now.lines _ lines at given bytes text c.args.self.now.place c.args.self.now.orders.items _ _ holds leads
    refl refl c.clear.ensures.items (rw c.as_slice.ensures.value at c.in_ok-write_orders.ensures.ok)

pub returns-in_err-write_orders-clause-stops : goal.returns-in_err-write_orders-clause-stops
returns-in_err-write_orders-clause-stops g c =
    let p = err_from_is_err_and c.from_residual.result c.from_residual.ensures.1 in
    rw (p.1, p.2) (λ lines at given bytes text holds leads.
    stopped_at_write c.in_err-write_orders.field-0.0 c.args.self.now.lines _ lines at given bytes text c.args.self.now.place c.args.self.now.orders.items _ _ holds leads
    refl (rw c.as_slice.ensures.value at c.in_err-write_orders.ensures.err))
