use Rattle.std.proofs.Common.{refl}
use Rattle.std.proofs.lemmas.Result.{IfErr-weaker, on_ok_weaker}
use Rattle.sv_loop.proofs.RunSteps.{holds_of, stopped_refused}
use Rattle.sv_loop.proofs.run.Run.end_line.Goals as goal

pub returns-in-Err-clause-stops : goal.returns-in-Err-clause-stops
returns-in-Err-clause-stops g c = λ lines at given bytes is.
    let run = c.args.self.now in
    rw c.end_of.ensures.end
    (stopped_refused c.in-Err.refused run.lines _ _ _ lines at given bytes run.line.items _ (holds_of run lines at given bytes is) refl
    (rw (c.as_slice.ensures.value, c.in-Err.is) at (c.judge.ensures at is.place)))

pub returns-in-Ok-clause-goes_on : goal.returns-in-Ok-clause-goes_on
returns-in-Ok-clause-goes_on g c = on_ok_weaker c.go_on.result
    (λ goes. λ lines at given bytes is. goes lines at given bytes c.args.self.now.line.items (holds_of c.args.self.now lines at given bytes is)
    (rw (c.as_slice.ensures.value, c.in-Ok.is) at (c.judge.ensures at is.place)))
    c.go_on.ensures.goes_on

pub returns-in-Ok-clause-stops : goal.returns-in-Ok-clause-stops
returns-in-Ok-clause-stops g c = IfErr-weaker c.go_on.result _ _
    (λ end stops. λ lines at given bytes is. stops lines at given bytes c.args.self.now.line.items (holds_of c.args.self.now lines at given bytes is)
    (rw (c.as_slice.ensures.value, c.in-Ok.is) at (c.judge.ensures at is.place)))
    c.go_on.ensures.stops
