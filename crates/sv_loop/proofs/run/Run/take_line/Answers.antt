use Rattle.std.proofs.lemmas.Result.{IfErr-weaker, err_from_is_err_and, on_ok_weaker}
use Rattle.sv_loop.proofs.RunSteps.{goes_past_feed, stops_at_feed, stops_in_line}
use Rattle.sv_loop.proofs.run.Run.take_line.Goals as goal

pub returns-in_err-hold-clause-stops : goal.returns-in_err-hold-clause-stops
returns-in_err-hold-clause-stops g c =
    let p = err_from_is_err_and c.from_residual.result c.from_residual.ensures.1 in
    rw (p.1, p.2) (λ lines at given bytes is.
    stops_in_line c.in_err-hold.field-0.0 c.args.self.now c.hold.new.self lines at given bytes c.args.line.now _ is
    (λ l a o b s. c.in_err-hold.ensures.stops l a o b (g.K.Sink.written c.args.sink.now) s))

pub returns-clause-goes_on : goal.returns-clause-goes_on
returns-clause-goes_on g c = on_ok_weaker c.end_line.result
    (λ goes. λ lines at given bytes is. goes_past_feed c.hold.new.self c.end_line.new.self bytes c.args.line.now given
    _ (g.K.Sink.written c.args.sink.now) _ (c.in_ok-hold.ensures.goes_on lines at given bytes _ is) goes)
    c.end_line.ensures.goes_on

pub returns-clause-stops : goal.returns-clause-stops
returns-clause-stops g c = IfErr-weaker c.end_line.result _ _
    (λ end stops. λ lines at given bytes is. stops_at_feed end c.hold.new.self c.end_line.new.self bytes c.args.line.now given
    _ (g.K.Sink.written c.args.sink.now) _ (c.in_ok-hold.ensures.goes_on lines at given bytes _ is) stops)
    c.end_line.ensures.stops
