use Rattle.std.proofs.Common.{◌∷◌, ◌++◌, [], List, ℕ, append-nil, append_assoc, arith, length-append, subst, ◌∙◌}
use Rattle.std.proofs.lemmas.Result.{IfErr-weaker, err_from_is_err_and, on_ok_weaker}
use Rattle.sv_loop.proofs.RunSteps.{bytes_to_end, bytes_to_line, goes_further, stops_further, taken_to_line}
use Rattle.sv_loop.specs.Reading.{GoesOn, StopsAt}
use Rattle.sv_loop.proofs.run.Run.take_piece.Goals as goal

pub returns-in_err-take_line-clause-stops : goal.returns-in_err-take_line-clause-stops
returns-in_err-take_line-clause-stops g c =
    let p = err_from_is_err_and c.from_residual.result c.from_residual.ensures.1 in
    let front = c.loop-line.invariant.front in
    let line = c.in-Some.line.now in
    let behind = c.in-Some.behind.now in
    rw (p.1, p.2) (λ lines at given bytes is.
    subst (λ (b : List ℕ). StopsAt c.in_err-take_line.field-0.0 c.take_line.new.self b given (g.K.Sink.written c.args.sink.now) (g.K.Sink.written c.take_line.new.sink))
    (bytes_to_line bytes c.args.piece.now front c.loop-line.rest.now line behind c.loop-line.invariant.split c.in-Some.ensures)
    (stops_further c.in_err-take_line.field-0.0 c.loop-line.self c.take_line.new.self (bytes ++ front) (line ++ 10 ∷ []) behind given
    (g.K.Sink.written c.args.sink.now) (g.K.Sink.written c.loop-line.sink) (g.K.Sink.written c.take_line.new.sink)
    (c.loop-line.invariant.goes lines at given bytes is) (λ l a o b s. c.in_err-take_line.ensures.stops l a o b s)))

pub loop-line-preserved : goal.loop-line-preserved
loop-line-preserved g c =
    let front = c.loop-line.invariant.front in
    let line = c.in-Some.line.now in
    record {
      front = front ++ (line ++ 10 ∷ []);
      split = taken_to_line c.args.piece.now front c.loop-line.rest.now line c.in-Some.behind.now c.loop-line.invariant.split c.in-Some.ensures;
      few = omega (arith, c.in_ok-take_line.ensures.few, c.loop-line.invariant.few, length-append front (line ++ 10 ∷ []), length-append line (10 ∷ []));
      later = omega (arith, c.in_ok-take_line.ensures.later, c.loop-line.invariant.later);
      goes = λ lines at given bytes is.
          subst (λ (b : List ℕ). GoesOn c.take_line.new.self b given (g.K.Sink.written c.args.sink.now) (g.K.Sink.written c.take_line.new.sink))
          (append_assoc bytes front (line ++ 10 ∷ []))
          (goes_further c.loop-line.self c.take_line.new.self (bytes ++ front) (line ++ 10 ∷ []) given
          (g.K.Sink.written c.args.sink.now) (g.K.Sink.written c.loop-line.sink) (g.K.Sink.written c.take_line.new.sink)
          (c.loop-line.invariant.goes lines at given bytes is) (λ l a o b s. c.in_ok-take_line.ensures.goes_on l a o b s));
    }

pub returns-clause-goes_on : goal.returns-clause-goes_on
returns-clause-goes_on g c = on_ok_weaker c.hold.result
    (λ goes. λ lines at given bytes is.
    let front = c.loop-line.invariant.front in
    let rest = c.loop-line.rest.now in
    let written = g.K.Sink.written c.loop-line.sink in
    subst (λ (b : List ℕ). GoesOn c.hold.new.self b given (g.K.Sink.written c.args.sink.now) written)
    (bytes_to_end bytes c.args.piece.now front rest c.loop-line.invariant.split)
    (goes_further c.loop-line.self c.hold.new.self (bytes ++ front) rest given (g.K.Sink.written c.args.sink.now) written written
    (c.loop-line.invariant.goes lines at given bytes is) (λ l a o b s. goes l a o b written s)))
    c.hold.ensures.goes_on

pub returns-clause-stops : goal.returns-clause-stops
returns-clause-stops g c = IfErr-weaker c.hold.result _ _
    (λ end stops. λ lines at given bytes is.
    let front = c.loop-line.invariant.front in
    let rest = c.loop-line.rest.now in
    let written = g.K.Sink.written c.loop-line.sink in
    subst (λ (b : List ℕ). StopsAt end c.hold.new.self b given (g.K.Sink.written c.args.sink.now) written)
    (append-nil ((bytes ++ front) ++ rest) ∙ bytes_to_end bytes c.args.piece.now front rest c.loop-line.invariant.split)
    (stops_further end c.loop-line.self c.hold.new.self (bytes ++ front) rest [] given (g.K.Sink.written c.args.sink.now) written written
    (c.loop-line.invariant.goes lines at given bytes is) (λ l a o b s. stops l a o b written s)))
    c.hold.ensures.stops
