use Rattle.std.proofs.Common.{◌∷◌, ◌++◌, [], List, ℕ, append_assoc, arith, refl, subst}
use Rattle.std.proofs.lemmas.Result.{IfErr-weaker, on_ok_weaker}
use Rattle.sv_loop.proofs.RunSteps.{holds_line, refused_in_piece, stops_in_line, too_long}
use Rattle.sv_loop.specs.Reading.{GoesOn, StopsAt}
use Rattle.sv_loop.specs.declared.run.End.TheVariants.{BadLine}
use Rattle.sv_loop.proofs.run.Run.judge_line.Goals as goal

pub returns-then-line-gt-LINE_LIMIT-clause-stops : goal.returns-then-line-gt-LINE_LIMIT-clause-stops
returns-then-line-gt-LINE_LIMIT-clause-stops g c = λ lines at given bytes is.
    let run = c.args.self.now in
    stops_in_line BadLine run run lines at given bytes c.args.line.now _ is
    (λ l a o b s. too_long run l a o b c.args.line.now _ s (omega (arith, c.if-line-gt-LINE_LIMIT.true)) c.requires.unbroken)

pub returns-in-Err-clause-stops : goal.returns-in-Err-clause-stops
returns-in-Err-clause-stops g c = λ lines at given bytes is.
    rw c.end_of.ensures.end
    (refused_in_piece c.in-Err.refused c.args.self.now _ _ _ lines at given bytes c.args.line.now _ is c.requires.empty c.requires.unbroken
    (omega (arith, c.if-line-gt-LINE_LIMIT.false)) refl (rw c.in-Err.is at (c.judge.ensures at is.place)))

pub returns-in-Ok-clause-goes_on : goal.returns-in-Ok-clause-goes_on
returns-in-Ok-clause-goes_on g c = on_ok_weaker c.go_on.result
    (λ goes. λ lines at given bytes is.
    subst (λ (b : List ℕ). GoesOn c.go_on.new.self b given (g.K.Sink.written c.args.sink.now) (g.K.Sink.written c.go_on.new.sink))
    (append_assoc bytes c.args.line.now (10 ∷ []))
    (goes lines at given (bytes ++ c.args.line.now) c.args.line.now
    (holds_line c.args.self.now lines at given bytes c.args.line.now is c.requires.empty c.requires.unbroken (omega (arith, c.if-line-gt-LINE_LIMIT.false)))
    (rw c.in-Ok.is at (c.judge.ensures at is.place))))
    c.go_on.ensures.goes_on

pub returns-in-Ok-clause-stops : goal.returns-in-Ok-clause-stops
returns-in-Ok-clause-stops g c = IfErr-weaker c.go_on.result _ _
    (λ end stops. λ lines at given bytes is.
    subst (λ (b : List ℕ). StopsAt end c.go_on.new.self b given (g.K.Sink.written c.args.sink.now) (g.K.Sink.written c.go_on.new.sink))
    (append_assoc bytes c.args.line.now (10 ∷ []))
    (stops lines at given (bytes ++ c.args.line.now) c.args.line.now
    (holds_line c.args.self.now lines at given bytes c.args.line.now is c.requires.empty c.requires.unbroken (omega (arith, c.if-line-gt-LINE_LIMIT.false)))
    (rw c.in-Ok.is at (c.judge.ensures at is.place))))
    c.go_on.ensures.stops
