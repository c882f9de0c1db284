use Rattle.std.proofs.Common.{◌≡◌, ◌≤◌, ◌+◌, ◌++◌, ℕ, List, length}
use Rattle.sv_judge.specs.JournalPlaces.{Line, Stage}
use Rattle.sv_loop.specs.Reading.{IsAt, GoesOn}
use Rattle.sv_out.specs.declared.order.Order.{Order}
use Rattle.sv_loop.proofs.run.Run.take_piece.Given as goal

abbrev pub invariant-loop-line : goal.invariant-loop-line
invariant-loop-line g l = record {
  front : List ℕ;
  split : l.initial.rest ≡ front ++ l.rest;
  few : l.self.lines ≤ l.initial.self.lines + length front;
  later : g.K.Sink.faults l.initial.sink ≤ g.K.Sink.faults l.sink;
  goes : (lines : List Line) (at : Stage) (given : List Order) (bytes : List ℕ) → IsAt l.initial.self lines at given bytes →
      GoesOn l.self (bytes ++ front) given (g.K.Sink.written l.initial.sink) (g.K.Sink.written l.sink);
}

abbrev pub decreases-loop-line : goal.decreases-loop-line
decreases-loop-line g l = length l.rest
