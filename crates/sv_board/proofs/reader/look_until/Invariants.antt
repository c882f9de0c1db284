use Rattle.left_right.specs.Sides.{view}
use Rattle.sv_board.specs.Board.{IsFront}
use Rattle.sv_board.specs.Roles.{IsReading, seen_in}
use Rattle.sv_board.proofs.reader.look_until.Given as goal

abbrev pub invariant-loop : goal.invariant-loop
invariant-loop g l =
    (goal.iterator-loop g).can_next l.iterator' × (goal.iterator-loop g).is_finite l.iterator'
    × IsReading (view l.end.place) × IsFront (seen_in (view l.fn.end.place)) (seen_in (view l.end.place))
