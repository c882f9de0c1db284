use Rattle.std.proofs.Common.{◌≡◌, ◌+◌, length}
use Rattle.std.specs.Prelude.{not}
use Rattle.std.specs.List.{position_from}
use Rattle.sv_child.specs.Moves.{is_at_rest}
use Rattle.sv_child.specs.declared.child.Child.{Child}
use Rattle.sv_groups.proofs.changes.first_running.Given as goal

abbrev pub invariant-loop-left : goal.invariant-loop-left
invariant-loop-left l = record {
  same : position_from (λ (c : Child). not (is_at_rest c.state)) l.next l.left ≡ position_from (λ (c : Child). not (is_at_rest c.state)) l.first l.children;
  whole : l.next + length l.left ≡ l.first + length l.children;
}

abbrev pub decreases-loop-left : goal.decreases-loop-left
decreases-loop-left l = length l.left
