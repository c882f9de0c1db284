use Rattle.std.proofs.Common.{◌≡◌}
use Rattle.std.specs.Prelude.{replicate}
use Rattle.sv_child.specs.Moves.{new_child}
use Rattle.sv_children.proofs.children.new_children.Given as goal

abbrev pub invariant-loop : goal.invariant-loop
invariant-loop l = l.children.items ≡ replicate l.counter new_child
