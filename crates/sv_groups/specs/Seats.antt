-- Where each process of a roster is: the place of its group, and its place among the members of the
-- group.
use Rattle.std.specs.Prelude.{ℕ, zero, suc, List, [], ◌∷◌, ◌+◌, ◌++◌, length}
use Rattle.sv_base.specs.declared.spec.GroupSpec.{GroupSpec}
use Rattle.sv_groups.specs.declared.seat.Seat.{Seat}

-- so many members of a group, from this one on
abbrev pub seats_in : ℕ → ℕ → ℕ → List Seat
seats_in group member zero = []
seats_in group member (suc left) =
    record { group = group; member = member } ∷ seats_in group (member + 1) left

-- all members of these groups in start order, where the first group has this place
abbrev pub seats_from : ℕ → List GroupSpec → List Seat
seats_from group [] = []
seats_from group (g ∷ gs) = seats_in group 0 (length g.members) ++ seats_from (group + 1) gs
