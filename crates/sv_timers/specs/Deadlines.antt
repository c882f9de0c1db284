-- The deadlines of children, at most one each, in start order.
use Rattle.std.specs.Prelude.{ℕ, ◌+◌, List, [], ◌∷◌, Bool, false, Option, None, Some, min, nat_le}
use Rattle.std.specs.Prelude.{if◌then◌else◌}
use Rattle.sv_base.specs.declared.ids.ChildId.{ChildId}

-- the earlier of the two; one that isn't there is no deadline
abbrev pub earlier : Option ℕ → Option ℕ → Option ℕ
earlier None other = other
earlier (Some one) None = Some one
earlier (Some one) (Some other) = Some (min one other)

-- the earliest of these deadlines
abbrev pub earliest_of : List (Option ℕ) → Option ℕ
earliest_of [] = None
earliest_of (deadline ∷ deadlines) = earlier deadline (earliest_of deadlines)

-- a deadline has come, which it has at the moment itself
abbrev pub is_due : Option ℕ → ℕ → Bool
is_due None now = false
is_due (Some at) now = nat_le at now

-- the children that are due, in start order; the first of these deadlines is the one of the child
-- with this number
abbrev pub due_from : ℕ → ℕ → List (Option ℕ) → List ChildId
due_from first now [] = []
due_from first now (deadline ∷ deadlines) =
    if is_due deadline now then record { 0 = first } ∷ due_from (first + 1) now deadlines
    else due_from (first + 1) now deadlines
