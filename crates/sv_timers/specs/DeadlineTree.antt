-- What a tree of deadlines holds, and when it is right.
use Rattle.std.specs.Prelude.{◌≡◌, ◌≤◌, ℕ, List, [], ◌∷◌, ◌++◌, Option, None, Some, length}
use Rattle.sv_timers.specs.Deadlines.{earliest_of}
use Rattle.sv_timers.specs.declared.tree.Tree.{Tree}
use Rattle.sv_timers.specs.declared.tree.Tree.TheVariants.{Leaf, Fork'}

-- the deadlines in a tree, in start order
abbrev pub deadlines : Tree → List (Option ℕ)
deadlines (Leaf deadline) = deadline ∷ []
deadlines (Fork' earliest count _ first _ second) = deadlines first ++ deadlines second

-- each fork knows the earliest deadline below it, and how many children its first side has
abbrev pub IsRight : Tree → Type 0
IsRight (Leaf deadline) = Unit {0}
IsRight (Fork' earliest count _ first _ second) =
    (earliest ≡ earliest_of (deadlines first ++ deadlines second))
    × (count ≡ length (deadlines first))
    × IsRight first × IsRight second

-- the deadlines of no children, or those in a tree
abbrev pub deadlines_in : Option Tree → List (Option ℕ)
deadlines_in None = []
deadlines_in (Some tree) = deadlines tree

-- there are no children, or the tree is right and has no more of them than can be numbered
abbrev pub IsRightTree : Option Tree → Type 0
IsRightTree None = Unit {0}
IsRightTree (Some tree) = IsRight tree × (length (deadlines tree) ≤ 4294967295)
