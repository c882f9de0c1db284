-- Names that rise by bytes, told from one name to the next.
use Rattle.std.specs.Prelude.{ℕ, List, [], ◌∷◌, Bool, true, ◌&&◌}
use Rattle.std.specs.Cmp.Lexicographic.{slice_cmp}
use Rattle.std.specs.Ordering.{nat_cmp, is_lt}

-- the name stands before the first of these, if there is one
abbrev pub is_before : List ℕ → List (List ℕ) → Bool
is_before name [] = true
is_before name (next ∷ names) = is_lt (slice_cmp nat_cmp name next)

-- each stands before the one after it
abbrev pub rise : List (List ℕ) → Bool
rise [] = true
rise (name ∷ names) = is_before name names && rise names
