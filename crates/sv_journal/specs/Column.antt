-- Where a refused line breaks.
use Rattle.std.specs.Prelude.{ℕ, ◌+◌, ◌<◌, ◌≤◌, ◌≡◌, List, ◌++◌, length, take}
use Rattle.sv_journal.specs.Limits.{line_limit}

-- some good line begins so
abbrev pub IsFront : {X : Type 0} → (X → Type 0) → (X → List ℕ) → List ℕ → Type 0
IsFront {X} Fits line_of front = (x : X) × (rest : List ℕ) × Fits x × (line_of x ≡ front ++ rest)

-- the length of the longest prefix of this line with which some good line begins, but at most a
-- line's limit
pub record IsColumn {X : Type 0} (Fits : X → Type 0) (line_of : X → List ℕ) (line : List ℕ)
    (column : ℕ) : Type 0 where
  pub within : (column ≤ length line) × (column ≤ line_limit)
  pub good : IsFront Fits line_of (take column line)
  pub bad : column < length line → column < line_limit
      → IsFront Fits line_of (take (column + 1) line) → ⊥
