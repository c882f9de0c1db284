-- The order of a lane's items: of each seat, and between what was posted and what was taken.
use Rattle.std.specs.Prelude.{◌≡◌, ℕ, ◌==◌, List, [], ◌∷◌, ◌++◌, map, if◌then◌else◌, slice_index_or}

module _ {T : Type 0} where
  -- the items of one seat, in their order
  abbrev pub of_seat : ℕ → List (ℕ × T) → List T
  of_seat seat [] = []
  of_seat seat (x ∷ xs) = if x.0 == seat then x.1 ∷ of_seat seat xs else of_seat seat xs

  -- the items alone, of all seats
  abbrev pub items_of : List (ℕ × T) → List T
  items_of seated = map (λ (x : ℕ × T). x.1) seated

  -- for each seat, the items taken of it, then those of it that are left, are the list that it
  -- posted
  abbrev pub IsInOrder : List (ℕ × T) → List (ℕ × T) → (ℕ → List T) → Type 0
  IsInOrder taken left posted = (seat : ℕ) → of_seat seat (taken ++ left) ≡ posted seat

  -- the list that a seat posted, of the lists of all seats; a seat that wasn't made posted nothing
  abbrev pub posted_by : List (List T) → ℕ → List T
  posted_by lists seat = slice_index_or lists seat []

  -- of each item that is left there is a seat, so that seat by seat what was taken, then what is
  -- left, is what was posted
  abbrev pub Settles : List (ℕ × T) → List (List T) → List T → Type 0
  Settles taken lists left =
      (seated : List (ℕ × T)) × (items_of seated ≡ left) × IsInOrder taken seated (posted_by lists)

  -- what was taken of each seat is a prefix of what it posted
  abbrev pub AreFronts : List (ℕ × T) → List (List T) → Type 0
  AreFronts taken lists =
      (seat : ℕ) → (later : List T) × (posted_by lists seat ≡ of_seat seat taken ++ later)
