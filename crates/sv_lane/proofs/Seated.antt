-- Lists of items with their seats.
use Rattle.std.proofs.Common.{◌≡◌, ◌≢◌, ℕ, ◌==◌, if◌then◌else◌, List, [], ◌∷◌, ◌++◌, length, get_or, zero, suc, ◌≤◌, refl, ap, arith, Bool, true, false}
use Rattle.std.proofs.lemmas.Bool.Decides.{nat_tests}
use Rattle.sv_lane.specs.Order.{of_seat, items_of}

module _ {T : Type 0} where
  chosen-append : (b : Bool) (x : T) (front all back : List T) → all ≡ front ++ back → (if b then x ∷ all else all) ≡ (if b then x ∷ front else front) ++ back
  chosen-append true x front all back e = ap (λ (l : List T). x ∷ l) e
  chosen-append false x front all back e = e

  -- the items of a seat in two lists, one after the other
  pub of_seat-append : (seat : ℕ) (xs ys : List (ℕ × T)) → of_seat seat (xs ++ ys) ≡ of_seat seat xs ++ of_seat seat ys
  of_seat-append seat [] ys = refl
  of_seat-append seat (x ∷ xs) ys = chosen-append (x.0 == seat) x.1 (of_seat seat xs) (of_seat seat (xs ++ ys)) (of_seat seat ys) (of_seat-append seat xs ys)

  -- one item of this seat, and none of another
  pub of_seat-same : (seat : ℕ) (x : T) → of_seat seat ((seat, x) ∷ []) ≡ x ∷ []
  of_seat-same seat x = grind (arith, nat_tests)

  pub of_seat-other : (seat other : ℕ) (x : T) → other ≢ seat → of_seat other ((seat, x) ∷ []) ≡ []
  of_seat-other seat other x apart = grind (arith, nat_tests)

  -- the items of two lists, one after the other
  pub items_of-append : (xs ys : List (ℕ × T)) → items_of (xs ++ ys) ≡ items_of xs ++ items_of ys
  items_of-append [] ys = refl
  items_of-append (x ∷ xs) ys = ap (λ (l : List T). x.1 ∷ l) (items_of-append xs ys)

  -- a list of items that begins with x is of a list that begins with x and some seat
  abbrev pub Begins : List (ℕ × T) → T → List T → Type 0
  Begins seated x items = (seat : ℕ) × (rest : List (ℕ × T)) × (seated ≡ (seat, x) ∷ rest) × (items_of rest ≡ items)

  pub begins : (seated : List (ℕ × T)) (x : T) (items : List T) → items_of seated ≡ x ∷ items → Begins seated x items
  begins [] x items e = absurd cc
  begins (y ∷ ys) x items e = let same : y.1 ≡ x = cc in let rest : items_of ys ≡ items = cc in (y.0, ys, ap (λ (z : T). (y.0, z) ∷ ys) same, rest)

  -- no items are of an empty list alone
  pub no_items : (seated : List (ℕ × T)) → items_of seated ≡ [] → seated ≡ []
  no_items [] e = refl
  no_items (y ∷ ys) e = absurd cc

-- a list gives the default after its end
pub get_or-behind : {X : Type 0} (xs : List X) (i : ℕ) (d : X) → length xs ≤ i → get_or xs i d ≡ d
get_or-behind [] i d above = refl
get_or-behind (x ∷ xs) zero d above = absurd (omega arith)
get_or-behind (x ∷ xs) (suc i) d above = get_or-behind xs i d (omega arith)
