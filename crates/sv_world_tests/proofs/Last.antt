-- The last of a list.
use Rattle.std.proofs.Common.{◌≡◌, List, [], ◌∷◌, ◌++◌, length, slice_get, Some, refl, ap, ◌∙◌}

module _ {A : Type 0} where
  last : (xs : List A) (x : A) → slice_get (xs ++ x ∷ []) (length xs) ≡ Some x
  last [] x = refl
  last (y ∷ ys) x = last ys x

  pub last_of : (xs ys : List A) (x : A) → ys ≡ xs ++ x ∷ [] → slice_get ys (length xs) ≡ Some x
  last_of xs ys x is = ap (λ (l : List A). slice_get l (length xs)) is ∙ last xs x
