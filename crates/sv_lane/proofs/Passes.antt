-- What is so of every pass after one of them changed, or one more came.
use Rattle.std.proofs.Common.{◌≡◌, ◌≢◌, ℕ, zero, suc, ◌⊎◌, List, [], ◌∷◌, ◌++◌, length, set, sym, refl, ap, subst, ⊎_elim, inl, inr}
use mathlib.Core.Option.{some, some-injective, some-ne-none}
use lib.ListN.{get_elem?}
use Rattle.atomic_table.proofs.Lists.{at_set}

module _ {V : Type 0} where
  -- the fact holds of each pass and its view
  abbrev pub Each : (ℕ → V → Type 0) → List V → Type 0
  Each F views = (pass : ℕ) (v : V) → get_elem? views pass ≡ some v → F pass v

  -- one view was changed
  pub each_set : (F : ℕ → V → Type 0) (views : List V) (pass : ℕ) (w : V) → F pass w → ((j : ℕ) (u : V) → j ≢ pass → get_elem? views j ≡ some u → F j u) → Each F (set views pass w)
  each_set F views pass w mine others j u at = ⊎_elim
      (λ (x : (j ≡ pass) × (w ≡ u)). subst (λ (y : ℕ × V). F y.0 y.1) (λ i. (sym x.0 i, x.1 i)) mine)
      (λ (x : (j ≢ pass) × (get_elem? views j ≡ some u)). others j u x.0 x.1) (at_set views pass j w u at)

  -- what stands in a list with one more stands in the list, or is the last
  pub at_more : (views : List V) (w u : V) (j : ℕ) → get_elem? (views ++ w ∷ []) j ≡ some u → (get_elem? views j ≡ some u) ⊎ ((j ≡ length views) × (w ≡ u))
  at_more [] w u zero at = inr (refl, some-injective w u at)
  at_more [] w u (suc j) at = absurd (some-ne-none u (sym at))
  at_more (x ∷ xs) w u zero at = inl at
  at_more (x ∷ xs) w u (suc j) at = ⊎_elim (λ here. inl here) (λ (last : (j ≡ length xs) × (w ≡ u)). inr (ap suc last.0, last.1)) (at_more xs w u j at)

  -- one view more came
  pub each_more : (F : ℕ → V → Type 0) (views : List V) (w : V) → F (length views) w → Each F views → Each F (views ++ w ∷ [])
  each_more F views w last old j u at = ⊎_elim (λ (here : get_elem? views j ≡ some u). old j u here)
      (λ (x : (j ≡ length views) × (w ≡ u)). subst (λ (y : ℕ × V). F y.0 y.1) (λ i. (sym x.0 i, x.1 i)) last) (at_more views w u j at)
