-- What is so of every pass after one of them changed, or one more came.
use Rattle.std.proofs.Common.{◌≡◌, ◌≢◌, ℕ, List, [], ◌∷◌, ◌++◌, set, sym, subst, ⊎_elim}
use mathlib.Core.Option.{some}
use lib.ListN.{get_elem?}
use Rattle.atomic_table.proofs.Lists.{at_set, at_snoc}

module _ {V : Type 0} where
  -- one view was changed
  pub each_set : (F : ℕ → V → Type 0) (views : List V) (pass : ℕ) (w : V) → F pass w
      → ((j : ℕ) (u : V) → j ≢ pass → get_elem? views j ≡ some u → F j u)
      → (j : ℕ) (u : V) → get_elem? (set views pass w) j ≡ some u → F j u
  each_set F views pass w mine others j u at = ⊎_elim
      (λ (x : (j ≡ pass) × (w ≡ u)). subst (λ (y : ℕ × V). F y.0 y.1) (λ i. (sym x.0 i, x.1 i)) mine)
      (λ (x : (j ≢ pass) × (get_elem? views j ≡ some u)). others j u x.0 x.1) (at_set views pass j w u at)

  -- one view more came, which is true of any pass
  pub each_more : (F : ℕ → V → Type 0) (views : List V) (w : V) → ((j : ℕ) → F j w)
      → ((j : ℕ) (u : V) → get_elem? views j ≡ some u → F j u)
      → (j : ℕ) (u : V) → get_elem? (views ++ w ∷ []) j ≡ some u → F j u
  each_more F views w last old j u at = ⊎_elim (λ (here : get_elem? views j ≡ some u). old j u here)
      (λ (same : w ≡ u). subst (λ (y : V). F j y) same (last j)) (at_snoc views w u j at)
