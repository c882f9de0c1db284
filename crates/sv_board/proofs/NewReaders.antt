-- Readers that have read nothing.
use Rattle.std.proofs.Common.{◌≡◌, ℕ, zero, suc, ◌⊎◌, List, [], ◌∷◌, ◌++◌, slice_get, Some, subst, ⊎_elim, inl, inr}
use Rattle.std.proofs.lemmas.Option.{none-some}
use Rattle.sv_board.specs.Ends.{AreNewReaders, learnt, seen}
use Rattle.sv_board.specs.declared.home.Home.{Home}
use Rattle.sv_board.specs.declared.reader.BoardReader.{BoardReader}

module _ {A : Type 0} where
  at_more : (xs : List A) (x r : A) (k : ℕ) → slice_get (xs ++ x ∷ []) k ≡ Some r → (slice_get xs k ≡ Some r) ⊎ (x ≡ r)
  at_more [] x r zero at = inr cc
  at_more [] x r (suc k) at = absurd (none-some r at)
  at_more (y ∷ ys) x r zero at = inl at
  at_more (y ∷ ys) x r (suc k) at = at_more ys x r k at

-- one more
pub more_readers : (home : Home) (xs : List BoardReader) (x : BoardReader) → AreNewReaders home xs → (x.home.value ≡ home) × (seen x ≡ []) × (learnt x ≡ 0) → AreNewReaders home (xs ++ x ∷ [])
more_readers home xs x all new k r at = ⊎_elim (λ (before : slice_get xs k ≡ Some r). all k r before)
    (λ (same : x ≡ r). subst (λ (y : BoardReader). (y.home.value ≡ home) × (seen y ≡ []) × (learnt y ≡ 0)) same new) (at_more xs x r k at)
