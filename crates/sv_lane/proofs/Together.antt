-- What was taken and what was left, put together.
use Rattle.std.proofs.Common.{◌≡◌, ℕ, List, [], ◌∷◌, ◌++◌, map, refl, sym, ap, ◌∙◌}
use Rattle.sv_lane.specs.Ends.{posted}
use Rattle.sv_lane.specs.Order.{Settles, items_of}
use Rattle.sv_lane.specs.declared.poster.Poster.{Poster}
use Rattle.sv_lane.specs.Interleaving.{Interleaves}

module _ {T : Type 0} where
  items_of-append : (xs ys : List (ℕ × T)) → items_of (xs ++ ys) ≡ items_of xs ++ items_of ys
  items_of-append [] ys = refl
  items_of-append (x ∷ xs) ys = ap (λ (l : List T). x.1 ∷ l) (items_of-append xs ys)

  -- what was taken and then what was left are the lists that were posted, put together
  pub together : (taken : List (ℕ × T)) (lists : List (List T)) (all left joined : List T) → items_of taken ≡ all → Settles taken lists left → joined ≡ all ++ left → Interleaves lists joined
  together taken lists all left joined t s j =
      (taken ++ s.0, items_of-append taken s.0 ∙ ap (λ (l : List T). l ++ items_of s.0) t ∙ ap (λ (l : List T). all ++ l) s.1 ∙ sym j, s.2)

  -- what a new seat has posted is what was posted by it since
  pub all_of : (old more now : List T) → old ≡ [] → now ≡ old ++ more → now ≡ more
  all_of old more now none e = e ∙ ap (λ (l : List T). l ++ more) none

  -- the lists of two posters, put into an empty row one after the other
  pub two_lists : (none one both : List (Poster T)) (p q : Poster T) (first second : List T) → none ≡ [] → one ≡ none ++ p ∷ [] → both ≡ one ++ q ∷ [] → posted p ≡ first → posted q ≡ second → map posted both ≡ first ∷ second ∷ []
  two_lists none one both p q first second n o b f s =
      ap (map posted) (b ∙ ap (λ (l : List (Poster T)). l ++ q ∷ []) (o ∙ ap (λ (l : List (Poster T)). l ++ p ∷ []) n)) ∙ (λ i. f i ∷ s i ∷ [])
