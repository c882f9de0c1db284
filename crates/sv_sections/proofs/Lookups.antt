-- The places of names in a list whose elements have names, one element further.
use Rattle.std.proofs.Common.{◌≡◌, ◌+◌, ◌-◌, ◌≤◌, ◌<◌, ℕ, suc, zero, List, [], ◌∷◌, ◌++◌, Bool, true, false, cond, take, drop, length, get_or, refl, ap, sym, ◌∙◌, add-one, arith, length-append, length-take, take_all, subst}
use Rattle.std.proofs.lemmas.Bool.Decides.{nat_tests}
use Rattle.std.proofs.lemmas.List.Folds.{position_or_len_push}
use Rattle.std.proofs.lemmas.List.Sums.{prefix_len-le-length}
use Rattle.std.proofs.lemmas.Slice.Eq.{bytes_eq-Decides}
use Rattle.std.specs.List.{position}
use Rattle.std.specs.Prelude.{Option, Some, None, not}
use Rattle.std.specs.Str.{bytes_eq}
use Rattle.sv_sections.specs.Lookups.{or_place}

found : {A : Type 0} (p : A → Bool) (xs : List A) (y : A) → p y ≡ true → position p xs ≡ None → position p (xs ++ y ∷ []) ≡ Some (length xs)
found p xs y e none = grind (arith, nat_tests, position_or_len_push p xs y, prefix_len-le-length (λ x. not (p x)) xs, length-append xs (y ∷ []))

passed : {A : Type 0} (p : A → Bool) (xs : List A) (y : A) → p y ≡ false → position p (xs ++ y ∷ []) ≡ position p xs
passed p xs y e = grind (arith, nat_tests, position_or_len_push p xs y, prefix_len-le-length (λ x. not (p x)) xs, length-append xs (y ∷ []))

stays : {A : Type 0} (p : A → Bool) (xs : List A) (y : A) (place : ℕ) → position p xs ≡ Some place → position p (xs ++ y ∷ []) ≡ Some place
stays p xs y place e = grind (arith, nat_tests, position_or_len_push p xs y, prefix_len-le-length (λ x. not (p x)) xs, length-append xs (y ∷ []))

module _ {A : Type 0} (name_of : A → List ℕ) where
  abbrev here : List ℕ → List A → Option ℕ
  here name xs = position (λ x. bytes_eq (name_of x) name) xs

  -- its own name
  by_first : (xs : List A) (y : A) (was : Option ℕ) → was ≡ here (name_of y) xs → Some (or_place was (length xs)) ≡ here (name_of y) (xs ++ y ∷ [])
  by_first xs y None is = sym (found (λ x. bytes_eq (name_of x) (name_of y)) xs y ((bytes_eq-Decides (name_of y) (name_of y)).1 refl) (sym is))
  by_first xs y (Some place) is = sym (stays (λ x. bytes_eq (name_of x) (name_of y)) xs y place (sym is))

  by_name : (xs : List A) (y : A) (old : List ℕ → Option ℕ) (q : List ℕ) (same : Bool) → bytes_eq (name_of y) q ≡ same
      → ((q : List ℕ) → old q ≡ here q xs) → cond same (Some (or_place (old (name_of y)) (length xs))) (old q) ≡ here q (xs ++ y ∷ [])
  by_name xs y old q true e has =
      subst (λ (n : List ℕ). Some (or_place (old (name_of y)) (length xs)) ≡ here n (xs ++ y ∷ [])) ((bytes_eq-Decides (name_of y) q).0 e) (by_first xs y (old (name_of y)) (has (name_of y)))
  by_name xs y old q false e has = has q ∙ sym (passed (λ x. bytes_eq (name_of x) q) xs y e)

  -- a table of places after one element more
  pub one_more : (xs : List A) (y : A) (place : ℕ) (old new : List ℕ → Option ℕ) → place ≡ length xs → ((q : List ℕ) → old q ≡ here q xs)
      → ((q : List ℕ) → new q ≡ cond (bytes_eq (name_of y) q) (Some (or_place (old (name_of y)) place)) (old q))
      → (q : List ℕ) → new q ≡ here q (xs ++ y ∷ [])
  one_more xs y place old new is has adds q =
      adds q ∙ ap (λ (n : ℕ). cond (bytes_eq (name_of y) q) (Some (or_place (old (name_of y)) n)) (old q)) is ∙ by_name xs y old q (bytes_eq (name_of y) q) refl has

-- a name that has a place keeps it
pub place_kept : (old : List ℕ → Option ℕ) (name : List ℕ) (place first : ℕ) → old name ≡ Some first → (other : List ℕ)
    → old other ≡ cond (bytes_eq name other) (Some (or_place (old name) place)) (old other)
place_kept old name place first e other = by_same (bytes_eq name other) refl
  where
    by_same : (same : Bool) → bytes_eq name other ≡ same → old other ≡ cond same (Some (or_place (old name) place)) (old other)
    by_same true is = subst (λ (n : List ℕ). old n ≡ Some (or_place (old name) place)) ((bytes_eq-Decides name other).0 is) (e ∙ sym (ap (λ (o : Option ℕ). Some (or_place o place)) e))
    by_same false is = refl

-- a name that has none gets this one
pub place_given : (old new : List ℕ → Option ℕ) (name : List ℕ) (place : ℕ) → old name ≡ None
    → ((other : List ℕ) → new other ≡ cond (bytes_eq name other) (Some place) (old other)) → (other : List ℕ)
    → new other ≡ cond (bytes_eq name other) (Some (or_place (old name) place)) (old other)
place_given old new name place none adds other = adds other ∙ ap (λ (o : Option ℕ). cond (bytes_eq name other) (Some (or_place o place)) (old other)) (sym none)
