-- The place of a name in a list whose elements have names, as elements are added and changed.
use Rattle.std.proofs.Common.{◌≡◌, ◌<◌, ◌≤◌, subst, ◌++◌, ℕ, List, [], ◌∷◌, Bool, true, false, length, get_or, set, Option, refl, sym, ◌∙◌, ap, arith, length-append, cond}
use Rattle.std.proofs.lemmas.Bool.Decides.{nat_tests}
use Rattle.std.proofs.lemmas.List.{length-set}
use Rattle.std.proofs.lemmas.List.Folds.{position_or_len-set, position_or_len_push}
use Rattle.std.proofs.lemmas.List.Sums.{prefix_len-le-length, passes_at_first}
use Rattle.std.specs.List.{position, position_or_len}
use Rattle.std.specs.Prelude.{Some, None, not}
use Rattle.std.specs.Str.{bytes_eq}
use Rattle.std.proofs.lemmas.Slice.Eq.{bytes_eq-Decides}

position_kept : {A : Type 0} (p : A → Bool) (xs : List A) (i : ℕ) (y d : A) → p y ≡ p (get_or xs i d)
    → position p (set xs i y) ≡ position p xs
position_kept p xs i y d e = rw (position_or_len-set p xs i y d e, length-set) refl

position_found : {A : Type 0} (p : A → Bool) (xs : List A) (y : A) → p y ≡ true → position p xs ≡ None
    → position p (xs ++ y ∷ []) ≡ Some (length xs)
position_found p xs y e none = grind (arith, nat_tests, position_or_len_push p xs y, prefix_len-le-length (λ x. not (p x)) xs, length-append xs (y ∷ []))

position_passed : {A : Type 0} (p : A → Bool) (xs : List A) (y : A) → p y ≡ false
    → position p (xs ++ y ∷ []) ≡ position p xs
position_passed p xs y e = grind (arith, nat_tests, position_or_len_push p xs y, prefix_len-le-length (λ x. not (p x)) xs, length-append xs (y ∷ []))

none_from_far : {A : Type 0} (p : A → Bool) (xs : List A) → length xs ≤ position_or_len p xs → position p xs ≡ None
none_from_far p xs far = grind (arith, nat_tests)

module _ {A : Type 0} (name_of : A → List ℕ) where
  -- an element that is changed, but for its name
  pub index_kept : (xs : List A) (i : ℕ) (y d : A) → name_of y ≡ name_of (get_or xs i d) → (q : List ℕ)
      → position (λ x. bytes_eq (name_of x) q) (set xs i y) ≡ position (λ x. bytes_eq (name_of x) q) xs
  index_kept xs i y d same q =
      position_kept (λ x. bytes_eq (name_of x) q) xs i y d (ap (λ (n : List ℕ). bytes_eq n q) same)

  -- the name of the element that was found
  pub found_name : (name : List ℕ) (xs : List A) (d : A) → position_or_len (λ x. bytes_eq (name_of x) name) xs < length xs
      → name_of (get_or xs (position_or_len (λ x. bytes_eq (name_of x) name) xs) d) ≡ name
  found_name name xs d inside =
      (bytes_eq-Decides (name_of (get_or xs (position_or_len (λ x. bytes_eq (name_of x) name) xs) d)) name).0
      (passes_at_first (λ x. bytes_eq (name_of x) name) xs d inside)

  added_by : (test : Bool) (q name : List ℕ) (place : ℕ) (old : List ℕ → Option ℕ) (xs : List A) (y : A)
      → bytes_eq name q ≡ test → name_of y ≡ name
      → old q ≡ position (λ x. bytes_eq (name_of x) q) xs
      → place ≡ position_or_len (λ x. bytes_eq (name_of x) name) xs → length xs ≤ place
      → cond test (Some place) (old q) ≡ position (λ x. bytes_eq (name_of x) q) (xs ++ y ∷ [])
  added_by true q name place old xs y e is_name was is_place far =
      let same : name ≡ q = (bytes_eq-Decides name q).0 e in
      let named : position (λ x. bytes_eq (name_of x) name) xs ≡ None =
      none_from_far (λ x. bytes_eq (name_of x) name) xs (omega arith) in
      let none = subst (λ (n : List ℕ). position (λ x. bytes_eq (name_of x) n) xs ≡ None) same named in
      let at : place ≡ length xs = omega (arith, prefix_len-le-length (λ x. not (bytes_eq (name_of x) name)) xs) in
      ap (λ (n : ℕ). Some n) at
      ∙ sym (position_found (λ x. bytes_eq (name_of x) q) xs y (ap (λ (n : List ℕ). bytes_eq n q) is_name ∙ e) none)
  added_by false q name place old xs y e is_name was is_place far =
      was ∙ sym (position_passed (λ x. bytes_eq (name_of x) q) xs y (ap (λ (n : List ℕ). bytes_eq n q) is_name ∙ e))

  -- an index of the names, after an element of a new name
  pub index_added : (name : List ℕ) (place : ℕ) (old new : List ℕ → Option ℕ) (xs : List A) (y : A) → name_of y ≡ name
      → ((q : List ℕ) → old q ≡ position (λ x. bytes_eq (name_of x) q) xs)
      → ((q : List ℕ) → new q ≡ cond (bytes_eq name q) (Some place) (old q))
      → place ≡ position_or_len (λ x. bytes_eq (name_of x) name) xs → length xs ≤ place
      → (q : List ℕ) → new q ≡ position (λ x. bytes_eq (name_of x) q) (xs ++ y ∷ [])
  index_added name place old new xs y is_name was is is_place far q =
      is q ∙ added_by (bytes_eq name q) q name place old xs y refl is_name (was q) is_place far
