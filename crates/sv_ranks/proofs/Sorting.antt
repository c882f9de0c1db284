-- Sorting keeps what holds of all, and leaves names that stand once standing once; and it is what the stable sort of std does.
use Rattle.std.proofs.Common.{◌≡◌, ℕ, ◌+◌, ℤ, List, [], ◌∷◌, ◌++◌, map, Bool, true, false, cond, not, ◌&&◌, ◌||◌, refl, ap, sym, ◌∙◌, arith, append_assoc, append-nil, reverse}
use Rattle.std.proofs.lemmas.List.{map-append, reverse-append}
use Rattle.std.proofs.lemmas.List.Folds.{list_any-append}
use Rattle.std.proofs.lemmas.List.Sorted.{ranks_by}
use Rattle.std.specs.Cmp.{IsStrictWeakOrder}
use Rattle.std.specs.List.{filter, list_all}
use Rattle.std.specs.List.Sorted.{IsSortedBy, IsStableBy, ties}
use Rattle.std.specs.Ordering.{is_lt}
use Rattle.std.specs.Str.{bytes_eq}
use Rattle.sv_base.specs.Order.{start_order, is_rising, are_distinct}
use Rattle.sv_ranks.proofs.Placing.{all_put, and_true, both_true, false_not, has_name, not_true, or_last, order_total, placed_is_put, put, total}
use Rattle.sv_ranks.proofs.Placing.{all_placed, distinct_placed, named_placed, rising_placed, total_placed}
use Rattle.sv_ranks.proofs.Stable.{filter_append, is_up, one_only, swapped, up_of_sorted}
use Rattle.sv_ranks.specs.Ranks.{placed, sorted_from}

-- each has a name that none before it has
abbrev pub are_new : {A : Type 0} → (A → List ℕ) → List A → List A → Bool
are_new name before [] = true
are_new name before (x ∷ xs) = not (has_name name (name x) before) && are_new name (before ++ x ∷ []) xs

module _ {A : Type 0} (priority : A → ℤ) (name : A → List ℕ) where
  -- new names are put among distinct ones
  pub sorted_is_good : (done before more : List A) → ((text : List ℕ) → has_name name text done ≡ has_name name text before)
      → is_rising priority name done ≡ true → are_distinct name done ≡ true → are_new name before more ≡ true
      → (is_rising priority name (sorted_from priority name done more) ≡ true) × (are_distinct name (sorted_from priority name done more) ≡ true)
  sorted_is_good done before [] same rising distinct fresh = (rising, distinct)
  sorted_is_good done before (x ∷ xs) same rising distinct fresh =
      let parts = both_true (not (has_name name (name x) before)) (are_new name (before ++ x ∷ []) xs) fresh in
      let apart = same (name x) ∙ not_true (has_name name (name x) before) parts.0 in
      sorted_is_good (placed priority name done x) (before ++ x ∷ []) xs
      (λ text. named_placed priority name text done x ∙ or_last (bytes_eq (name x) text) (has_name name text done) ∙ ap (λ b. b || (bytes_eq (name x) text || false)) (same text) ∙ sym (list_any-append (λ y. bytes_eq (name y) text) before (x ∷ [])))
      (rising_placed priority name done x rising apart)
      (distinct_placed priority name done x distinct apart)
      parts.1

  pub total_sorted : (f : A → ℕ) (done more : List A) → total f (sorted_from priority name done more) ≡ total f done + total f more
  total_sorted f done [] = omega arith
  total_sorted f done (x ∷ xs) =
      let rest = total_sorted f (placed priority name done x) xs in
      omega (arith, total_placed priority name f done x, rest)

  pub all_sorted : (ok : A → Bool) (done more : List A) → list_all ok done ≡ true → list_all ok more ≡ true → list_all ok (sorted_from priority name done more) ≡ true
  all_sorted ok done [] all more = all
  all_sorted ok done (x ∷ xs) all more =
      let parts = both_true (ok x) (list_all ok xs) more in
      all_sorted ok (placed priority name done x) xs (all_placed priority name ok done x all parts.0) parts.1

-- a change that keeps names
name_map : {A : Type 0} (name : A → List ℕ) (f : A → A) → ((x : A) → name (f x) ≡ name x) → (text : List ℕ) (xs : List A)
    → has_name name text (map f xs) ≡ has_name name text xs
name_map name f keeps text [] = refl
name_map name f keeps text (x ∷ xs) = rw (keeps x, name_map name f keeps text xs) refl

pub new_map : {A : Type 0} (name : A → List ℕ) (f : A → A) → ((x : A) → name (f x) ≡ name x) → (before more : List A)
    → are_new name before more ≡ true → are_new name (map f before) (map f more) ≡ true
new_map name f keeps before [] fresh = refl
new_map name f keeps before (x ∷ xs) fresh =
    let parts = both_true (not (has_name name (name x) before)) (are_new name (before ++ x ∷ []) xs) fresh in
    let first : not (has_name name (name (f x)) (map f before)) ≡ true = rw (keeps x, name_map name f keeps (name x) before) parts.0 in
    let rest : are_new name (map f before ++ f x ∷ []) (map f xs) ≡ true = rw (← map-append f before (x ∷ [])) (new_map name f keeps (before ++ x ∷ []) xs parts.1) in
    and_true (not (has_name name (name (f x)) (map f before))) (are_new name (map f before ++ f x ∷ []) (map f xs)) first rest

-- ---- the sort of std

module _ {A : Type 0} (priority : A → ℤ) (name : A → List ℕ) where
  abbrev first : A → A → Bool
  first x y = is_lt (start_order priority name x y)

  pub weak : IsStrictWeakOrder (λ (x y : A). is_lt (start_order priority name x y))
  weak = ranks_by (order_total priority name) (λ (x : A). x)

  all_low : (x one : A) (xs : List A) → first x one ≡ false → list_all (λ w. not (first w x)) xs ≡ true → list_all (λ w. not (first w one)) xs ≡ true
  all_low x one [] e all = refl
  all_low x one (w ∷ xs) e all =
      let parts = both_true (not (first w x)) (list_all (λ v. not (first v x)) xs) all in
      and_true (not (first w one)) (list_all (λ v. not (first v one)) xs) (false_not (first w one) (weak.chain w x one (not_true (first w x) parts.0) e)) (all_low x one xs e parts.1)

  up_put_by : (x one : A) (xs : List A) (b : Bool) → first x one ≡ b → is_up first weak (x ∷ xs) ≡ true → is_up first weak (put priority name xs one) ≡ true
      → is_up first weak (cond b (x ∷ put priority name xs one) (one ∷ x ∷ xs)) ≡ true
  up_put_by x one xs true e up rest =
      let parts = both_true (list_all (λ w. not (first w x)) xs) (is_up first weak xs) up in
      and_true (list_all (λ w. not (first w x)) (put priority name xs one)) (is_up first weak (put priority name xs one))
      (all_put priority name (λ w. not (first w x)) xs one parts.0 (false_not (first one x) (weak.one_way x one e))) rest
  up_put_by x one xs false e up rest =
      let parts = both_true (list_all (λ w. not (first w x)) xs) (is_up first weak xs) up in
      and_true (list_all (λ w. not (first w one)) (x ∷ xs)) (is_up first weak (x ∷ xs))
      (and_true (not (first x one)) (list_all (λ w. not (first w one)) xs) (false_not (first x one) e) (all_low x one xs e parts.0)) up

  up_put : (xs : List A) (one : A) → is_up first weak xs ≡ true → is_up first weak (put priority name xs one) ≡ true
  up_put [] one up = refl
  up_put (x ∷ xs) one up =
      let parts = both_true (list_all (λ w. not (first w x)) xs) (is_up first weak xs) up in
      up_put_by x one xs (first x one) refl up (up_put xs one parts.1)

  not_both : (t y one : A) → first y one ≡ true → ties first t y ≡ true → ties first t one ≡ true → true ≡ false
  not_both t y one e a b =
      let p = both_true (not (first t y)) (not (first y t)) a in
      let q = both_true (not (first t one)) (not (first one t)) b in
      let no = weak.chain y t one (not_true (first y t) p.1) (not_true (first t one) q.0) in
      cc

  filter_put_by : (t y one : A) (ys : List A) (b : Bool) → first y one ≡ b
      → filter (ties first t) (put priority name ys one) ≡ filter (ties first t) (one ∷ ys)
      → filter (ties first t) (cond b (y ∷ put priority name ys one) (one ∷ y ∷ ys)) ≡ filter (ties first t) (one ∷ y ∷ ys)
  filter_put_by t y one ys true e rest =
      ap (λ l. cond (ties first t y) (y ∷ l) l) rest
      ∙ swapped (ties first t y) (ties first t one) y one (filter (ties first t) ys) (not_both t y one e)
  filter_put_by t y one ys false e rest = refl

  filter_put : (t : A) (xs : List A) (one : A) → filter (ties first t) (put priority name xs one) ≡ filter (ties first t) (one ∷ xs)
  filter_put t [] one = refl
  filter_put t (y ∷ ys) one = filter_put_by t y one ys (first y one) refl (filter_put t ys one)

  up_sorted : (done more : List A) → is_up first weak done ≡ true → is_up first weak (sorted_from priority name done more) ≡ true
  up_sorted done [] up = up
  up_sorted done (one ∷ more) up =
      up_sorted (placed priority name done one) more (ap (is_up first weak) (placed_is_put priority name done one) ∙ up_put done one up)

  filter_sorted : (t : A) (done more : List A) → filter (ties first t) (sorted_from priority name done more) ≡ filter (ties first t) (reverse more ++ done)
  filter_sorted t done [] = refl
  filter_sorted t done (one ∷ more) =
      filter_sorted t (placed priority name done one) more
      ∙ filter_append (ties first t) (reverse more) (placed priority name done one)
      ∙ ap (λ l. filter (ties first t) (reverse more) ++ l) (ap (filter (ties first t)) (placed_is_put priority name done one) ∙ filter_put t done one)
      ∙ sym (filter_append (ties first t) (reverse more) (one ∷ done))
      ∙ ap (filter (ties first t)) (sym (append_assoc (reverse more) (one ∷ []) done) ∙ ap (λ l. l ++ done) (sym (reverse-append (one ∷ []) more)))

  -- a stable sort of the list turned round is insertion of one after the other
  pub sorted_by_std : (items turned ys : List A) → turned ≡ reverse items → IsSortedBy (λ (x y : A). is_lt (start_order priority name x y)) ys
      → IsStableBy (λ (x y : A). is_lt (start_order priority name x y)) turned ys → ys ≡ sorted_from priority name [] items
  sorted_by_std items turned ys same up stable =
      one_only first weak ys (sorted_from priority name [] items) (up_of_sorted first weak ys up) (up_sorted [] items refl)
      (λ t. stable t ∙ ap (filter (ties first t)) (same ∙ sym (append-nil (reverse items))) ∙ sym (filter_sorted t [] items))
