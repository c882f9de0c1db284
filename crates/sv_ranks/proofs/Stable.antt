-- One list only is in order and keeps ties in their order.
use Rattle.std.proofs.Common.{◌≡◌, ℕ, suc, ◌+◌, ◌<◌, List, [], ◌∷◌, ◌++◌, length, Bool, true, false, cond, not, ◌&&◌, refl, ap, sym, ◌∙◌, arith, get_or, subst}
use Rattle.std.specs.Cmp.{IsStrictWeakOrder}
use Rattle.std.specs.List.{filter, list_all}
use Rattle.std.specs.List.Sorted.{IsSortedBy, ties}
use Rattle.std.proofs.lemmas.List.Sorted.{sorted_far}
use Rattle.sv_ranks.proofs.Placing.{and_true, both_true, false_not, not_true}

module _ {X : Type 0} (lt : X → X → Bool) (o : IsStrictWeakOrder lt) where
  -- each starts before none of those before it
  abbrev pub is_up : List X → Bool
  is_up [] = true
  is_up (x ∷ xs) = list_all (λ y. not (lt y x)) xs && is_up xs

  itself_by : (b : Bool) → (b ≡ true → b ≡ false) → b ≡ false
  itself_by true f = f refl
  itself_by false f = refl

  itself : (x : X) → lt x x ≡ false
  itself x = itself_by (lt x x) (o.one_way x x)

  past_by : (y z w : X) (b : Bool) → lt y w ≡ b → lt y z ≡ true → lt w z ≡ false → b ≡ true
  past_by y z w true is e f = refl
  past_by y z w false is e f = let no = o.chain y w z is f in cc

  past : (y z w : X) → lt y z ≡ true → lt w z ≡ false → lt y w ≡ true
  past y z w e f = past_by y z w (lt y w) refl e f

  none_tie : (y z : X) (zs : List X) → lt y z ≡ true → list_all (λ w. not (lt w z)) zs ≡ true → filter (ties lt y) zs ≡ []
  none_tie y z [] e all = refl
  none_tie y z (w ∷ zs) e all =
      let parts = both_true (not (lt w z)) (list_all (λ v. not (lt v z)) zs) all in
      rw (past y z w e (not_true (lt w z) parts.0)) (none_tie y z zs e parts.1)

  -- the first that is shown tells nothing else
  apart : (y z : X) (ys zs : List X) → lt y z ≡ true → list_all (λ w. not (lt w z)) zs ≡ true
      → filter (ties lt y) (y ∷ ys) ≡ filter (ties lt y) (z ∷ zs) → true ≡ false
  apart y z ys zs e all h =
      let one = itself y in
      let none = none_tie y z zs e all in
      let same = rw (one, e, none) at h in
      cc

  abbrev head : X → List X → X
  head d [] = d
  head d (x ∷ xs) = x

  abbrev tail : List X → List X
  tail [] = []
  tail (x ∷ xs) = xs

  heads_by : (y z : X) (ys zs : List X) (a b : Bool) → lt y z ≡ a → lt z y ≡ b
      → list_all (λ w. not (lt w y)) ys ≡ true → list_all (λ w. not (lt w z)) zs ≡ true
      → ((x : X) → filter (ties lt x) (y ∷ ys) ≡ filter (ties lt x) (z ∷ zs)) → y ≡ z
  heads_by y z ys zs true b e f u v h = let no = apart y z ys zs e v (h y) in cc
  heads_by y z ys zs false true e f u v h = let no = apart z y zs ys f u (sym (h z)) in cc
  heads_by y z ys zs false false e f u v h =
      let one = itself y in
      let here = h y in
      let same : y ∷ filter (ties lt y) ys ≡ z ∷ filter (ties lt y) zs = rw (one, e, f) at here in
      ap (head y) same

  cancel : (b : Bool) (y : X) (xs ys : List X) → cond b (y ∷ xs) xs ≡ cond b (y ∷ ys) ys → xs ≡ ys
  cancel true y xs ys e = ap tail e
  cancel false y xs ys e = e

  pub one_only : (ys zs : List X) → is_up ys ≡ true → is_up zs ≡ true → ((x : X) → filter (ties lt x) ys ≡ filter (ties lt x) zs) → ys ≡ zs
  one_only [] [] u v h = refl
  one_only [] (z ∷ zs) u v h = let one = itself z in let here = h z in let never = rw one at here in cc
  one_only (y ∷ ys) [] u v h = let one = itself y in let here = h y in let never = rw one at here in cc
  one_only (y ∷ ys) (z ∷ zs) u v h =
      let us = both_true (list_all (λ w. not (lt w y)) ys) (is_up ys) u in
      let vs = both_true (list_all (λ w. not (lt w z)) zs) (is_up zs) v in
      let same = heads_by y z ys zs (lt y z) (lt z y) refl refl us.0 vs.0 h in
      ap (λ l. y ∷ l) (one_only ys zs us.1 vs.1
      (λ x. cancel (ties lt x y) y (filter (ties lt x) ys) (filter (ties lt x) zs) (h x ∙ ap (λ w. filter (ties lt x) (w ∷ zs)) (sym same))))
      ∙ ap (λ w. w ∷ zs) same

  far_all : (y : X) (xs : List X) → ((j : ℕ) (d : X) → j < length xs → lt (get_or xs j d) y ≡ false) → list_all (λ w. not (lt w y)) xs ≡ true
  far_all y [] far = refl
  far_all y (x ∷ xs) far =
      and_true (not (lt x y)) (list_all (λ w. not (lt w y)) xs) (false_not (lt x y) (far 0 x (omega arith)))
      (far_all y xs (λ j d within. far (suc j) d (omega (arith, within))))

  pub up_of_sorted : (xs : List X) → IsSortedBy lt xs → is_up xs ≡ true
  up_of_sorted [] up = refl
  up_of_sorted (x ∷ xs) up =
      and_true (list_all (λ w. not (lt w x)) xs) (is_up xs)
      (far_all x xs (λ j d within. sorted_far lt o (x ∷ xs) up 0 (suc j) d (omega arith) (omega (arith, within))))
      (up_of_sorted xs (λ k d low within.
      let e : suc k + 1 ≡ suc (k + 1) = omega arith in
      subst (λ (n : ℕ). lt (get_or (x ∷ xs) n d) (get_or xs k d) ≡ false) e (up (suc k) d (omega arith) (omega (arith, within)))))

pub filter_append : {X : Type 0} (test : X → Bool) (xs ys : List X) → filter test (xs ++ ys) ≡ filter test xs ++ filter test ys
filter_append test [] ys = refl
filter_append test (x ∷ xs) ys = filter_by test (test x) x (filter test (xs ++ ys)) (filter test xs) (filter test ys) (filter_append test xs ys) where
  filter_by : {X : Type 0} (test : X → Bool) (b : Bool) (x : X) (all xs ys : List X) → all ≡ xs ++ ys → cond b (x ∷ all) all ≡ cond b (x ∷ xs) xs ++ ys
  filter_by test true x all xs ys e = ap (λ l. x ∷ l) e
  filter_by test false x all xs ys e = e

pub swapped : {X : Type 0} (a b : Bool) (y one : X) (zs : List X) → (a ≡ true → b ≡ true → true ≡ false)
    → cond a (y ∷ cond b (one ∷ zs) zs) (cond b (one ∷ zs) zs) ≡ cond b (one ∷ cond a (y ∷ zs) zs) (cond a (y ∷ zs) zs)
swapped true true y one zs apart = let never = apart refl refl in cc
swapped true false y one zs apart = refl
swapped false true y one zs apart = refl
swapped false false y one zs apart = refl
