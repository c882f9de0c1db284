-- One more in its place: the order is kept, and so is what holds of all.
use Rattle.std.proofs.Common.{◌≡◌, ℕ, suc, ◌+◌, ℤ, List, [], ◌∷◌, ◌++◌, length, Bool, true, false, cond, not, ◌&&◌, ◌||◌, refl, ap, sym, ◌∙◌, arith}
use Rattle.std.proofs.lemmas.Cmp.{then_total, on_total, int_cmp_total, nat_list_cmp_total}
use Rattle.std.proofs.lemmas.Map.Text.{is_eq-slice_cmp}
use Rattle.std.specs.Cmp.{IsTotalOrder}
use Rattle.std.specs.Cmp.Lexicographic.{slice_cmp, nat_list_eq_equiv}
use Rattle.std.specs.List.{insert, prefix_len, list_any, list_all}
use Rattle.std.specs.Ordering.{is_lt, is_eq, int_cmp, nat_cmp, ordering_then, ordering_reverse}
use Rattle.std.specs.Str.{bytes_eq}
use Rattle.std.specs.declared.cmp.Ordering.{Ordering}
use Rattle.std.specs.declared.cmp.Ordering.TheVariants.{Less, Equal, Greater}
use Rattle.sv_base.specs.Order.{start_order, is_before, is_rising, are_distinct}
use Rattle.sv_ranks.specs.Ranks.{placed}

pub both_true : (a b : Bool) → (a && b) ≡ true → (a ≡ true) × (b ≡ true)
both_true true b e = (refl, e)
both_true false b e = cc

pub and_true : (a b : Bool) → a ≡ true → b ≡ true → (a && b) ≡ true
and_true a b e f = rw (e, f) refl

pub both_false : (a b : Bool) → (a || b) ≡ false → (a ≡ false) × (b ≡ false)
both_false true b e = cc
both_false false b e = (refl, e)

or_false : (a b : Bool) → a ≡ false → b ≡ false → (a || b) ≡ false
or_false a b e f = rw (e, f) refl

pub not_true : (a : Bool) → not a ≡ true → a ≡ false
not_true true e = cc
not_true false e = refl

pub false_not : (a : Bool) → a ≡ false → not a ≡ true
false_not a e = rw e refl

or_swap : (a b c : Bool) → (a || (b || c)) ≡ (b || (a || c))
or_swap true true c = refl
or_swap true false c = refl
or_swap false true c = refl
or_swap false false c = refl

pub or_last : (a b : Bool) → (a || b) ≡ (b || (a || false))
or_last true true = refl
or_last true false = refl
or_last false true = refl
or_last false false = refl

then_equal : (one other : Ordering) → ordering_then one other ≡ Equal → other ≡ Equal
then_equal Less other e = cc
then_equal Equal other e = e
then_equal Greater other e = cc

-- of two that are told apart and don't stand in order, the other starts first
other_first : (order back : Ordering) (same : Bool) → back ≡ ordering_reverse order → (order ≡ Equal → same ≡ true)
    → is_lt order ≡ false → same ≡ false → is_lt back ≡ true
other_first Less back same turned ties late apart = cc
other_first Equal back same turned ties late apart = let t = ties refl in cc
other_first Greater back same turned ties late apart = rw turned refl

-- one of these has this name
abbrev pub has_name : {A : Type 0} → (A → List ℕ) → List ℕ → List A → Bool
has_name name text xs = list_any (λ x. bytes_eq (name x) text) xs

abbrev pub total : {A : Type 0} → (A → ℕ) → List A → ℕ
total f [] = 0
total f (x ∷ xs) = f x + total f xs

pub length_total : {A : Type 0} (xs : List A) → total (λ x. 1) xs ≡ length xs
length_total [] = refl
length_total (x ∷ xs) = let rest = length_total xs in omega arith

inserted_next : {A : Type 0} (x one : A) (xs : List A) (place : ℕ) → insert (x ∷ xs) (1 + place) one ≡ x ∷ insert xs place one
inserted_next x one xs place = let next : 1 + place ≡ suc place = omega arith in rw next refl

module _ {A : Type 0} (priority : A → ℤ) (name : A → List ℕ) where
  abbrev starts_first : A → A → Bool
  starts_first x y = is_lt (start_order priority name x y)

  -- placed, element by element
  abbrev pub put : List A → A → List A
  put [] one = one ∷ []
  put (x ∷ xs) one = cond (starts_first x one) (x ∷ put xs one) (one ∷ x ∷ xs)

  placed_by : (x one : A) (xs : List A) (first : Bool) → starts_first x one ≡ first
      → insert xs (prefix_len (λ other. starts_first other one) xs) one ≡ put xs one
      → insert (x ∷ xs) (cond first (1 + prefix_len (λ other. starts_first other one) xs) 0) one ≡ cond first (x ∷ put xs one) (one ∷ x ∷ xs)
  placed_by x one xs true e rest = inserted_next x one xs (prefix_len (λ other. starts_first other one) xs) ∙ ap (λ ys. x ∷ ys) rest
  placed_by x one xs false e rest = refl

  inserted_is_put : (xs : List A) (one : A) → insert xs (prefix_len (λ other. starts_first other one) xs) one ≡ put xs one
  inserted_is_put [] one = refl
  inserted_is_put (x ∷ xs) one = placed_by x one xs (starts_first x one) refl (inserted_is_put xs one)

  pub placed_is_put : (xs : List A) (one : A) → placed priority name xs one ≡ put xs one
  unfolding placed
  placed_is_put xs one = inserted_is_put xs one

  pub order_total : IsTotalOrder (start_order priority name)
  order_total = then_total (on_total priority int_cmp_total) (on_total name nat_list_cmp_total)

  ties_by_name : (x y : A) → start_order priority name x y ≡ Equal → bytes_eq (name x) (name y) ≡ true
  ties_by_name x y e =
      let names = then_equal (int_cmp (priority x) (priority y)) (slice_cmp nat_cmp (name x) (name y)) e in
      sym (is_eq-slice_cmp (name x) (name y)) ∙ ap is_eq names

  late_turned : (x y : A) → starts_first x y ≡ false → bytes_eq (name x) (name y) ≡ false → starts_first y x ≡ true
  late_turned x y late apart =
      other_first (start_order priority name x y) (start_order priority name y x) (bytes_eq (name x) (name y))
      (order_total.antisymm y x) (ties_by_name x y) late apart

  name_put_by : (text : List ℕ) (x one : A) (xs : List A) (first : Bool) → has_name name text (put xs one) ≡ (bytes_eq (name one) text || has_name name text xs)
      → has_name name text (cond first (x ∷ put xs one) (one ∷ x ∷ xs)) ≡ (bytes_eq (name one) text || has_name name text (x ∷ xs))
  name_put_by text x one xs true rest =
      ap (λ b. bytes_eq (name x) text || b) rest ∙ or_swap (bytes_eq (name x) text) (bytes_eq (name one) text) (has_name name text xs)
  name_put_by text x one xs false rest = refl

  name_put : (text : List ℕ) (xs : List A) (one : A) → has_name name text (put xs one) ≡ (bytes_eq (name one) text || has_name name text xs)
  name_put text [] one = refl
  name_put text (x ∷ xs) one = name_put_by text x one xs (starts_first x one) (name_put text xs one)

  before_put_by : (x y one : A) (ys : List A) (first : Bool) → starts_first x y ≡ true → starts_first x one ≡ true
      → is_before priority name x (cond first (y ∷ put ys one) (one ∷ y ∷ ys)) ≡ true
  before_put_by x y one ys true e f = e
  before_put_by x y one ys false e f = f

  before_put : (x one : A) (xs : List A) → is_before priority name x xs ≡ true → starts_first x one ≡ true → is_before priority name x (put xs one) ≡ true
  before_put x one [] e f = f
  before_put x one (y ∷ ys) e f = before_put_by x y one ys (starts_first y one) e f

  rising_put_by : (x one : A) (xs : List A) (first : Bool) → starts_first x one ≡ first → is_rising priority name (x ∷ xs) ≡ true
      → has_name name (name one) (x ∷ xs) ≡ false → is_rising priority name (put xs one) ≡ true
      → is_rising priority name (cond first (x ∷ put xs one) (one ∷ x ∷ xs)) ≡ true
  rising_put_by x one xs true e rising apart rest =
      let parts = both_true (is_before priority name x xs) (is_rising priority name xs) rising in
      and_true (is_before priority name x (put xs one)) (is_rising priority name (put xs one)) (before_put x one xs parts.0 e) rest
  rising_put_by x one xs false e rising apart rest =
      let other = both_false (bytes_eq (name x) (name one)) (has_name name (name one) xs) apart in
      and_true (starts_first one x) (is_rising priority name (x ∷ xs)) (late_turned x one e other.0) rising

  rising_put : (xs : List A) (one : A) → is_rising priority name xs ≡ true → has_name name (name one) xs ≡ false → is_rising priority name (put xs one) ≡ true
  rising_put [] one rising apart = refl
  rising_put (x ∷ xs) one rising apart =
      let parts = both_true (is_before priority name x xs) (is_rising priority name xs) rising in
      let others = both_false (bytes_eq (name x) (name one)) (has_name name (name one) xs) apart in
      rising_put_by x one xs (starts_first x one) refl rising apart (rising_put xs one parts.1 others.1)

  distinct_put_by : (x one : A) (xs : List A) (first : Bool) → are_distinct name (x ∷ xs) ≡ true
      → has_name name (name one) (x ∷ xs) ≡ false → are_distinct name (put xs one) ≡ true
      → are_distinct name (cond first (x ∷ put xs one) (one ∷ x ∷ xs)) ≡ true
  distinct_put_by x one xs true distinct apart rest =
      let parts = both_true (not (has_name name (name x) xs)) (are_distinct name xs) distinct in
      let others = both_false (bytes_eq (name x) (name one)) (has_name name (name one) xs) apart in
      let alone = or_false (bytes_eq (name one) (name x)) (has_name name (name x) xs) (nat_list_eq_equiv.symm (name one) (name x) ∙ others.0) (not_true (has_name name (name x) xs) parts.0) in
      and_true (not (has_name name (name x) (put xs one))) (are_distinct name (put xs one)) (false_not (has_name name (name x) (put xs one)) (name_put (name x) xs one ∙ alone)) rest
  distinct_put_by x one xs false distinct apart rest =
      and_true (not (has_name name (name one) (x ∷ xs))) (are_distinct name (x ∷ xs)) (false_not (has_name name (name one) (x ∷ xs)) apart) distinct

  distinct_put : (xs : List A) (one : A) → are_distinct name xs ≡ true → has_name name (name one) xs ≡ false → are_distinct name (put xs one) ≡ true
  distinct_put [] one distinct apart = refl
  distinct_put (x ∷ xs) one distinct apart =
      let parts = both_true (not (has_name name (name x) xs)) (are_distinct name xs) distinct in
      let others = both_false (bytes_eq (name x) (name one)) (has_name name (name one) xs) apart in
      distinct_put_by x one xs (starts_first x one) distinct apart (distinct_put xs one parts.1 others.1)

  total_put_by : (f : A → ℕ) (x one : A) (xs : List A) (first : Bool) → total f (put xs one) ≡ f one + total f xs
      → total f (cond first (x ∷ put xs one) (one ∷ x ∷ xs)) ≡ f one + total f (x ∷ xs)
  total_put_by f x one xs true rest = omega (arith, rest)
  total_put_by f x one xs false rest = refl

  total_put : (f : A → ℕ) (xs : List A) (one : A) → total f (put xs one) ≡ f one + total f xs
  total_put f [] one = refl
  total_put f (x ∷ xs) one = total_put_by f x one xs (starts_first x one) (total_put f xs one)

  all_put_by : (ok : A → Bool) (x one : A) (xs : List A) (first : Bool) → ok x ≡ true → ok one ≡ true → list_all ok xs ≡ true → list_all ok (put xs one) ≡ true
      → list_all ok (cond first (x ∷ put xs one) (one ∷ x ∷ xs)) ≡ true
  all_put_by ok x one xs true e f g rest = and_true (ok x) (list_all ok (put xs one)) e rest
  all_put_by ok x one xs false e f g rest = and_true (ok one) (list_all ok (x ∷ xs)) f (and_true (ok x) (list_all ok xs) e g)

  pub all_put : (ok : A → Bool) (xs : List A) (one : A) → list_all ok xs ≡ true → ok one ≡ true → list_all ok (put xs one) ≡ true
  all_put ok [] one all is = and_true (ok one) true is refl
  all_put ok (x ∷ xs) one all is =
      let parts = both_true (ok x) (list_all ok xs) all in
      all_put_by ok x one xs (starts_first x one) parts.0 is parts.1 (all_put ok xs one parts.1 is)

  -- ---- the laws

  -- the names are those of before, and the one's
  pub named_placed : (text : List ℕ) (xs : List A) (one : A) → has_name name text (placed priority name xs one) ≡ (bytes_eq (name one) text || has_name name text xs)
  named_placed text xs one = rw (placed_is_put xs one) (name_put text xs one)

  -- start order is kept, where the name is new
  pub rising_placed : (xs : List A) (one : A) → is_rising priority name xs ≡ true → has_name name (name one) xs ≡ false
      → is_rising priority name (placed priority name xs one) ≡ true
  rising_placed xs one rising apart = rw (placed_is_put xs one) (rising_put xs one rising apart)

  -- and names stay distinct
  pub distinct_placed : (xs : List A) (one : A) → are_distinct name xs ≡ true → has_name name (name one) xs ≡ false
      → are_distinct name (placed priority name xs one) ≡ true
  distinct_placed xs one distinct apart = rw (placed_is_put xs one) (distinct_put xs one distinct apart)

  pub total_placed : (f : A → ℕ) (xs : List A) (one : A) → total f (placed priority name xs one) ≡ f one + total f xs
  total_placed f xs one = rw (placed_is_put xs one) (total_put f xs one)

  pub length_placed : (xs : List A) (one : A) → length (placed priority name xs one) ≡ length xs + 1
  length_placed xs one = omega (arith, total_placed (λ x. 1) xs one, length_total (placed priority name xs one), length_total xs)

  pub all_placed : (ok : A → Bool) (xs : List A) (one : A) → list_all ok xs ≡ true → ok one ≡ true → list_all ok (placed priority name xs one) ≡ true
  all_placed ok xs one all is = rw (placed_is_put xs one) (all_put ok xs one all is)

  -- after all that start before it
  put_last : (xs : List A) (one : A) → list_all (λ other. starts_first other one) xs ≡ true → put xs one ≡ xs ++ one ∷ []
  put_last [] one before = refl
  put_last (x ∷ xs) one before =
      let parts = both_true (starts_first x one) (list_all (λ other. starts_first other one) xs) before in
      rw (parts.0, put_last xs one parts.1) refl

  pub placed_last : (xs : List A) (one : A) → list_all (λ other. is_lt (start_order priority name other one)) xs ≡ true
      → placed priority name xs one ≡ xs ++ one ∷ []
  placed_last xs one before = placed_is_put xs one ∙ put_last xs one before
