-- The order in which things start (the manual's chapter on configuration, `priority`).
use Rattle.std.specs.Prelude.{ℤ, List, [], ◌∷◌, ℕ, Bool, true, ◌&&◌, not}
use Rattle.std.specs.List.{list_any}
use Rattle.std.specs.Ordering.{int_cmp, nat_cmp, ordering_then, is_lt}
use Rattle.std.specs.Str.{bytes_eq}
use Rattle.std.specs.declared.cmp.Ordering.{Ordering}
use Rattle.std.specs.Cmp.Lexicographic.{slice_cmp}

-- a lower priority comes first, and among equal ones the lower name, by its bytes
abbrev pub start_order : {A : Type 0} → (A → ℤ) → (A → List ℕ) → A → A → Ordering
start_order priority name x y =
    ordering_then (int_cmp (priority x) (priority y)) (slice_cmp nat_cmp (name x) (name y))

-- x starts before the first of these, if there is one
abbrev pub is_before : {A : Type 0} → (A → ℤ) → (A → List ℕ) → A → List A → Bool
is_before priority name x [] = true
is_before priority name x (y ∷ ys) = is_lt (start_order priority name x y)

-- each starts before the one after it
abbrev pub is_rising : {A : Type 0} → (A → ℤ) → (A → List ℕ) → List A → Bool
is_rising priority name [] = true
is_rising priority name (x ∷ xs) = is_before priority name x xs && is_rising priority name xs

-- one of these has the name of x
abbrev pub is_named_again : {A : Type 0} → (A → List ℕ) → A → List A → Bool
is_named_again name x xs = list_any (λ y. bytes_eq (name y) (name x)) xs

-- no two have one name
abbrev pub are_distinct : {A : Type 0} → (A → List ℕ) → List A → Bool
are_distinct name [] = true
are_distinct name (x ∷ xs) = not (is_named_again name x xs) && are_distinct name xs
