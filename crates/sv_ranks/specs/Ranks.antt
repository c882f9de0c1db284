-- Start order, lower priority first, then the lower name by its bytes: where one more goes (the
-- manual's chapter on configuration, `priority`).
use Rattle.std.specs.Prelude.{ℕ, ℤ, List, [], ◌∷◌, insert}
use Rattle.std.specs.List.{prefix_len}
use Rattle.std.specs.Ordering.{is_lt}
use Rattle.sv_base.specs.Order.{start_order}

-- these with one more, after all that start before it
unfoldable pub placed : {A : Type 0} → (A → ℤ) → (A → List ℕ) → List A → A → List A
placed priority name before one =
    insert before (prefix_len (λ other. is_lt (start_order priority name other one)) before) one

-- each in its place among those before it
abbrev pub sorted_from : {A : Type 0} → (A → ℤ) → (A → List ℕ) → List A → List A → List A
sorted_from priority name done [] = done
sorted_from priority name done (one ∷ more) =
    sorted_from priority name (placed priority name done one) more
