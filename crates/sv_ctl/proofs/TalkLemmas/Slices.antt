-- The first of a slice, and the rest.
use Rattle.std.proofs.Common.{◌≡◌, ◌-◌, ◌≤◌, ℕ, List, [], ◌∷◌, arith, length, take, drop, get_or, refl, sym, ap, ◌∙◌}
use Rattle.std.proofs.Math.Seq.{take-length}

abbrev pub rest_of : {A : Type 0} → List A → List A
rest_of left = take (length left - 1) (drop 1 left)

tail_is : {A : Type 0} (item : A) (items : List A) → take (length (item ∷ items) - 1) (drop 1 (item ∷ items)) ≡ items
tail_is item items = ap (λ n. take n items) (omega arith) ∙ take-length items

pub first_and_rest : {A : Type 0} (left : List A) (item other : A) → 1 ≤ length left → item ≡ get_or left 0 other
    → left ≡ item ∷ rest_of left
first_and_rest [] item other some is = absurd (omega (arith, some))
first_and_rest (x ∷ xs) item other some is = ap (λ y. y ∷ xs) (sym is) ∙ ap (λ l. item ∷ l) (sym (tail_is x xs))
