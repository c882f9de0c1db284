-- A list that grows by what each element of another gives.
use Rattle.std.proofs.Common.{◌≡◌, ◌<◌, ◌≤◌, ◌-◌, List, [], ◌∷◌, ◌++◌, length, take, drop, get_or, sym, ◌∙◌, ap, arith, append_assoc, append-nil}
use Rattle.std.proofs.lemmas.List.{take_all}
use Rattle.std.specs.List.{flat_map}
use Rattle.std.specs.Prelude.{map}

pub gathered_next : {A : Type 0} {B : Type 0} (f : A → List B) (left : List A) (item : A) (out next all : List B) → 1 ≤ length left
    → item ≡ get_or left 0 item → next ≡ out ++ f item → out ++ flat_map f left ≡ all
    → next ++ flat_map f (take (length left - 1) (drop 1 left)) ≡ all
gathered_next f [] item out next all some read is so_far = absurd (omega (arith, some))
gathered_next f (x ∷ xs) item out next all some read is so_far =
    ap (λ t. next ++ flat_map f t) (take_all (length (x ∷ xs) - 1) xs (omega arith))
    ∙ ap (λ l. l ++ flat_map f xs) is
    ∙ append_assoc out (f item) (flat_map f xs)
    ∙ ap (λ y. out ++ (f y ++ flat_map f xs)) read
    ∙ so_far

pub gathered_end : {A : Type 0} {B : Type 0} (f : A → List B) (left : List A) (out all : List B) → length left < 1
    → out ++ flat_map f left ≡ all → out ≡ all
gathered_end f [] out all none so_far = sym (append-nil out) ∙ so_far
gathered_end f (x ∷ xs) out all none so_far = absurd (omega (arith, none))

pub mapped_next : {A : Type 0} {B : Type 0} (f : A → B) (left : List A) (item : A) (out next all : List B) → 1 ≤ length left
    → item ≡ get_or left 0 item → next ≡ out ++ f item ∷ [] → out ++ map f left ≡ all
    → next ++ map f (take (length left - 1) (drop 1 left)) ≡ all
mapped_next f [] item out next all some read is so_far = absurd (omega (arith, some))
mapped_next f (x ∷ xs) item out next all some read is so_far =
    ap (λ t. next ++ map f t) (take_all (length (x ∷ xs) - 1) xs (omega arith))
    ∙ ap (λ l. l ++ map f xs) is
    ∙ append_assoc out (f item ∷ []) (map f xs)
    ∙ ap (λ y. out ++ (f y ∷ map f xs)) read
    ∙ so_far

pub mapped_end : {A : Type 0} {B : Type 0} (f : A → B) (left : List A) (out all : List B) → length left < 1
    → out ++ map f left ≡ all → out ≡ all
mapped_end f [] out all none so_far = sym (append-nil out) ∙ so_far
mapped_end f (x ∷ xs) out all none so_far = absurd (omega (arith, none))
