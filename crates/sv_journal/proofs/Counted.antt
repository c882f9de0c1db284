-- Items read one after the other are the items read at once.
use Rattle.std.proofs.Common.{◌≡◌, ℕ, zero, suc, ◌-◌, ◌<◌, List, [], ◌∷◌, ◌++◌, Result, Ok, Err, refl, sym, ap, ◌∙◌, arith, append_assoc, append-nil}
use Rattle.sv_journal.specs.Reading.{Stops, ◌>>=◌, with_item}
use Rattle.sv_journal.specs.OrderReading.{with_items, items_at}
use Rattle.sv_journal.specs.declared.stop.Stop.{Stop}
use Rattle.sv_journal.specs.declared.stop.Stop.TheVariants.{At, OutOfMemory}

-- nothing was read before
pub items_begin : {A : Type 0} (r : Result (List A × List ℕ) ℕ) → with_items [] r ≡ r
items_begin (Ok r) = refl
items_begin (Err left) = refl

-- nothing is left to read
pub items_none : {A : Type 0} (item_at : List ℕ → Result (A × List ℕ) ℕ) (left : ℕ) (bs : List ℕ) (xs : List A) (all : Result (List A × List ℕ) ℕ)
    → left ≡ 0 → with_items xs (items_at item_at left bs) ≡ all → all ≡ Ok (xs, bs)
items_none item_at zero bs xs all none e = sym e ∙ ap (λ ys. Ok (ys, bs)) (append-nil xs)
items_none item_at (suc n) bs xs all none e = absurd (omega arith)

pub joins : {A : Type 0} (xs : List A) (x : A) (r : Result (List A × List ℕ) ℕ) → with_items xs (with_item x r) ≡ with_items (xs ++ x ∷ []) r
joins xs x (Ok r) = ap (λ ys. Ok (ys, r.1)) (sym (append_assoc xs (x ∷ []) r.0))
joins xs x (Err left) = refl

-- one more was read
pub items_more : {A : Type 0} (item_at : List ℕ → Result (A × List ℕ) ℕ) (left n : ℕ) (bs rest : List ℕ) (xs ys : List A) (x : A) (all : Result (List A × List ℕ) ℕ)
    → 0 < left → n ≡ left - 1 → ys ≡ xs ++ x ∷ [] → item_at bs ≡ Ok (x, rest) → with_items xs (items_at item_at left bs) ≡ all
    → with_items ys (items_at item_at n rest) ≡ all
items_more item_at zero n bs rest xs ys x all some fewer longer read e = absurd (omega arith)
items_more item_at (suc m) n bs rest xs ys x all some fewer longer read e =
    let same : n ≡ m = omega arith in
    ap (λ zs. with_items zs (items_at item_at n rest)) longer
    ∙ ap (λ k. with_items (xs ++ x ∷ []) (items_at item_at k rest)) same
    ∙ sym (joins xs x (items_at item_at m rest))
    ∙ ap (λ r. with_items xs (r >>= (λ r. with_item r.0 (items_at item_at m r.1)))) (sym read)
    ∙ e

pub stops_so : {A : Type 0} (stop : Stop) (xs : List A) (r : Result (A × List ℕ) ℕ) (next : A × List ℕ → Result (List A × List ℕ) ℕ) (all : Result (List A × List ℕ) ℕ)
    → Stops stop r → with_items xs (r >>= next) ≡ all → Stops stop all
stops_so (At left) xs (Ok x) next all stopped e = cc stopped
stops_so (At left) xs (Err other) next all stopped e = sym e ∙ ap (λ (r : Result _ ℕ). with_items xs (r >>= next)) stopped
stops_so OutOfMemory xs r next all stopped e = tt

-- the next one isn't there
pub items_stop : {A : Type 0} (stop : Stop) (item_at : List ℕ → Result (A × List ℕ) ℕ) (left : ℕ) (bs : List ℕ) (xs : List A) (all : Result (List A × List ℕ) ℕ)
    → 0 < left → Stops stop (item_at bs) → with_items xs (items_at item_at left bs) ≡ all → Stops stop all
items_stop stop item_at zero bs xs all some stopped e = absurd (omega arith)
items_stop stop item_at (suc n) bs xs all some stopped e =
    stops_so stop xs (item_at bs) (λ r. with_item r.0 (items_at item_at n r.1)) all stopped e
