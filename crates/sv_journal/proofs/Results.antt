-- What two equal answers of a reader hold.
use Rattle.std.proofs.Common.{◌≡◌, ℕ, List, ◌∷◌, Result, Ok, Err, sym, ap, subst}
use Rattle.std.specs.Result.{result_unwrap_or}
use Rattle.sv_journal.specs.Reading.{Stops, with_item}
use Rattle.sv_journal.specs.declared.stop.Stop.{Stop}
use Rattle.sv_journal.specs.declared.stop.Stop.TheVariants.{At}

pub ok_value : {A : Type 0} (x y : A) → ◌≡◌ {A = Result A ℕ} (Ok x) (Ok y) → x ≡ y
ok_value {A} x y e = ap (λ (r : Result A ℕ). result_unwrap_or r x) e

pub ok_pair : {A B : Type 0} (a c : A) (b d : B) → ◌≡◌ {A = Result (A × B) ℕ} (Ok (a, b)) (Ok (c, d)) → (a ≡ c) × (b ≡ d)
ok_pair {A} {B} a c b d e =
    let p : ◌≡◌ {A = A × B} (a, b) (c, d) = ok_value (a, b) (c, d) e in
    (ap (λ (q : A × B). q.0) p, ap (λ (q : A × B). q.1) p)

pub never : {A : Type 0} (left : ℕ) (x : A) → ◌≡◌ {A = Result A ℕ} (Err left) (Ok x) → ⊥
never left x e = cc e

pub stopped : {Y : Type 0} (stop : Stop) (left : ℕ) (read : Result Y ℕ) → stop ≡ At left → Stops stop read → read ≡ Err left
stopped stop left read e h = subst (λ (s : Stop). Stops s read) e h

-- an item, and what was read after it
pub record ItemSplit {A : Type 0} (x : A) (r : Result (List A × List ℕ) ℕ) (xs : List A) (rest : List ℕ) : Type 0 where
  pub others : List A
  pub is : xs ≡ x ∷ others
  pub read : r ≡ Ok (others, rest)

pub with_item_ok : {A : Type 0} (x : A) (r : Result (List A × List ℕ) ℕ) (xs : List A) (rest : List ℕ) → with_item x r ≡ Ok (xs, rest) → ItemSplit x r xs rest
with_item_ok x (Ok r) xs rest e =
    let p = ok_pair (x ∷ r.0) xs r.1 rest e in
    record { others = r.0; is = sym p.0; read = ap (λ (l : List ℕ). Ok (r.0, l)) p.1 }
with_item_ok x (Err left) xs rest e = cc e
