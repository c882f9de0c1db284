-- The column of a line that a sharp reader refuses.
use Rattle.std.proofs.Common.{◌≡◌, ℕ, suc, ◌+◌, ◌-◌, ◌<◌, ◌≤◌, min, List, [], ◌∷◌, ◌++◌, length, take, drop, Result, Ok, Err, refl, sym, ap, ◌∙◌, arith, append_assoc, length-append}
use Rattle.std.proofs.lemmas.List.{take-append-drop, take-append-le, take_at}
use Rattle.sv_journal.specs.Column.{IsFront, IsColumn}
use Rattle.sv_journal.specs.Limits.{line_limit}
use Rattle.sv_journal.proofs.Results.{never}
use Rattle.sv_journal.proofs.Sharp.{Sharp, any}

-- h reads each line of this kind, and nothing else
pub record Exact {X : Type 0} (h : List ℕ → Result X ℕ) (Fits : X → Type 0) (line_of : X → List ℕ) : Type 0 where
  pub takes : (bs : List ℕ) (x : X) → h bs ≡ Ok x → bs ≡ line_of x
  pub fits : (bs : List ℕ) (x : X) → h bs ≡ Ok x → Fits x
  pub again : (x : X) → Fits x → h (line_of x) ≡ Ok x
  pub sharp : Sharp h any

no_further : {X : Type 0} (h : List ℕ → Result X ℕ) (Fits : X → Type 0) (line_of : X → List ℕ) → Exact h Fits line_of → (bs front bad : List ℕ) → bs ≡ front ++ bad
    → ((b : ℕ) (more other : List ℕ) → bad ≡ b ∷ more → h (front ++ b ∷ other) ≡ Err (suc (length other))) → (column : ℕ) → column ≡ length front → column < length bs
    → IsFront Fits line_of (take (column + 1) bs) → ⊥
no_further h Fits line_of exact bs front [] parts local column is h1 w = let x = ap length parts in let y = length-append front [] in absurd (omega arith)
no_further h Fits line_of exact bs front (b ∷ more) parts local column is h1 w =
    let size : length (front ++ b ∷ []) ≡ column + 1 = let x = length-append front (b ∷ []) in omega arith in
    let cut : take (column + 1) bs ≡ front ++ b ∷ [] = ap (take (column + 1)) (parts ∙ sym (append_assoc front (b ∷ []) more)) ∙ take_at (front ++ b ∷ []) more (column + 1) size in
    let line : line_of w.0 ≡ front ++ b ∷ w.1 = w.3 ∙ ap (λ (l : List ℕ). l ++ w.1) cut ∙ append_assoc front (b ∷ []) w.1 in
    never (suc (length w.1)) w.0 (sym (local b more w.1 refl) ∙ ap h (sym line) ∙ exact.again w.0 w.2)

pub column_of : {X : Type 0} (h : List ℕ → Result X ℕ) (Fits : X → Type 0) (line_of : X → List ℕ) → Exact h Fits line_of → (bs : List ℕ) (left column : ℕ) → h bs ≡ Err left
    → column ≡ min (length bs - left) line_limit → IsColumn Fits line_of bs column
column_of h Fits line_of exact bs left column e is =
    let f = exact.sharp.fails bs left e in
    let sizes : length bs ≡ length f.front + length f.bad = ap length f.parts ∙ length-append f.front f.bad in
    let size = f.size in
    let same : column ≡ min (length f.front) line_limit = omega arith in
    let below : column ≤ length f.front = omega arith in
    record {
      within = (omega arith, omega arith);
      good = (
        f.value,
        drop column f.front ++ f.tail,
        exact.fits (f.front ++ f.tail) f.value f.completed,
        sym (exact.takes (f.front ++ f.tail) f.value f.completed)
            ∙ ap (λ (l : List ℕ). l ++ f.tail) (sym (take-append-drop column f.front))
            ∙ append_assoc (take column f.front) (drop column f.front) f.tail
            ∙ ap (λ (l : List ℕ). l ++ (drop column f.front ++ f.tail)) (sym (ap (take column) f.parts ∙ take-append-le column f.front f.bad below)),
      );
      bad = λ h1 h2 w. no_further h Fits line_of exact bs f.front f.bad f.parts f.local column (omega arith) h1 w;
    }

-- a line that is only too long
pub column_of_long : {X : Type 0} (Fits : X → Type 0) (line_of : X → List ℕ) (bs : List ℕ) (x : X) → bs ≡ line_of x → Fits x → line_limit < length bs → IsColumn Fits line_of bs line_limit
column_of_long Fits line_of bs x e fits long = record {
  within = (omega arith, omega arith);
  good = (x, drop line_limit bs, fits, sym e ∙ sym (take-append-drop line_limit bs));
  bad = λ h1 h2 w. absurd (omega arith);
}
