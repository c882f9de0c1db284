-- What the changes of a book do to the run of a number.
use Rattle.std.proofs.Common.{◌≡◌, ℕ, List, [], ◌∷◌, ◌++◌, Option, Some, None, Bool, true, false, ◌==◌, if◌then◌else◌, refl, map}
use Rattle.std.specs.Option.{option_map}
use Rattle.std.proofs.lemmas.Bool.{eqb-true}
use Rattle.sv_runs.specs.RunBook.{RunRecord, changed_at, last_of, later, of_number}

later_none : (o : Option RunRecord) → o ≡ later None o
later_none None = refl
later_none (Some r) = refl

later_later : (a b c : Option RunRecord) → later a (later b c) ≡ later (later a b) c
later_later a b None = refl
later_later a b (Some r) = refl

-- a run that begins is the last of all
pub last_more : (n : ℕ) (rs : List RunRecord) (r : RunRecord) → last_of n (rs ++ r ∷ []) ≡ later (last_of n rs) (of_number n r)
last_more n [] r = later_none (of_number n r)
last_more n (x ∷ rs) r = rw (last_more n rs r) (later_later (of_number n x) (last_of n rs) (of_number n r))

mapped_later : (f : RunRecord → RunRecord) (a b : Option RunRecord) → later (option_map f a) (option_map f b) ≡ option_map f (later a b)
mapped_later f a None = refl
mapped_later f a (Some r) = refl

-- a change of the runs of a number keeps it
abbrev pub KeepsNumber : (RunRecord → RunRecord) → Type 0
KeepsNumber f = (r : RunRecord) → (f r).number ≡ r.number

number_same : (n : ℕ) (f : RunRecord → RunRecord) → KeepsNumber f → (r : RunRecord)
    → of_number n (changed_at n f r) ≡ option_map f (of_number n r)
number_same n f keeps r = by_test (r.number == n) refl where
  by_test : (b : Bool) → (r.number == n) ≡ b
      → of_number n (if b then f r else r) ≡ option_map f (if b then Some r else None)
  by_test true e = rw (keeps r, e) refl
  by_test false e = rw e refl

pub last_same : (n : ℕ) (f : RunRecord → RunRecord) → KeepsNumber f → (rs : List RunRecord)
    → last_of n (map (changed_at n f) rs) ≡ option_map f (last_of n rs)
last_same n f keeps [] = refl
last_same n f keeps (r ∷ rs) = rw (number_same n f keeps r, last_same n f keeps rs) (mapped_later f (of_number n r) (last_of n rs))

number_apart : (n m : ℕ) (f : RunRecord → RunRecord) → KeepsNumber f → (n == m) ≡ false → (r : RunRecord)
    → of_number m (changed_at n f r) ≡ of_number m r
number_apart n m f keeps apart r = by_test (r.number == n) refl where
  by_test : (b : Bool) → (r.number == n) ≡ b → of_number m (if b then f r else r) ≡ of_number m r
  by_test true e = let is : r.number ≡ n = eqb-true r.number n e in rw (keeps r, is, apart) refl
  by_test false e = refl

pub last_apart : (n m : ℕ) (f : RunRecord → RunRecord) → KeepsNumber f → (n == m) ≡ false → (rs : List RunRecord)
    → last_of m (map (changed_at n f) rs) ≡ last_of m rs
last_apart n m f keeps apart [] = refl
last_apart n m f keeps apart (r ∷ rs) = rw (number_apart n m f keeps apart r, last_apart n m f keeps apart rs) refl
