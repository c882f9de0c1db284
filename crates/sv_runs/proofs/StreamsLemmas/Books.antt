-- What the changes of a book do to the run of a number.
use Rattle.std.proofs.Common.{◌≡◌, ℕ, List, [], ◌∷◌, ◌++◌, Option, Some, None, Bool, true, false, ◌==◌, if◌then◌else◌, refl, map}
use Rattle.std.specs.Option.{option_map}
use Rattle.std.proofs.lemmas.Bool.{eqb-true}
use Rattle.sv_runs.specs.Streams.StreamBook.{StreamRecord, changed_at, last_of, later, of_number}

later_none : (o : Option StreamRecord) → o ≡ later None o
later_none None = refl
later_none (Some s) = refl

later_later : (a b c : Option StreamRecord) → later a (later b c) ≡ later (later a b) c
later_later a b None = refl
later_later a b (Some s) = refl

-- a run that begins is the last of all
pub last_more : (n : ℕ) (book : List StreamRecord) (s : StreamRecord) → last_of n (book ++ s ∷ []) ≡ later (last_of n book) (of_number n s)
last_more n [] s = later_none (of_number n s)
last_more n (first ∷ book) s = rw (last_more n book s) (later_later (of_number n first) (last_of n book) (of_number n s))

mapped_later : (f : StreamRecord → StreamRecord) (a b : Option StreamRecord)
    → later (option_map f a) (option_map f b) ≡ option_map f (later a b)
mapped_later f a None = refl
mapped_later f a (Some s) = refl

-- a change of the runs of a number keeps it
abbrev pub KeepsNumber : (StreamRecord → StreamRecord) → Type 0
KeepsNumber f = (s : StreamRecord) → (f s).number ≡ s.number

number_same : (n : ℕ) (f : StreamRecord → StreamRecord) → KeepsNumber f → (s : StreamRecord)
    → of_number n (changed_at n f s) ≡ option_map f (of_number n s)
number_same n f keeps s = by_test (s.number == n) refl where
  by_test : (b : Bool) → (s.number == n) ≡ b
      → of_number n (if b then f s else s) ≡ option_map f (if b then Some s else None)
  by_test true e = rw (keeps s, e) refl
  by_test false e = rw e refl

pub last_same : (n : ℕ) (f : StreamRecord → StreamRecord) → KeepsNumber f → (book : List StreamRecord)
    → last_of n (map (changed_at n f) book) ≡ option_map f (last_of n book)
last_same n f keeps [] = refl
last_same n f keeps (s ∷ book) =
    rw (number_same n f keeps s, last_same n f keeps book) (mapped_later f (of_number n s) (last_of n book))

number_apart : (n m : ℕ) (f : StreamRecord → StreamRecord) → KeepsNumber f → (n == m) ≡ false → (s : StreamRecord)
    → of_number m (changed_at n f s) ≡ of_number m s
number_apart n m f keeps apart s = by_test (s.number == n) refl where
  by_test : (b : Bool) → (s.number == n) ≡ b → of_number m (if b then f s else s) ≡ of_number m s
  by_test true e = let is : s.number ≡ n = eqb-true s.number n e in rw (keeps s, is, apart) refl
  by_test false e = refl

pub last_apart : (n m : ℕ) (f : StreamRecord → StreamRecord) → KeepsNumber f → (n == m) ≡ false → (book : List StreamRecord)
    → last_of m (map (changed_at n f) book) ≡ last_of m book
last_apart n m f keeps apart [] = refl
last_apart n m f keeps apart (s ∷ book) = rw (number_apart n m f keeps apart s, last_apart n m f keeps apart book) refl
