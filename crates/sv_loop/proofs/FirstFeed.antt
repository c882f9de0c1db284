-- The first line feed among bytes, where there is one.
use Rattle.std.proofs.Common.{◌≡◌, ◌<◌, ◌==◌, ◌||◌, ℕ, zero, suc, List, [], ◌∷◌, Bool, true, false, length, take, drop, arith, refl, ap}
use Rattle.std.proofs.lemmas.Bool.{eqb-true}
use Rattle.memchr.specs.Find.{Nowhere, Passes, is_byte}
use Rattle.sv_loop.specs.Reading.{IsCut, has_feed}

by_byte : (b : Bool) (rest : Bool) → (b ≡ true → ⊥) → rest ≡ false → (b || rest) ≡ false
by_byte true rest other none = absurd (other refl)
by_byte false rest other none = none

pub none_there : (bytes : List ℕ) → Nowhere (Passes (is_byte 10) bytes) 0 (length bytes) → has_feed bytes ≡ false
none_there [] nowhere = refl
none_there (byte ∷ bytes) nowhere =
    by_byte (byte == 10) (has_feed bytes) (λ same. nowhere 0 (omega arith) (omega arith) same)
    (none_there bytes (λ place low high. nowhere (suc place) (omega arith) (omega (arith, high))))

pub first_there : (bytes : List ℕ) (place : ℕ) → place < length bytes → Nowhere (Passes (is_byte 10) bytes) 0 place
    → Passes (is_byte 10) bytes place → IsCut bytes (take place bytes) (drop (suc place) bytes)
first_there [] place within before here = absurd (omega (arith, within))
first_there (byte ∷ bytes) zero within before here = record { is = ap (λ (first : ℕ). first ∷ bytes) (eqb-true byte 10 here); unbroken = refl }
first_there (byte ∷ bytes) (suc place) within before here =
    let rest = first_there bytes place (omega (arith, within)) (λ k low high. before (suc k) (omega arith) (omega (arith, high))) here in
    record {
      is = ap (λ (more : List ℕ). byte ∷ more) rest.is;
      unbroken = by_byte (byte == 10) (has_feed (take place bytes)) (λ same. before 0 (omega arith) (omega arith) same) rest.unbroken;
    }
