-- One child is written: the one of its place is it, and each other is what it was.
use Rattle.std.proofs.Common.{◌≡◌, ℕ, zero, suc, ◌<◌, List, [], ◌∷◌, Some, length, get_or, arith, refl, sym, ap}
use Rattle.std.specs.Prelude.{slice_get, slice_set}
use Rattle.sv_child.specs.declared.child.Child.{Child}

pub set_here : (cs : List Child) (c : ℕ) (m n : Child) → slice_get cs c ≡ Some m → slice_get (slice_set cs c n) c ≡ Some n
set_here [] c m n there = cc
set_here (x ∷ xs) zero m n there = refl
set_here (x ∷ xs) (suc c) m n there = set_here xs c m n there

pub set_elsewhere : (cs : List Child) (c place : ℕ) (n : Child) → (c ≡ place → ⊥) → slice_get (slice_set cs c n) place ≡ slice_get cs place
set_elsewhere [] c place n other = refl
set_elsewhere (x ∷ xs) zero zero n other = absurd (other refl)
set_elsewhere (x ∷ xs) zero (suc place) n other = refl
set_elsewhere (x ∷ xs) (suc c) zero n other = refl
set_elsewhere (x ∷ xs) (suc c) (suc place) n other = set_elsewhere xs c place n (λ same. other (ap suc same))

pub read_there : (cs : List Child) (n : ℕ) (x : Child) → n < length cs → x ≡ get_or cs n x → slice_get cs n ≡ Some x
read_there [] n x within is = absurd (omega (arith, within))
read_there (y ∷ ys) zero x within is = ap Some (sym is)
read_there (y ∷ ys) (suc n) x within is = read_there ys n x (omega (arith, within)) is
