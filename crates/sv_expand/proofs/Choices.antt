-- Choices, tests and answers.
use Rattle.std.proofs.Common.{◌≡◌, ◌==◌, ◌⊎◌, inl, inr, ℕ, Bool, true, false, not, ◌||◌, cond, refl, arith}
use Rattle.std.specs.Prelude.{Result, Ok, Err, IfOk, IfErr}
use Rattle.std.proofs.lemmas.Bool.Decides.{nat_tests}

-- what holds of both arms of a choice
pub choose : {A : Type 0} (P : A → Type 0) (b : Bool) (x y : A) → P x → P y → P (cond b x y)
choose P true x y f g = f
choose P false x y f g = g

pub cond_by : {A : Type 0} (P : A → Type 0) (b : Bool) (x y : A) → (b ≡ true → P x) → (b ≡ false → P y) → P (cond b x y)
cond_by P true x y f g = f refl
cond_by P false x y f g = g refl

pub eq_true : (a b : ℕ) → (a == b) ≡ true → a ≡ b
eq_true a b e = grind (arith, nat_tests)

pub eq_false : (a b : ℕ) → (a == b) ≡ false → a ≡ b → ⊥
eq_false a b e s = grind (arith, nat_tests)

pub if_ok : {A E : Type 0} (P Q : A → Type 0) (res : Result A E) → ((x : A) → P x → Q x) → IfOk res P → IfOk res Q
if_ok P Q (Ok x) more is = more x is
if_ok P Q (Err e) more is = tt

pub if_err : {A E : Type 0} (P Q : E → Type 0) (res : Result A E) → ((e : E) → P e → Q e) → IfErr res P → IfErr res Q
if_err P Q (Ok x) more is = tt
if_err P Q (Err e) more is = more e is

pub not_true : (b : Bool) → not b ≡ true → b ≡ false
not_true true is = cc
not_true false is = refl

pub or_false : (a b : Bool) → (a || b) ≡ false → (a ≡ false) × (b ≡ false)
or_false true b is = cc
or_false false b is = (refl, is)

pub neither : (a b : Bool) → a ≡ false → b ≡ false → (a || b) ≡ false
neither true b one other = cc
neither false b one other = other

pub or_true : (a b : Bool) → (a || b) ≡ true → (a ≡ true) ⊎ (b ≡ true)
or_true true b is = inl refl
or_true false b is = inr is

pub both_ways : (b : Bool) → b ≡ true → b ≡ false → ⊥
both_ways b is other = cc
