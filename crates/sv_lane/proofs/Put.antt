-- A function with one value changed.
use Rattle.std.proofs.Common.{◌≡◌, ◌≢◌, ℕ, ◌==◌, if◌then◌else◌, arith}
use Rattle.std.proofs.lemmas.Bool.Decides.{nat_tests}

-- the function that gives x at this place, and elsewhere what f gives
abbrev pub put : {X : Type 0} → (ℕ → X) → ℕ → X → ℕ → X
put f at x n = if n == at then x else f n

pub put-same : {X : Type 0} (f : ℕ → X) (at : ℕ) (x : X) → put f at x at ≡ x
put-same f at x = grind (arith, nat_tests)

pub put-other : {X : Type 0} (f : ℕ → X) (at n : ℕ) (x : X) → n ≢ at → put f at x n ≡ f n
put-other f at n x other = grind (arith, nat_tests)
