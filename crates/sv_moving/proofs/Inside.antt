-- Where a line may be cut.
use Rattle.std.proofs.Common.{◌≡◌, ◌<◌, ◌≤◌, ℕ, List, [], ◌∷◌, Bool, true, false, length, refl, arith, cond}
use Rattle.std.proofs.lemmas.Bool.Decides.{Decides-ltb}
use Rattle.std.specs.List.{position, position_or_len}
use Rattle.std.specs.Option.{IfSome}
use Rattle.std.specs.Prelude.{Some, None, nat_lt}
use Rattle.sv_moving.specs.Lines.{opens_bracket}

inside_by : (test : Bool) (place size : ℕ) → nat_lt place size ≡ test → IfSome (cond test (Some place) None) (λ i. i < size)
inside_by true place size e = (Decides-ltb place size).0 e
inside_by false place size e = tt

-- the first element that passes a test stands in the list
pub position_inside : (p : ℕ → Bool) (cs : List ℕ) → IfSome (position p cs) (λ i. i < length cs)
position_inside p cs = inside_by (nat_lt (position_or_len p cs) (length cs)) (position_or_len p cs) (length cs) refl

-- a content that opens a bracket has a first character
pub bracket_inside : (cs : List ℕ) → opens_bracket cs ≡ true → 1 ≤ length cs
bracket_inside [] e = cc
bracket_inside (c ∷ cs) e = omega arith
