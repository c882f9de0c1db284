-- A run may be empty.
use Rattle.std.proofs.Common.{◌≡◌, ℕ, List, [], ◌∷◌, Bool, true, refl}
use Rattle.sv_out.specs.Patterns.{behind_run}

pub behind_empty : (rest : List ℕ → Bool) (tail : List ℕ) → rest tail ≡ true → behind_run rest tail ≡ true
behind_empty rest [] is = is
behind_empty rest (byte ∷ tail) is = rw is refl
