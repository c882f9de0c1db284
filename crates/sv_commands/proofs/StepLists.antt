-- The steps of names that are there.
use Rattle.std.proofs.Common.{◌≡◌, ◌<◌, ℕ, List, [], ◌∷◌, Option, Some, length, refl, arith}
use Rattle.sv_commands.specs.Commands.{Asked, of_some}

pub of_names : (steps : List (List ℕ) → List Asked) (names : List (List ℕ)) → 0 < length names → of_some steps names ≡ Some (steps names)
of_names steps [] none = absurd (omega (arith, none))
of_names steps (name ∷ names) some = refl
