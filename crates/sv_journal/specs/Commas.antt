-- Numbers parted by commas, the first one apart.
use Rattle.std.specs.Prelude.{ℕ, List, ◌∷◌}
use Rattle.std.specs.Fmt.{decimal}
use Rattle.sv_base.specs.Ascii.{comma}

-- a comma and a number
abbrev pub then_number : ℕ → List ℕ
then_number n = comma ∷ decimal n
