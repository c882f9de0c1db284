-- The names that patterns list.
use Rattle.std.proofs.Common.{◌≡◌, ◌<◌, ℕ, List, [], ◌∷◌, ◌++◌, length, append-nil, subst, sym, ◌∙◌, refl, arith}
use Rattle.sv_out.specs.Files.{Files}
use Rattle.sv_load.specs.Listing.{AreListed}

-- after the last pattern the names are those of all
pub all_listed : (files : Files) (patterns left names all : List (List ℕ)) → length left < 1
    → ((more : List (List ℕ)) → AreListed files left more → AreListed files patterns (names ++ more))
    → all ≡ names → AreListed files patterns all
all_listed files patterns [] names all none listed is =
    subst (λ (ns : List (List ℕ)). AreListed files patterns ns) (append-nil names ∙ sym is) (listed [] refl)
all_listed files patterns (pattern ∷ left) names all none listed is = absurd (omega (arith, none))
