-- Where the first element stands that passes a test.
use Rattle.std.proofs.Common.{◌≡◌, List, Bool, length, arith}
use Rattle.std.proofs.lemmas.Bool.Decides.{nat_tests}
use Rattle.std.proofs.lemmas.List.Sums.{prefix_len-le-length}
use Rattle.std.specs.List.{position, position_or_len}
use Rattle.std.specs.Option.{unwrap_or}
use Rattle.std.specs.Prelude.{not}

pub place_from_position : {X : Type 0} (p : X → Bool) (xs : List X) → unwrap_or (position p xs) (length xs) ≡ position_or_len p xs
place_from_position p xs = grind (arith, nat_tests, prefix_len-le-length (λ x. not (p x)) xs)
