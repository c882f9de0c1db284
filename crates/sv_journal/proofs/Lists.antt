-- Lists that are joined.
use Rattle.std.proofs.Common.{◌≡◌, ℕ, List, ◌++◌, append_assoc}

pub joined : (a b c : List ℕ) → (a ++ b) ++ c ≡ a ++ (b ++ c)
joined a b c = append_assoc a b c
