-- The parts of a reply, one after the other.
use Rattle.std.proofs.Common.{◌≡◌, ℕ, List, [], ◌∷◌, ◌++◌, append_assoc}

pub three_parts : (text a b c : List ℕ) → ((text ++ a) ++ b) ++ c ≡ text ++ ((a ++ b) ++ c)
three_parts text a b c = simp append_assoc

-- the third of them is a byte
pub five_parts : (text a b d e : List ℕ) (byte : ℕ) → ((((text ++ a) ++ b) ++ byte ∷ []) ++ d) ++ e ≡ text ++ ((a ++ b ++ byte ∷ d) ++ e)
five_parts text a b d e byte = simp append_assoc

pub seven_parts : (a b c d e f g : List ℕ) → (((((a ++ b) ++ c) ++ d) ++ e) ++ f) ++ g ≡ a ++ b ++ c ++ d ++ e ++ f ++ g
seven_parts a b c d e f g = simp append_assoc
