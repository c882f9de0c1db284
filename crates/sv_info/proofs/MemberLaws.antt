-- Members that were added one after the other.
use Rattle.std.proofs.Common.{◌≡◌, List, [], ◌∷◌, ◌++◌, ◌∙◌, append_assoc}

-- two members
pub two_more : {A : Type 0} (old one two : List A) (a a' b b' : A) → one ≡ old ++ a ∷ [] → a ≡ a' → two ≡ one ++ b ∷ [] → b ≡ b' → two ≡ old ++ a' ∷ b' ∷ []
two_more old one two a a' b b' first is second was = rw (second, first, is, was) (append_assoc old (a' ∷ []) (b' ∷ []))

-- three members
pub three_more : {A : Type 0} (old one two three : List A) (a b c : A) → one ≡ old ++ a ∷ [] → two ≡ one ++ b ∷ [] → three ≡ two ++ c ∷ [] → three ≡ old ++ a ∷ b ∷ c ∷ []
three_more old one two three a b c first second third =
    rw (third, second, first) (append_assoc (old ++ a ∷ []) (b ∷ []) (c ∷ []) ∙ append_assoc old (a ∷ []) (b ∷ c ∷ []))
