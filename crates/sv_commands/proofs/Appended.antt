-- Texts that are put after others part by part.
use Rattle.std.proofs.Common.{◌≡◌, ◌<◌, ◌-◌, ℕ, zero, suc, List, [], ◌∷◌, ◌++◌, append_assoc, refl, sym, ap, ◌∙◌, arith, sub-one}
use Rattle.std.specs.List.{repeat}

pub three_parts : (out a b c : List ℕ) → ((out ++ a) ++ b) ++ c ≡ out ++ (a ++ b ++ c)
three_parts out a b c = simp append_assoc

pub four_parts : (out a b c d : List ℕ) → (((out ++ a) ++ b) ++ c) ++ d ≡ out ++ (a ++ b ++ c ++ d)
four_parts out a b c d = simp append_assoc

repeat_more : (n : ℕ) (xs : List ℕ) → 0 < n → repeat n xs ≡ xs ++ repeat (n - 1) xs
repeat_more zero xs none = absurd (omega (arith, none))
repeat_more (suc n) xs some = rw sub-one refl

-- one space of several
pub spaces_more : (out next : List ℕ) (n : ℕ) (all : List ℕ) → 0 < n → next ≡ out ++ 32 ∷ [] → out ++ repeat n (32 ∷ []) ≡ all
    → next ++ repeat (n - 1) (32 ∷ []) ≡ all
spaces_more out next n all some is before =
    ap (λ l. l ++ repeat (n - 1) (32 ∷ [])) is ∙ append_assoc out (32 ∷ []) (repeat (n - 1) (32 ∷ []))
    ∙ ap (λ l. out ++ l) (sym (repeat_more n (32 ∷ []) some)) ∙ before
