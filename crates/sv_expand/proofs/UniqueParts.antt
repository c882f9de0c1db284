-- A text has one cut into parts with expansions.
use Rattle.std.proofs.Common.{◌≡◌, ◌==◌, ℕ, List, [], ◌∷◌, ◌++◌, true, false, refl, ◌∙◌, ap, sym, append_assoc}
use Rattle.sv_expand.proofs.Choices.{eq_false, both_ways}
use Rattle.sv_expand.proofs.OneExpansion.{kept, no_letter}
use Rattle.sv_expand.specs.Cuts.{Part, written, written_all, is_name, IsPart, AreParts}
use Rattle.sv_expand.specs.Cuts.Part.{Plain, Percent, Value, Number, Spaced, Zeroed}
use Rattle.sv_expand.specs.Expansion.{is_width}

-- a name ends at its bracket
one_name : (n m more rest : List ℕ) → is_name n ≡ true → is_name m ≡ true → n ++ 41 ∷ more ≡ m ++ 41 ∷ rest → (n ≡ m) × (more ≡ rest)
one_name [] [] more rest is is' same = (refl, cc)
one_name [] (d ∷ m) more rest is is' same =
    let heads : 41 ≡ d = cc in
    let k = kept (d == 41) (is_name m) is' in
    absurd (both_ways (d == 41) (ap (λ c. c == 41) (sym heads)) k.0)
one_name (c ∷ n) [] more rest is is' same =
    let heads : c ≡ 41 = cc in
    let k = kept (c == 41) (is_name n) is in
    absurd (both_ways (c == 41) (ap (λ d. d == 41) heads) k.0)
one_name (c ∷ n) (d ∷ m) more rest is is' same =
    let heads : c ≡ d = cc in
    let tails : n ++ 41 ∷ more ≡ m ++ 41 ∷ rest = cc in
    let on = one_name n m more rest (kept (c == 41) (is_name n) is).1 (kept (d == 41) (is_name m) is').1 tails in
    (cc (heads, on.0), on.1)

-- forms after their brackets, that are one where they begin one rest
one_form : (n m form other more rest : List ℕ) → is_name n ≡ true → is_name m ≡ true
    → (37 ∷ 40 ∷ (n ++ 41 ∷ form)) ++ more ≡ (37 ∷ 40 ∷ (m ++ 41 ∷ other)) ++ rest → (n ≡ m) × (form ++ more ≡ other ++ rest)
one_form n m form other more rest is is' same =
    let tails : (n ++ 41 ∷ form) ++ more ≡ (m ++ 41 ∷ other) ++ rest = cc in
    one_name n m (form ++ more) (other ++ rest) is is' (sym (append_assoc n (41 ∷ form) more) ∙ tails ∙ append_assoc m (41 ∷ other) rest)

not_width : (digit letter : ℕ) → is_width digit ≡ true → (letter == 115) ≡ true → letter ≡ digit → ⊥
not_width digit letter is at same = both_ways (digit == 115) (ap (λ c. c == 115) (sym same) ∙ at) (no_letter digit is).0

not_d : (digit letter : ℕ) → is_width digit ≡ true → (letter == 100) ≡ true → letter ≡ digit → ⊥
not_d digit letter is at same = both_ways (digit == 100) (ap (λ c. c == 100) (sym same) ∙ at) (no_letter digit is).1

not_zero : (digit letter : ℕ) → is_width digit ≡ true → (letter == 48) ≡ true → letter ≡ digit → ⊥
not_zero digit letter is at same = both_ways (digit == 48) (ap (λ c. c == 48) (sym same) ∙ at) (no_letter digit is).2

not_percent : (c : ℕ) → (c == 37) ≡ false → c ≡ 37 → ⊥
not_percent c other same = both_ways (c == 37) (ap (λ d. d == 37) same) other

-- the part that begins characters is the only one
same_part : (one other : Part) (more rest : List ℕ) → IsPart one → IsPart other → written one ++ more ≡ written other ++ rest → (one ≡ other) × (more ≡ rest)
same_part (Plain c) (Plain d) more rest is is' same = let heads : c ≡ d = cc in (ap Plain heads, cc)
same_part (Plain c) Percent more rest is is' same = let heads : c ≡ 37 = cc in absurd (not_percent c is heads)
same_part (Plain c) (Value m) more rest is is' same = let heads : c ≡ 37 = cc in absurd (not_percent c is heads)
same_part (Plain c) (Number m) more rest is is' same = let heads : c ≡ 37 = cc in absurd (not_percent c is heads)
same_part (Plain c) (Spaced m digit) more rest is is' same = let heads : c ≡ 37 = cc in absurd (not_percent c is heads)
same_part (Plain c) (Zeroed m digit) more rest is is' same = let heads : c ≡ 37 = cc in absurd (not_percent c is heads)
same_part Percent (Plain d) more rest is is' same = let heads : d ≡ 37 = cc in absurd (not_percent d is' heads)
same_part Percent Percent more rest is is' same = (refl, cc)
same_part Percent (Value m) more rest is is' same = absurd (eq_false 37 40 refl (cc))
same_part Percent (Number m) more rest is is' same = absurd (eq_false 37 40 refl (cc))
same_part Percent (Spaced m digit) more rest is is' same = absurd (eq_false 37 40 refl (cc))
same_part Percent (Zeroed m digit) more rest is is' same = absurd (eq_false 37 40 refl (cc))
same_part (Value n) (Plain d) more rest is is' same = let heads : d ≡ 37 = cc in absurd (not_percent d is' heads)
same_part (Value n) Percent more rest is is' same = absurd (eq_false 40 37 refl (cc))
same_part (Value n) (Value m) more rest is is' same =
    let on = one_form n m (115 ∷ []) (115 ∷ []) more rest is is' same in (ap Value on.0, cc (on.1))
same_part (Value n) (Number m) more rest is is' same =
    let on = one_form n m (115 ∷ []) (100 ∷ []) more rest is is' same in absurd (eq_false 115 100 refl (cc (on.1)))
same_part (Value n) (Spaced m digit) more rest is is' same =
    let on = one_form n m (115 ∷ []) (digit ∷ 100 ∷ []) more rest is is'.0 same in let heads : 115 ≡ digit = cc (on.1) in absurd (not_width digit 115 is'.1 refl heads)
same_part (Value n) (Zeroed m digit) more rest is is' same =
    let on = one_form n m (115 ∷ []) (48 ∷ digit ∷ 100 ∷ []) more rest is is'.0 same in absurd (eq_false 115 48 refl (cc (on.1)))
same_part (Number n) (Plain d) more rest is is' same = let heads : d ≡ 37 = cc in absurd (not_percent d is' heads)
same_part (Number n) Percent more rest is is' same = absurd (eq_false 40 37 refl (cc))
same_part (Number n) (Value m) more rest is is' same =
    let on = one_form n m (100 ∷ []) (115 ∷ []) more rest is is' same in absurd (eq_false 100 115 refl (cc (on.1)))
same_part (Number n) (Number m) more rest is is' same =
    let on = one_form n m (100 ∷ []) (100 ∷ []) more rest is is' same in (ap Number on.0, cc (on.1))
same_part (Number n) (Spaced m digit) more rest is is' same =
    let on = one_form n m (100 ∷ []) (digit ∷ 100 ∷ []) more rest is is'.0 same in let heads : 100 ≡ digit = cc (on.1) in absurd (not_d digit 100 is'.1 refl heads)
same_part (Number n) (Zeroed m digit) more rest is is' same =
    let on = one_form n m (100 ∷ []) (48 ∷ digit ∷ 100 ∷ []) more rest is is'.0 same in absurd (eq_false 100 48 refl (cc (on.1)))
same_part (Spaced n digit) (Plain d) more rest is is' same = let heads : d ≡ 37 = cc in absurd (not_percent d is' heads)
same_part (Spaced n digit) Percent more rest is is' same = absurd (eq_false 40 37 refl (cc))
same_part (Spaced n digit) (Value m) more rest is is' same =
    let on = one_form n m (digit ∷ 100 ∷ []) (115 ∷ []) more rest is.0 is' same in let heads : 115 ≡ digit = cc (on.1) in absurd (not_width digit 115 is.1 refl heads)
same_part (Spaced n digit) (Number m) more rest is is' same =
    let on = one_form n m (digit ∷ 100 ∷ []) (100 ∷ []) more rest is.0 is' same in let heads : 100 ≡ digit = cc (on.1) in absurd (not_d digit 100 is.1 refl heads)
same_part (Spaced n digit) (Spaced m other) more rest is is' same =
    let on = one_form n m (digit ∷ 100 ∷ []) (other ∷ 100 ∷ []) more rest is.0 is'.0 same in
    let heads : digit ≡ other = cc (on.1) in
    (ap (λ n. Spaced n digit) on.0 ∙ ap (λ d. Spaced m d) heads, cc (on.1))
same_part (Spaced n digit) (Zeroed m other) more rest is is' same =
    let on = one_form n m (digit ∷ 100 ∷ []) (48 ∷ other ∷ 100 ∷ []) more rest is.0 is'.0 same in let heads : 48 ≡ digit = cc (on.1) in absurd (not_zero digit 48 is.1 refl heads)
same_part (Zeroed n digit) (Plain d) more rest is is' same = let heads : d ≡ 37 = cc in absurd (not_percent d is' heads)
same_part (Zeroed n digit) Percent more rest is is' same = absurd (eq_false 40 37 refl (cc))
same_part (Zeroed n digit) (Value m) more rest is is' same =
    let on = one_form n m (48 ∷ digit ∷ 100 ∷ []) (115 ∷ []) more rest is.0 is' same in absurd (eq_false 48 115 refl (cc (on.1)))
same_part (Zeroed n digit) (Number m) more rest is is' same =
    let on = one_form n m (48 ∷ digit ∷ 100 ∷ []) (100 ∷ []) more rest is.0 is' same in absurd (eq_false 48 100 refl (cc (on.1)))
same_part (Zeroed n digit) (Spaced m other) more rest is is' same =
    let on = one_form n m (48 ∷ digit ∷ 100 ∷ []) (other ∷ 100 ∷ []) more rest is.0 is'.0 same in let heads : 48 ≡ other = cc (on.1) in absurd (not_zero other 48 is'.1 refl heads)
same_part (Zeroed n digit) (Zeroed m other) more rest is is' same =
    let on = one_form n m (48 ∷ digit ∷ 100 ∷ []) (48 ∷ other ∷ 100 ∷ []) more rest is.0 is'.0 same in
    let heads : digit ≡ other = cc (on.1) in
    (ap (λ n. Zeroed n digit) on.0 ∙ ap (λ d. Zeroed m d) heads, cc (on.1))

nothing_written : (part : Part) (more : List ℕ) → [] ≡ written part ++ more → ⊥
nothing_written (Plain c) more same = cc
nothing_written Percent more same = cc
nothing_written (Value n) more same = cc
nothing_written (Number n) more same = cc
nothing_written (Spaced n digit) more same = cc
nothing_written (Zeroed n digit) more same = cc

-- a text has one cut into parts
pub one_cut : (parts others : List Part) → AreParts parts → AreParts others → written_all parts ≡ written_all others → parts ≡ others
one_cut [] [] are are' same = refl
one_cut [] (other ∷ others) are are' same = absurd (nothing_written other (written_all others) same)
one_cut (part ∷ parts) [] are are' same = absurd (nothing_written part (written_all parts) (sym same))
one_cut (part ∷ parts) (other ∷ others) are are' same =
    let first = same_part part other (written_all parts) (written_all others) are.0 are'.0 same in
    ap (λ p. p ∷ parts) first.0 ∙ ap (λ ps. other ∷ ps) (one_cut parts others are.1 are'.1 first.1)
