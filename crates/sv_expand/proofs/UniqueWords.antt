-- A text has one cut into gaps and pieces.
use Rattle.std.proofs.Common.{◌≡◌, ◌==◌, ℕ, List, [], ◌∷◌, ◌++◌, true, false, not, ◌&&◌, refl, ◌∙◌, ap, sym, append_assoc}
use Rattle.std.proofs.lemmas.Bool.{and_parts}
use Rattle.std.specs.List.{flat_map}
use Rattle.sv_expand.proofs.Choices.{eq_false, not_true, both_ways}
use Rattle.sv_expand.specs.WordCuts.{Part, Quoted, written, written_all, quoted_written, is_escaped, is_single, is_plain, IsQuoted, AreQuoted, IsPart, AreParts}
use Rattle.sv_expand.specs.WordCuts.Part.{Gap, Plain, Kept, Single, Double}
use Rattle.sv_expand.specs.WordCuts.Quoted.{Itself, Escaped, Both}
use Rattle.sv_expand.specs.Words.{parts_words}

one_single : (cs ds more rest : List ℕ) → is_single cs ≡ true → is_single ds ≡ true → cs ++ 39 ∷ more ≡ ds ++ 39 ∷ rest → (cs ≡ ds) × (more ≡ rest)
one_single [] [] more rest is is' same = (refl, cc)
one_single [] (d ∷ ds) more rest is is' same =
    let heads : 39 ≡ d = cc in
    absurd (both_ways (d == 39) (ap (λ c. c == 39) (sym heads)) (not_true (d == 39) (and_parts (not (d == 39)) (is_single ds) is').0))
one_single (c ∷ cs) [] more rest is is' same =
    let heads : c ≡ 39 = cc in
    absurd (both_ways (c == 39) (ap (λ d. d == 39) heads) (not_true (c == 39) (and_parts (not (c == 39)) (is_single cs) is).0))
one_single (c ∷ cs) (d ∷ ds) more rest is is' same =
    let heads : c ≡ d = cc in
    let tails : cs ++ 39 ∷ more ≡ ds ++ 39 ∷ rest = cc in
    let on = one_single cs ds more rest (and_parts (not (c == 39)) (is_single cs) is).1 (and_parts (not (d == 39)) (is_single ds) is').1 tails in
    (cc (heads, on.0), on.1)

-- a character that is neither a quote nor a backslash, where one of them stands
not_this : (c d : ℕ) → is_escaped c ≡ false → is_escaped d ≡ true → c ≡ d → ⊥
not_this c d is at same = both_ways (is_escaped c) (ap is_escaped same ∙ at) is

same_quoted : (one other : Quoted) (more rest : List ℕ) → IsQuoted one → IsQuoted other → quoted_written one ++ more ≡ quoted_written other ++ rest
    → (one ≡ other) × (more ≡ rest)
same_quoted (Itself c) (Itself d) more rest is is' same = let heads : c ≡ d = cc in (ap Itself heads, cc)
same_quoted (Itself c) (Escaped d) more rest is is' same = let heads : c ≡ 92 = cc in absurd (not_this c 92 is refl heads)
same_quoted (Itself c) (Both d) more rest is is' same = let heads : c ≡ 92 = cc in absurd (not_this c 92 is refl heads)
same_quoted (Escaped c) (Itself d) more rest is is' same = let heads : d ≡ 92 = cc in absurd (not_this d 92 is' refl heads)
same_quoted (Escaped c) (Escaped d) more rest is is' same = let heads : c ≡ d = cc in (ap Escaped heads, cc)
same_quoted (Escaped c) (Both d) more rest is is' same = let heads : d ≡ c = cc in absurd (not_this d c is' is heads)
same_quoted (Both c) (Itself d) more rest is is' same = let heads : d ≡ 92 = cc in absurd (not_this d 92 is' refl heads)
same_quoted (Both c) (Escaped d) more rest is is' same = let heads : c ≡ d = cc in absurd (not_this c d is is' heads)
same_quoted (Both c) (Both d) more rest is is' same = let heads : c ≡ d = cc in (ap Both heads, cc)

no_quoted : (one : Quoted) (more rest : List ℕ) → IsQuoted one → quoted_written one ++ more ≡ 34 ∷ rest → ⊥
no_quoted (Itself c) more rest is same = let heads : c ≡ 34 = cc in not_this c 34 is refl heads
no_quoted (Escaped c) more rest is same = eq_false 92 34 refl (cc)
no_quoted (Both c) more rest is same = eq_false 92 34 refl (cc)

one_double : (quoted others : List Quoted) (more rest : List ℕ) → AreQuoted quoted → AreQuoted others
    → flat_map quoted_written quoted ++ 34 ∷ more ≡ flat_map quoted_written others ++ 34 ∷ rest → (quoted ≡ others) × (more ≡ rest)
one_double [] [] more rest are are' same = (refl, cc)
one_double [] (other ∷ others) more rest are are' same =
    absurd (no_quoted other (flat_map quoted_written others ++ 34 ∷ rest) more are'.0
    (sym (append_assoc (quoted_written other) (flat_map quoted_written others) (34 ∷ rest)) ∙ sym same))
one_double (one ∷ quoted) [] more rest are are' same =
    absurd (no_quoted one (flat_map quoted_written quoted ++ 34 ∷ more) rest are.0
    (sym (append_assoc (quoted_written one) (flat_map quoted_written quoted) (34 ∷ more)) ∙ same))
one_double (one ∷ quoted) (other ∷ others) more rest are are' same =
    let first = same_quoted one other (flat_map quoted_written quoted ++ 34 ∷ more) (flat_map quoted_written others ++ 34 ∷ rest) are.0 are'.0
    (sym (append_assoc (quoted_written one) (flat_map quoted_written quoted) (34 ∷ more)) ∙ same
    ∙ append_assoc (quoted_written other) (flat_map quoted_written others) (34 ∷ rest)) in
    let on = one_double quoted others more rest are.1 are'.1 first.1 in
    (ap (λ q. q ∷ quoted) first.0 ∙ ap (λ qs. other ∷ qs) on.0, on.1)

-- a character that stands for itself parts no words and is no quote and no backslash
record IsItself (c : ℕ) : Type 0 where
  together : parts_words c ≡ false
  single : (c == 39) ≡ false
  escaped : is_escaped c ≡ false

itself : (c : ℕ) → is_plain c ≡ true → IsItself c
itself c is =
    let gap = and_parts (not (parts_words c)) (not (c == 39) && not (is_escaped c)) is in
    let quote = and_parts (not (c == 39)) (not (is_escaped c)) gap.1 in
    record { together = not_true (parts_words c) gap.0; single = not_true (c == 39) quote.0; escaped = not_true (is_escaped c) quote.1 }

not_single : (c : ℕ) → is_plain c ≡ true → c ≡ 39 → ⊥
not_single c is same = both_ways (c == 39) (ap (λ d. d == 39) same) (itself c is).single

not_gap : (c d : ℕ) → parts_words c ≡ true → parts_words d ≡ false → c ≡ d → ⊥
not_gap c d is at same = both_ways (parts_words c) is (ap parts_words same ∙ at)

same_part : (one other : Part) (more rest : List ℕ) → IsPart one → IsPart other → written one ++ more ≡ written other ++ rest → (one ≡ other) × (more ≡ rest)
same_part (Gap c) (Gap d) more rest is is' same = let heads : c ≡ d = cc in (ap Gap heads, cc)
same_part (Gap c) (Plain d) more rest is is' same = let heads : c ≡ d = cc in absurd (not_gap c d is (itself d is').together heads)
same_part (Gap c) (Kept d) more rest is is' same = let heads : c ≡ 92 = cc in absurd (not_gap c 92 is refl heads)
same_part (Gap c) (Single ds) more rest is is' same = let heads : c ≡ 39 = cc in absurd (not_gap c 39 is refl heads)
same_part (Gap c) (Double others) more rest is is' same = let heads : c ≡ 34 = cc in absurd (not_gap c 34 is refl heads)
same_part (Plain c) (Gap d) more rest is is' same = let heads : d ≡ c = cc in absurd (not_gap d c is' (itself c is).together heads)
same_part (Plain c) (Plain d) more rest is is' same = let heads : c ≡ d = cc in (ap Plain heads, cc)
same_part (Plain c) (Kept d) more rest is is' same = let heads : c ≡ 92 = cc in absurd (not_this c 92 (itself c is).escaped refl heads)
same_part (Plain c) (Single ds) more rest is is' same = let heads : c ≡ 39 = cc in absurd (not_single c is heads)
same_part (Plain c) (Double others) more rest is is' same = let heads : c ≡ 34 = cc in absurd (not_this c 34 (itself c is).escaped refl heads)
same_part (Kept c) (Gap d) more rest is is' same = let heads : d ≡ 92 = cc in absurd (not_gap d 92 is' refl heads)
same_part (Kept c) (Plain d) more rest is is' same = let heads : d ≡ 92 = cc in absurd (not_this d 92 (itself d is').escaped refl heads)
same_part (Kept c) (Kept d) more rest is is' same = let heads : c ≡ d = cc in (ap Kept heads, cc)
same_part (Kept c) (Single ds) more rest is is' same = absurd (eq_false 92 39 refl (cc))
same_part (Kept c) (Double others) more rest is is' same = absurd (eq_false 92 34 refl (cc))
same_part (Single cs) (Gap d) more rest is is' same = let heads : d ≡ 39 = cc in absurd (not_gap d 39 is' refl heads)
same_part (Single cs) (Plain d) more rest is is' same = let heads : d ≡ 39 = cc in absurd (not_single d is' heads)
same_part (Single cs) (Kept d) more rest is is' same = absurd (eq_false 39 92 refl (cc))
same_part (Single cs) (Single ds) more rest is is' same =
    let tails : (cs ++ 39 ∷ []) ++ more ≡ (ds ++ 39 ∷ []) ++ rest = cc in
    let on = one_single cs ds more rest is is' (sym (append_assoc cs (39 ∷ []) more) ∙ tails ∙ append_assoc ds (39 ∷ []) rest) in
    (ap Single on.0, on.1)
same_part (Single cs) (Double others) more rest is is' same = absurd (eq_false 39 34 refl (cc))
same_part (Double quoted) (Gap d) more rest is is' same = let heads : d ≡ 34 = cc in absurd (not_gap d 34 is' refl heads)
same_part (Double quoted) (Plain d) more rest is is' same = let heads : d ≡ 34 = cc in absurd (not_this d 34 (itself d is').escaped refl heads)
same_part (Double quoted) (Kept d) more rest is is' same = absurd (eq_false 34 92 refl (cc))
same_part (Double quoted) (Single ds) more rest is is' same = absurd (eq_false 34 39 refl (cc))
same_part (Double quoted) (Double others) more rest is is' same =
    let tails : (flat_map quoted_written quoted ++ 34 ∷ []) ++ more ≡ (flat_map quoted_written others ++ 34 ∷ []) ++ rest = cc in
    let on = one_double quoted others more rest is is'
    (sym (append_assoc (flat_map quoted_written quoted) (34 ∷ []) more) ∙ tails ∙ append_assoc (flat_map quoted_written others) (34 ∷ []) rest) in
    (ap Double on.0, on.1)

nothing_written : (part : Part) (more : List ℕ) → [] ≡ written part ++ more → ⊥
nothing_written (Gap c) more same = cc
nothing_written (Plain c) more same = cc
nothing_written (Kept c) more same = cc
nothing_written (Single cs) more same = cc
nothing_written (Double quoted) more same = cc

-- a text has one cut into parts
pub one_cut : (parts others : List Part) → AreParts parts → AreParts others → written_all parts ≡ written_all others → parts ≡ others
one_cut [] [] are are' same = refl
one_cut [] (other ∷ others) are are' same = absurd (nothing_written other (written_all others) same)
one_cut (part ∷ parts) [] are are' same = absurd (nothing_written part (written_all parts) (sym same))
one_cut (part ∷ parts) (other ∷ others) are are' same =
    let first = same_part part other (written_all parts) (written_all others) are.0 are'.0 same in
    ap (λ p. p ∷ parts) first.0 ∙ ap (λ ps. other ∷ ps) (one_cut parts others are.1 are'.1 first.1)
