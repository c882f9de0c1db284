-- A text has one cut into pairs parted by commas.
use Rattle.std.proofs.Common.{◌≡◌, ◌≢◌, ◌==◌, ℕ, List, [], ◌∷◌, ◌++◌, length, Bool, true, false, not, ◌||◌, refl, ◌∙◌, ap, sym, subst, append_assoc, append-nil, length-append, arith}
use Rattle.std.proofs.lemmas.Bool.{and_parts, and_from}
use Rattle.std.proofs.lemmas.Bool.Decides.{nat_tests}
use Rattle.std.proofs.lemmas.List.Folds.{list_all-append}
use Rattle.std.specs.List.{list_all}
use Rattle.sv_expand.proofs.Choices.{not_true, or_false, both_ways}
use Rattle.sv_expand.proofs.PairsRead.{name_not, is_bare}
use Rattle.sv_expand.proofs.PairLists.{blank_front, blank_bare}
use Rattle.sv_expand.specs.PairCuts.{Value, Pair, Last, written, value_written, last_written, listed, is_blank, ends_white, IsValue, IsPair, ArePairs, IsLast}
use Rattle.sv_expand.specs.PairCuts.Value.{Quoted, Bare}
use Rattle.sv_expand.specs.PairCuts.Last.{Nothing, One}
use Rattle.sv_expand.specs.Pairs.{is_white, is_name_char, is_quote}

-- characters that don't begin with one of a kind
abbrev Stops : (ℕ → Bool) → List ℕ → Type 0
Stops p [] = Unit {0}
Stops p (c ∷ cs) = p c ≡ false

-- a run of characters of one kind ends at one place
one_run : (p : ℕ → Bool) (as' bs more rest : List ℕ) → list_all p as' ≡ true → list_all p bs ≡ true → Stops p more → Stops p rest
    → as' ++ more ≡ bs ++ rest → (as' ≡ bs) × (more ≡ rest)
one_run p [] [] more rest all all' stops stops' same = (refl, same)
one_run p [] (b ∷ bs) more rest all all' stops stops' same =
    absurd (both_ways (p b) (and_parts (p b) (list_all p bs) all').0 (subst (λ (m : List ℕ). Stops p m) same stops))
one_run p (a ∷ as') [] more rest all all' stops stops' same =
    absurd (both_ways (p a) (and_parts (p a) (list_all p as') all).0 (subst (λ (m : List ℕ). Stops p m) (sym same) stops'))
one_run p (a ∷ as') (b ∷ bs) more rest all all' stops stops' same =
    let heads : a ≡ b = cc in
    let tails : as' ++ more ≡ bs ++ rest = cc in
    let on = one_run p as' bs more rest (and_parts (p a) (list_all p as') all).1 (and_parts (p b) (list_all p bs) all').1 stops stops' tails in
    (cc (heads, on.0), on.1)

-- after a pair: nothing, or a comma
abbrev IsEnd : List ℕ → Type 0
IsEnd [] = Unit {0}
IsEnd (c ∷ cs) = c ≡ 44

end_stops : (p : ℕ → Bool) (more : List ℕ) → p 44 ≡ false → IsEnd more → Stops p more
end_stops p [] comma is = tt
end_stops p (c ∷ cs) comma is = ap p is ∙ comma

name_stops : (name more : List ℕ) → name ≢ [] → list_all is_name_char name ≡ true → Stops is_white (name ++ more)
name_stops [] more some is = absurd (some refl)
name_stops (c ∷ name) more some is = (name_not c (and_parts (is_name_char c) (list_all is_name_char name) is).0).0

same_self : (q : ℕ) → (q == q) ≡ true
same_self q = grind (arith, nat_tests)

-- bare values

blank_ends : (y : ℕ) (ys more : List ℕ) → is_blank ((y ∷ ys) ++ more) ≡ true → ends_white (y ∷ ys) ≡ true
blank_ends y [] more is = (and_parts (is_white y) (is_blank more) is).0
blank_ends y (z ∷ ys) more is = blank_ends z ys more (and_parts (is_white y) (is_blank ((z ∷ ys) ++ more)) is).1

same_end : (x : ℕ) (xs : List ℕ) (y : ℕ) (ys more rest : List ℕ) → ends_white (x ∷ xs) ≡ false → ends_white (y ∷ ys) ≡ false
    → is_blank more ≡ true → is_blank rest ≡ true → (x ∷ xs) ++ more ≡ (y ∷ ys) ++ rest → (x ∷ xs ≡ y ∷ ys) × (more ≡ rest)
same_end x [] y [] more rest ends ends' blank blank' same = let heads : x ≡ y = cc in (ap (λ c. c ∷ []) heads, cc)
same_end x [] y (z ∷ ys) more rest ends ends' blank blank' same =
    let tails : more ≡ (z ∷ ys) ++ rest = cc in
    absurd (both_ways (ends_white (z ∷ ys)) (blank_ends z ys rest (ap is_blank (sym tails) ∙ blank)) ends')
same_end x (w ∷ xs) y [] more rest ends ends' blank blank' same =
    let tails : (w ∷ xs) ++ more ≡ rest = cc in
    absurd (both_ways (ends_white (w ∷ xs)) (blank_ends w xs more (ap is_blank tails ∙ blank')) ends)
same_end x (w ∷ xs) y (z ∷ ys) more rest ends ends' blank blank' same =
    let heads : x ≡ y = cc in
    let tails : (w ∷ xs) ++ more ≡ (z ∷ ys) ++ rest = cc in
    let on = same_end w xs z ys more rest ends ends' blank blank' tails in
    (ap (λ c. c ∷ w ∷ xs) heads ∙ ap (λ cs. y ∷ cs) on.0, on.1)

blank_inside : (front : List ℕ) (c : ℕ) (more : List ℕ) → is_blank (front ++ c ∷ more) ≡ true → is_white c ≡ true
blank_inside [] c more is = (and_parts (is_white c) (is_blank more) is).0
blank_inside (d ∷ front) c more is = blank_inside front c more (and_parts (is_white d) (is_blank (front ++ c ∷ more)) is).1

same_bare : (before cs after other ds behind : List ℕ) → IsValue (Bare before cs after) → IsValue (Bare other ds behind)
    → before ++ (cs ++ after) ≡ other ++ (ds ++ behind) → Bare before cs after ≡ Bare other ds behind
same_bare before [] after other [] behind is is' same =
    let none = is.5 refl in
    let none' = is'.5 refl in
    let equal : before ≡ other
    = sym (append-nil before) ∙ ap (λ a. before ++ a) (sym none) ∙ same ∙ ap (λ a. other ++ a) none' ∙ append-nil other in
    ap (λ b. Bare b [] after) equal ∙ ap (λ a. Bare other [] a) (none ∙ sym none')
same_bare before [] after other (d ∷ ds) behind is is' same =
    let blank : is_blank (other ++ (d ∷ (ds ++ behind))) ≡ true
    = ap is_blank (sym same ∙ ap (λ a. before ++ a) (is.5 refl) ∙ append-nil before) ∙ is.0 in
    absurd (both_ways (is_white d) (blank_inside other d (ds ++ behind) blank) is'.2)
same_bare before (c ∷ cs) after other [] behind is is' same =
    let blank : is_blank (before ++ (c ∷ (cs ++ after))) ≡ true
    = ap is_blank (same ∙ ap (λ a. other ++ a) (is'.5 refl) ∙ append-nil other) ∙ is'.0 in
    absurd (both_ways (is_white c) (blank_inside before c (cs ++ after) blank) is.2)
same_bare before (c ∷ cs) after other (d ∷ ds) behind is is' same =
    let first = one_run is_white before other ((c ∷ cs) ++ after) ((d ∷ ds) ++ behind) is.0 is'.0 is.2 is'.2 same in
    let back = same_end c cs d ds after behind is.3 is'.3 is.4 is'.4 first.1 in
    ap (λ b. Bare b (c ∷ cs) after) first.0 ∙ ap (λ x. Bare other x after) back.0 ∙ ap (λ a. Bare other (d ∷ ds) a) back.1

all_bare : (before cs after : List ℕ) → IsValue (Bare before cs after) → list_all is_bare (before ++ (cs ++ after)) ≡ true
all_bare before cs after is =
    list_all-append is_bare before (cs ++ after)
    ∙ and_from (list_all is_bare before) (list_all is_bare (cs ++ after)) (blank_bare before is.0)
    (list_all-append is_bare cs after ∙ and_from (list_all is_bare cs) (list_all is_bare after) is.1 (blank_bare after is.4))

-- where a quote begins, nothing bare does
no_quote : (quote : ℕ) (cs bare rest : List ℕ) → is_quote quote ≡ true → list_all is_bare bare ≡ true → IsEnd rest → quote ∷ cs ≡ bare ++ rest → ⊥
no_quote quote cs [] rest is all end same =
    let comma : quote ≡ 44 = subst (λ (m : List ℕ). IsEnd m) (sym same) end in
    both_ways (is_quote quote) is (ap is_quote comma)
no_quote quote cs (c ∷ bare) rest is all end same =
    let heads : quote ≡ c = cc in
    let plain = or_false (c == 44) (is_quote c) (not_true ((c == 44) || is_quote c) (and_parts (is_bare c) (list_all is_bare bare) all).0) in
    both_ways (is_quote c) (ap is_quote (sym heads) ∙ is) plain.1

same_value : (one other : Value) (more rest : List ℕ) → IsValue one → IsValue other → IsEnd more → IsEnd rest
    → value_written one ++ more ≡ value_written other ++ rest → (one ≡ other) × (more ≡ rest)
same_value (Quoted q cs after) (Quoted r ds behind) more rest is is' end end' same =
    let heads : q ≡ r = cc in
    let tails : (cs ++ q ∷ after) ++ more ≡ (ds ++ r ∷ behind) ++ rest = cc in
    let split : cs ++ q ∷ (after ++ more) ≡ ds ++ r ∷ (behind ++ rest)
    = sym (append_assoc cs (q ∷ after) more) ∙ tails ∙ append_assoc ds (r ∷ behind) rest in
    let all : list_all (λ c. not (c == q)) ds ≡ true = subst (λ (x : ℕ). list_all (λ c. not (c == x)) ds ≡ true) (sym heads) is'.1 in
    let stop : not (q == q) ≡ false = ap not (same_self q) in
    let stop' : not (r == q) ≡ false = ap (λ x. not (x == q)) (sym heads) ∙ stop in
    let first = one_run (λ c. not (c == q)) cs ds (q ∷ (after ++ more)) (r ∷ (behind ++ rest)) is.1 all stop stop' split in
    let left : after ++ more ≡ behind ++ rest = cc (first.1) in
    let last = one_run is_white after behind more rest is.2 is'.2 (end_stops is_white more refl end) (end_stops is_white rest refl end') left in
    (ap (λ x. Quoted x cs after) heads ∙ ap (λ x. Quoted r x after) first.0 ∙ ap (λ x. Quoted r ds x) last.0, last.1)
same_value (Quoted q cs after) (Bare other ds behind) more rest is is' end end' same =
    absurd (no_quote q ((cs ++ q ∷ after) ++ more) (other ++ (ds ++ behind)) rest is.0 (all_bare other ds behind is') end' same)
same_value (Bare before cs after) (Quoted r ds behind) more rest is is' end end' same =
    absurd (no_quote r ((ds ++ r ∷ behind) ++ rest) (before ++ (cs ++ after)) more is'.0 (all_bare before cs after is) end (sym same))
same_value (Bare before cs after) (Bare other ds behind) more rest is is' end end' same =
    let first = one_run is_bare (before ++ (cs ++ after)) (other ++ (ds ++ behind)) more rest (all_bare before cs after is) (all_bare other ds behind is')
    (end_stops is_bare more refl end) (end_stops is_bare rest refl end') same in
    (same_bare before cs after other ds behind is is' first.0, first.1)

-- pairs

regrouped : (pair : Pair) (more : List ℕ) → written pair ++ more ≡ pair.before ++ (pair.name ++ 61 ∷ (value_written pair.value ++ more))
regrouped pair more =
    append_assoc pair.before (pair.name ++ 61 ∷ value_written pair.value) more
    ∙ ap (λ back. pair.before ++ back) (append_assoc pair.name (61 ∷ value_written pair.value) more)

same_pair : (one other : Pair) (more rest : List ℕ) → IsPair one → IsPair other → IsEnd more → IsEnd rest → written one ++ more ≡ written other ++ rest
    → (one ≡ other) × (more ≡ rest)
same_pair one other more rest is is' end end' same =
    let back = 61 ∷ (value_written one.value ++ more) in
    let back' = 61 ∷ (value_written other.value ++ rest) in
    let first = one_run is_white one.before other.before (one.name ++ back) (other.name ++ back') is.0 is'.0 (name_stops one.name back is.1 is.2)
    (name_stops other.name back' is'.1 is'.2) (sym (regrouped one more) ∙ same ∙ regrouped other rest) in
    let named = one_run is_name_char one.name other.name back back' is.2 is'.2 refl refl first.1 in
    let values : value_written one.value ++ more ≡ value_written other.value ++ rest = cc (named.1) in
    let v = same_value one.value other.value more rest is.3 is'.3 end end' values in
    let build : List ℕ → List ℕ → Value → Pair = λ b n w. record { before = b; name = n; value = w } in
    (ap (λ b. build b one.name one.value) first.0 ∙ ap (λ n. build other.before n one.value) named.0 ∙ ap (λ w. build other.before other.name w) v.0, v.1)

not_blank : (white more : List ℕ) (pair : Pair) → is_blank white ≡ true → IsPair pair → white ≡ written pair ++ more → ⊥
not_blank white more pair blank is same =
    let split : white ++ [] ≡ pair.before ++ (pair.name ++ 61 ∷ (value_written pair.value ++ more)) = append-nil white ∙ same ∙ regrouped pair more in
    let on = blank_front white [] pair.before pair.name (61 ∷ (value_written pair.value ++ more)) blank is.1 is.2 split in
    let size = ap length split in
    let size' = ap length on.1 in
    omega (arith, size, size', length-append white [], length-append white on.0, length-append pair.before (pair.name ++ 61 ∷ (value_written pair.value ++ more)), length-append pair.name (61 ∷ (value_written pair.value ++ more)))

same_last : (one other : Last) → IsLast one → IsLast other → last_written one ≡ last_written other → one ≡ other
same_last (Nothing white) (Nothing blank) is is' same = ap Nothing same
same_last (Nothing white) (One pair) is is' same = absurd (not_blank white [] pair is is' (same ∙ sym (append-nil (written pair))))
same_last (One pair) (Nothing white) is is' same = absurd (not_blank white [] pair is' is (sym same ∙ sym (append-nil (written pair))))
same_last (One pair) (One other) is is' same =
    ap One (same_pair pair other [] [] is is' tt tt (append-nil (written pair) ∙ same ∙ sym (append-nil (written other)))).0

last_alone : (last : Last) (pair : Pair) (more : List ℕ) → IsLast last → IsPair pair → last_written last ≡ written pair ++ 44 ∷ more → ⊥
last_alone (Nothing white) pair more is is' same = not_blank white (44 ∷ more) pair is is' same
last_alone (One other) pair more is is' same =
    let on = same_pair other pair [] (44 ∷ more) is is' tt refl (append-nil (written other) ∙ same) in
    let wrong : [] ≡ 44 ∷ more = on.1 in
    cc

first_of : (pair : Pair) (front : List Pair) (more : List ℕ) → listed (pair ∷ front) ++ more ≡ written pair ++ 44 ∷ (listed front ++ more)
first_of pair front more =
    append_assoc (written pair ++ 44 ∷ []) (listed front) more ∙ append_assoc (written pair) (44 ∷ []) (listed front ++ more)

-- a text has one cut
pub one_cut : (front others : List Pair) (last other : Last) → ArePairs front → ArePairs others → IsLast last → IsLast other
    → listed front ++ last_written last ≡ listed others ++ last_written other → (front ≡ others) × (last ≡ other)
one_cut [] [] last other are are' is is' same = (refl, same_last last other is is' same)
one_cut [] (pair ∷ others) last other are are' is is' same =
    absurd (last_alone last pair (listed others ++ last_written other) is are'.0 (same ∙ first_of pair others (last_written other)))
one_cut (pair ∷ front) [] last other are are' is is' same =
    absurd (last_alone other pair (listed front ++ last_written last) is' are.0 (sym same ∙ first_of pair front (last_written last)))
one_cut (pair ∷ front) (second ∷ others) last other are are' is is' same =
    let first = same_pair pair second (44 ∷ (listed front ++ last_written last)) (44 ∷ (listed others ++ last_written other)) are.0 are'.0 refl refl
    (sym (first_of pair front (last_written last)) ∙ same ∙ first_of second others (last_written other)) in
    let tails : listed front ++ last_written last ≡ listed others ++ last_written other = cc (first.1) in
    let on = one_cut front others last other are.1 are'.1 is is' tails in
    (ap (λ p. p ∷ front) first.0 ∙ ap (λ ps. second ∷ ps) on.0, on.1)
