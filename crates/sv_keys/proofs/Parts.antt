-- The parts of a text, one cut at a time.
use Rattle.std.proofs.Common.{◌≡◌, ◌≤◌, ◌++◌, ℕ, List, [], ◌∷◌, Bool, true, false, length, refl, sym, ◌∙◌, ap, arith, append_assoc}
use Rattle.std.proofs.lemmas.Bool.Decides.{nat_tests, Decides-ltb}
use Rattle.std.proofs.lemmas.List.Splits.{slice_split_first, slice_split_none}
use Rattle.std.proofs.lemmas.List.{append-nil}
use Rattle.std.proofs.lemmas.List.Sums.{fails_before_first}
use Rattle.std.specs.List.{flat_map, position_or_len, slice_split, before_first, after_first}
use Rattle.std.specs.Prelude.{cond, filter, map, Option, Some, None, nat_lt}
use Rattle.sv_keys.specs.Cuts.{cut_at, is_comma, is_space, is_feed, is_some_text, trimmed, parts_of, lines_in, gaps_in}

cut_by : (test : Bool) (p : ℕ → Bool) (bs part rest : List ℕ) → nat_lt (position_or_len p bs) (length bs) ≡ test
    → cond {A = Option (List ℕ × List ℕ)} test (Some (before_first p bs, after_first p bs)) None ≡ Some (part, rest)
    → slice_split p bs ≡ part ∷ slice_split p rest
cut_by true p bs part rest e cut =
    let found : List ℕ × List ℕ = (before_first p bs, after_first p bs) in
    let given : List ℕ × List ℕ = (part, rest) in
    let same : found ≡ given = cc in
    let is_part : before_first p bs ≡ part = ap (λ (x : List ℕ × List ℕ). x.0) same in
    let is_rest : after_first p bs ≡ rest = ap (λ (x : List ℕ × List ℕ). x.1) same in
    rw (← is_part, ← is_rest) (slice_split_first p bs 0 ((Decides-ltb (position_or_len p bs) (length bs)).0 e))
cut_by false p bs part rest e cut = cc

pub split_cut : (p : ℕ → Bool) (bs part rest : List ℕ) → cut_at p bs ≡ Some (part, rest) → slice_split p bs ≡ part ∷ slice_split p rest
split_cut p bs part rest cut = cut_by (nat_lt (position_or_len p bs) (length bs)) p bs part rest refl cut

uncut_by : (test : Bool) (p : ℕ → Bool) (bs : List ℕ) → nat_lt (position_or_len p bs) (length bs) ≡ test
    → cond {A = Option (List ℕ × List ℕ)} test (Some (before_first p bs, after_first p bs)) None ≡ None
    → slice_split p bs ≡ bs ∷ []
uncut_by true p bs e cut = cc
uncut_by false p bs e cut =
    let past : length bs ≤ position_or_len p bs = grind (arith, nat_tests) in
    slice_split_none p bs (λ k d inside. fails_before_first p bs k d (omega arith))

pub split_uncut : (p : ℕ → Bool) (bs : List ℕ) → cut_at p bs ≡ None → slice_split p bs ≡ bs ∷ []
split_uncut p bs cut = uncut_by (nat_lt (position_or_len p bs) (length bs)) p bs refl cut

pub parts_cut : (bs part rest : List ℕ) → cut_at is_comma bs ≡ Some (part, rest) → parts_of bs ≡ trimmed part ∷ parts_of rest
parts_cut bs part rest cut = ap (map trimmed) (split_cut is_comma bs part rest cut)

pub parts_uncut : (bs : List ℕ) → cut_at is_comma bs ≡ None → parts_of bs ≡ trimmed bs ∷ []
parts_uncut bs cut = ap (map trimmed) (split_uncut is_comma bs cut)

filter_first : (test : Bool) (line : List ℕ) (lines : List (List ℕ)) → is_some_text line ≡ test
    → filter is_some_text (line ∷ lines) ≡ filter is_some_text (line ∷ []) ++ filter is_some_text lines
filter_first true line lines e = rw e refl
filter_first false line lines e = rw e refl

pub lines_cut : (bs part rest : List ℕ) → cut_at is_feed bs ≡ Some (part, rest) → lines_in bs ≡ filter is_some_text (part ∷ []) ++ lines_in rest
lines_cut bs part rest cut =
    ap (filter is_some_text) (split_cut is_feed bs part rest cut)
    ∙ filter_first (is_some_text part) part (slice_split is_feed rest) refl

pub lines_uncut : (bs : List ℕ) → cut_at is_feed bs ≡ None → lines_in bs ≡ filter is_some_text (bs ∷ [])
lines_uncut bs cut = ap (filter is_some_text) (split_uncut is_feed bs cut)

pub gaps_cut : (bs part rest : List ℕ) → cut_at is_space bs ≡ Some (part, rest) → gaps_in bs ≡ lines_in part ++ gaps_in rest
gaps_cut bs part rest cut = ap (flat_map lines_in) (split_cut is_space bs part rest cut)

pub gaps_uncut : (bs : List ℕ) → cut_at is_space bs ≡ None → gaps_in bs ≡ lines_in bs
gaps_uncut bs cut = ap (flat_map lines_in) (split_uncut is_space bs cut) ∙ append-nil (lines_in bs)

-- two more, and then others
pub two_behind : {X : Type 0} (front more : List X) (one other : X) → ((front ++ one ∷ []) ++ other ∷ []) ++ more ≡ front ++ one ∷ other ∷ more
two_behind front more one other = simp append_assoc

-- one cut of a loop over the parts
pub parts_step : (done all : List (List ℕ)) (bs part rest : List ℕ) → cut_at is_comma bs ≡ Some (part, rest) → done ++ parts_of bs ≡ all
    → (done ++ trimmed part ∷ []) ++ parts_of rest ≡ all
parts_step done all bs part rest cut e =
    append_assoc done (trimmed part ∷ []) (parts_of rest) ∙ ap (λ ps. done ++ ps) (sym (parts_cut bs part rest cut)) ∙ e

pub lines_step : (done all : List (List ℕ)) (bs part rest : List ℕ) → cut_at is_feed bs ≡ Some (part, rest) → done ++ lines_in bs ≡ all
    → (done ++ filter is_some_text (part ∷ [])) ++ lines_in rest ≡ all
lines_step done all bs part rest cut e =
    append_assoc done (filter is_some_text (part ∷ [])) (lines_in rest) ∙ ap (λ ps. done ++ ps) (sym (lines_cut bs part rest cut)) ∙ e

pub gaps_step : (done all : List (List ℕ)) (bs part rest : List ℕ) → cut_at is_space bs ≡ Some (part, rest) → done ++ gaps_in bs ≡ all
    → (done ++ lines_in part) ++ gaps_in rest ≡ all
gaps_step done all bs part rest cut e =
    append_assoc done (lines_in part) (gaps_in rest) ∙ ap (λ ps. done ++ ps) (sym (gaps_cut bs part rest cut)) ∙ e
