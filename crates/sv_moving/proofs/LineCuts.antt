-- The lines of a text, one line feed at a time.
use Rattle.std.proofs.Common.{◌≡◌, ◌≤◌, ◌+◌, ℕ, List, [], ◌∷◌, Bool, true, false, length, take, drop, refl, sym, ◌∙◌, ap, arith}
use Rattle.std.proofs.lemmas.Bool.Decides.{nat_tests, Decides-ltb}
use Rattle.std.proofs.lemmas.List.Splits.{slice_split_first, slice_split_none}
use Rattle.std.proofs.lemmas.List.Sums.{fails_before_first}
use Rattle.std.specs.List.{position_or_len, slice_split}
use Rattle.std.specs.Option.{option_map}
use Rattle.std.specs.Prelude.{cond, Some, None, nat_lt}
use Rattle.sv_moving.specs.declared.reader.Reader.{Reader}
use Rattle.sv_moving.specs.Lines.{is_feed, cut_at}
use Rattle.sv_moving.specs.Reading.{after_line, after_lines}

cut_by : (test : Bool) (cs line rest : List ℕ) → nat_lt (position_or_len is_feed cs) (length cs) ≡ test
    → option_map {U = List ℕ × List ℕ} (λ at. (take at cs, drop (at + 1) cs)) (cond test (Some (position_or_len is_feed cs)) None) ≡ Some (line, rest)
    → slice_split is_feed cs ≡ line ∷ slice_split is_feed rest
cut_by true cs line rest e cut =
    let found : List ℕ × List ℕ = (take (position_or_len is_feed cs) cs, drop (position_or_len is_feed cs + 1) cs) in
    let given : List ℕ × List ℕ = (line, rest) in
    let same : found ≡ given = cc in
    let is_line : take (position_or_len is_feed cs) cs ≡ line = ap (λ (p : List ℕ × List ℕ). p.0) same in
    let is_rest : drop (position_or_len is_feed cs + 1) cs ≡ rest = ap (λ (p : List ℕ × List ℕ). p.1) same in
    rw (← is_line, ← is_rest) (slice_split_first is_feed cs 0 ((Decides-ltb (position_or_len is_feed cs) (length cs)).0 e))
cut_by false cs line rest e cut = cc

pub lines_cut : (cs line rest : List ℕ) → cut_at is_feed cs ≡ Some (line, rest) → slice_split is_feed cs ≡ line ∷ slice_split is_feed rest
lines_cut cs line rest cut = cut_by (nat_lt (position_or_len is_feed cs) (length cs)) cs line rest refl cut

uncut_by : (test : Bool) (cs : List ℕ) → nat_lt (position_or_len is_feed cs) (length cs) ≡ test
    → option_map {U = List ℕ × List ℕ} (λ at. (take at cs, drop (at + 1) cs)) (cond test (Some (position_or_len is_feed cs)) None) ≡ None
    → slice_split is_feed cs ≡ cs ∷ []
uncut_by true cs e cut = cc
uncut_by false cs e cut =
    let past : length cs ≤ position_or_len is_feed cs = grind (arith, nat_tests) in
    slice_split_none is_feed cs (λ k d inside. fails_before_first is_feed cs k d (omega arith))

pub lines_uncut : (cs : List ℕ) → cut_at is_feed cs ≡ None → slice_split is_feed cs ≡ cs ∷ []
lines_uncut cs cut = uncut_by (nat_lt (position_or_len is_feed cs) (length cs)) cs refl cut

-- a line that is read in turn
pub one_line : (left line rest : List ℕ) (reader next whole : Reader) → cut_at is_feed left ≡ Some (line, rest)
    → next ≡ after_line reader line → after_lines reader (slice_split is_feed left) ≡ whole
    → after_lines next (slice_split is_feed rest) ≡ whole
one_line left line rest reader next whole cut read e =
    ap (λ (r : Reader). after_lines r (slice_split is_feed rest)) read
    ∙ sym (ap (λ (ls : List (List ℕ)). after_lines reader ls) (lines_cut left line rest cut)) ∙ e

-- the last line
pub last_line : (left : List ℕ) (reader next whole : Reader) → cut_at is_feed left ≡ None → next ≡ after_line reader left
    → after_lines reader (slice_split is_feed left) ≡ whole → next ≡ whole
last_line left reader next whole cut read e =
    read ∙ sym (ap (λ (ls : List (List ℕ)). after_lines reader ls) (lines_uncut left cut)) ∙ e
