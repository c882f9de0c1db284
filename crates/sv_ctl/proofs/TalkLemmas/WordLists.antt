-- The words of a line, one cut at a time.
use Rattle.std.proofs.Common.{◌≡◌, ◌≤◌, ◌++◌, ℕ, List, [], ◌∷◌, Bool, true, false, length, refl, sym, ◌∙◌, ap, arith, append_assoc}
use Rattle.std.proofs.lemmas.Bool.Decides.{nat_tests, Decides-ltb}
use Rattle.std.proofs.lemmas.List.Splits.{slice_split_first, slice_split_none}
use Rattle.std.proofs.lemmas.List.Sums.{fails_before_first}
use Rattle.std.specs.List.{position_or_len, slice_split, before_first, after_first}
use Rattle.std.specs.Prelude.{cond, filter, Option, Some, None, nat_lt, if◌then◌else◌}
use Rattle.std.specs.Str.{IsUtf8, is_utf8}
use Rattle.std.proofs.lemmas.Str.{IsUtf8-from_is_utf8, is_utf8-from_IsUtf8}
use Rattle.sv_ctl.specs.Talk.Conversation.{is_space, is_some_text, words_in, words_of}
use Rattle.sv_ctl.specs.Talk.Cuts.{parted}

cut_by : (test : Bool) (bs part rest : List ℕ) → nat_lt (position_or_len is_space bs) (length bs) ≡ test
    → cond {A = Option (List ℕ × List ℕ)} test (Some (before_first is_space bs, after_first is_space bs)) None ≡ Some (part, rest)
    → slice_split is_space bs ≡ part ∷ slice_split is_space rest
cut_by true bs part rest e cut =
    let found : List ℕ × List ℕ = (before_first is_space bs, after_first is_space bs) in
    let given : List ℕ × List ℕ = (part, rest) in
    let same : found ≡ given = cc in
    let is_part : before_first is_space bs ≡ part = ap (λ (x : List ℕ × List ℕ). x.0) same in
    let is_rest : after_first is_space bs ≡ rest = ap (λ (x : List ℕ × List ℕ). x.1) same in
    rw (← is_part, ← is_rest) (slice_split_first is_space bs 0 ((Decides-ltb (position_or_len is_space bs) (length bs)).0 e))
cut_by false bs part rest e cut = cc

uncut_by : (test : Bool) (bs : List ℕ) → nat_lt (position_or_len is_space bs) (length bs) ≡ test
    → cond {A = Option (List ℕ × List ℕ)} test (Some (before_first is_space bs, after_first is_space bs)) None ≡ None
    → slice_split is_space bs ≡ bs ∷ []
uncut_by true bs e cut = cc
uncut_by false bs e cut =
    let past : length bs ≤ position_or_len is_space bs = grind (arith, nat_tests) in
    slice_split_none is_space bs (λ k d inside. fails_before_first is_space bs k d (omega arith))

filter_first : (test : Bool) (word : List ℕ) (words : List (List ℕ)) → is_some_text word ≡ test
    → filter is_some_text (word ∷ words) ≡ filter is_some_text (word ∷ []) ++ filter is_some_text words
filter_first true word words e = rw e refl
filter_first false word words e = rw e refl

pub first_word : (bs part rest : List ℕ) → parted bs ≡ Some (part, rest)
    → words_of bs ≡ filter is_some_text (part ∷ []) ++ words_of rest
first_word bs part rest cut =
    ap (filter is_some_text) (cut_by (nat_lt (position_or_len is_space bs) (length bs)) bs part rest refl cut)
    ∙ filter_first (is_some_text part) part (slice_split is_space rest) refl

pub last_word : (bs : List ℕ) → parted bs ≡ None → words_of bs ≡ filter is_some_text (bs ∷ [])
last_word bs cut = ap (filter is_some_text) (uncut_by (nat_lt (position_or_len is_space bs) (length bs)) bs refl cut)

pub words_step : (words next all : List (List ℕ)) (bs part rest : List ℕ) → parted bs ≡ Some (part, rest)
    → words ++ words_of bs ≡ all → next ≡ words ++ filter is_some_text (part ∷ []) → next ++ words_of rest ≡ all
words_step words next all bs part rest cut before is =
    ap (λ l. l ++ words_of rest) is ∙ append_assoc words (filter is_some_text (part ∷ [])) (words_of rest)
    ∙ ap (λ l. words ++ l) (sym (first_word bs part rest cut)) ∙ before

-- ---- the words of a line that is UTF-8, and of one that isn't

pub words_there : (line text : List ℕ) (given : List (List ℕ)) → text ≡ line → IsUtf8 line → given ≡ words_of text
    → Some given ≡ words_in line
words_there line text given is valid same =
    ap (λ (words : List (List ℕ)). Some words) (same ∙ ap words_of is)
    ∙ sym (ap (λ (test : Bool). if test then Some (words_of line) else None) (is_utf8-from_IsUtf8 line valid))

pub words_missing : (line : List ℕ) → (IsUtf8 line → ⊥) → None ≡ words_in line
words_missing line invalid = by_test (is_utf8 line) refl
  where
    by_test : (test : Bool) → is_utf8 line ≡ test → None ≡ words_in line
    by_test true is = absurd (invalid (IsUtf8-from_is_utf8 line is))
    by_test false is = sym (ap (λ (test : Bool). if test then Some (words_of line) else None) is)
