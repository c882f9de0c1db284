-- Where a text may be cut: before and after ASCII bytes.
use Rattle.std.proofs.Common.{◌≡◌, ◌<◌, ◌≤◌, ◌+◌, ◌-◌, ℕ, suc, List, [], ◌∷◌, Bool, true, false, length, get_or, ◌⊎◌, inl, inr, refl, sym, ◌∙◌, ap, subst, arith}
use Rattle.std.proofs.lemmas.Bool.Decides.{nat_tests, Decides-ltb}
use Rattle.std.proofs.lemmas.List.{get_or-reverse}
use Rattle.std.proofs.lemmas.List.Sums.{passes_at_first, prefix_len_passes, prefix_len-le-length, suffix_len-le-length}
use Rattle.std.proofs.lemmas.Str.{IsCharBoundary-start, IsCharBoundary-end, IsCharBoundary-before_ascii, IsCharBoundary-after_ascii}
use Rattle.std.specs.List.{position, position_or_len, prefix_len, suffix_len}
use Rattle.std.specs.Option.{IfSome}
use Rattle.std.specs.Prelude.{reverse, cond, Some, None, nat_lt, ◌&&◌, if◌then◌else◌}
use Rattle.std.specs.Str.{IsUtf8, IsCharBoundary}
use Rattle.sv_ini.specs.Lines.{is_blank, is_feed, is_opening, is_bracket, is_separator, is_semicolon, begins_with, comment_at}

pub blank_is_ascii : (b : ℕ) → is_blank b ≡ true → b < 128
blank_is_ascii b e = grind (arith, nat_tests)

pub feed_is_ascii : (b : ℕ) → is_feed b ≡ true → b < 128
feed_is_ascii b e = grind (arith, nat_tests)

pub bracket_is_ascii : (b : ℕ) → is_bracket b ≡ true → b < 128
bracket_is_ascii b e = grind (arith, nat_tests)

pub separator_is_ascii : (b : ℕ) → is_separator b ≡ true → b < 128
separator_is_ascii b e = grind (arith, nat_tests)

by_bool : (test : Bool) (place size : ℕ) (P : ℕ → Type 0) → nat_lt place size ≡ test → (place < size → P place)
    → IfSome (cond test (Some place) None) P
by_bool true place size P e h = h ((Decides-ltb place size).0 e)
by_bool false place size P e h = tt

by_test : (place size : ℕ) (P : ℕ → Type 0) → (place < size → P place) → IfSome (cond (nat_lt place size) (Some place) None) P
by_test place size P h = by_bool (nat_lt place size) place size P refl h

-- the first byte that passes a test of ASCII bytes
pub first_is_ascii : (p : ℕ → Bool) → ((b : ℕ) → p b ≡ true → b < 128) → (bs : List ℕ)
    → IfSome (position p bs) (λ i. (i < length bs) × (get_or bs i 0 < 128))
first_is_ascii p ascii bs =
    by_test (position_or_len p bs) (length bs) (λ i. (i < length bs) × (get_or bs i 0 < 128))
    (λ inside. (inside, ascii (get_or bs (position_or_len p bs) 0) (passes_at_first p bs 0 inside)))

none_or_some : (n : ℕ) → (n ≡ 0) ⊎ (0 < n)
none_or_some n = grind arith

pub indent_boundary : (bs : List ℕ) → IsUtf8 bs → IsCharBoundary bs (prefix_len is_blank bs)
indent_boundary bs text =
    let size = prefix_len is_blank bs in
    let most = prefix_len-le-length is_blank bs in
    elim (none_or_some size) [
      | inl e ↦ subst (IsCharBoundary bs) (sym e) (IsCharBoundary-start bs text)
      | inr some ↦
          let blank = prefix_len_passes is_blank bs (size - 1) 0 (omega arith) in
          let e : size - 1 + 1 ≡ size = omega arith in
          subst (IsCharBoundary bs) e (IsCharBoundary-after_ascii bs (size - 1) text (omega arith) (blank_is_ascii (get_or bs (size - 1) 0) blank))
    ]

pub tail_boundary : (bs : List ℕ) → IsCharBoundary bs (length bs - suffix_len is_blank bs)
tail_boundary bs =
    let size = suffix_len is_blank bs in
    let most = suffix_len-le-length is_blank bs in
    elim (none_or_some size) [
      | inl e ↦ let at : length bs ≡ length bs - size = omega arith in subst (IsCharBoundary bs) at (IsCharBoundary-end bs)
      | inr some ↦
          let passes = prefix_len_passes is_blank (reverse bs) (size - 1) 0 (omega arith) in
          let place : length bs - 1 - (size - 1) ≡ length bs - size = omega arith in
          let read = get_or-reverse bs (size - 1) 0 (omega arith) ∙ ap (λ (k : ℕ). get_or bs k 0) place in
          let blank : is_blank (get_or bs (length bs - size) 0) ≡ true = sym (ap is_blank read) ∙ passes in
          IsCharBoundary-before_ascii bs (length bs - size) (omega arith) (blank_is_ascii (get_or bs (length bs - size) 0) blank)
    ]

and_left : (x y : Bool) → (x && y) ≡ true → x ≡ true
and_left true y e = refl
and_left false y e = e

within_if : (test : Bool) (n m : ℕ) → n ≤ m → (if test then 0 else suc n) ≤ suc m
within_if true n m h = omega arith
within_if false n m h = omega arith

pub comment_within : (bs : List ℕ) → comment_at bs ≤ length bs
comment_within [] = omega arith
comment_within (b ∷ bs) = within_if (is_blank b && begins_with is_semicolon bs) (comment_at bs) (length bs) (comment_within bs)

blank_if : (test : Bool) (b : ℕ) (bs : List ℕ) (n : ℕ) → (test ≡ true → is_blank b ≡ true)
    → (n < length bs → is_blank (get_or bs n 0) ≡ true)
    → (if test then 0 else suc n) < length (b ∷ bs) → is_blank (get_or (b ∷ bs) (if test then 0 else suc n) 0) ≡ true
blank_if true b bs n here later inside = here refl
blank_if false b bs n here later inside = later (omega arith)

comment_blank : (bs : List ℕ) → comment_at bs < length bs → is_blank (get_or bs (comment_at bs) 0) ≡ true
comment_blank [] inside = absurd (omega arith)
comment_blank (b ∷ bs) inside =
    blank_if (is_blank b && begins_with is_semicolon bs) b bs (comment_at bs)
    (and_left (is_blank b) (begins_with is_semicolon bs)) (comment_blank bs) inside

below_or_at : (a b : ℕ) → a ≤ b → (a < b) ⊎ (a ≡ b)
below_or_at a b h = grind arith

pub comment_boundary : (bs : List ℕ) → IsCharBoundary bs (comment_at bs)
comment_boundary bs =
    elim (below_or_at (comment_at bs) (length bs) (comment_within bs)) [
      | inl inside ↦ IsCharBoundary-before_ascii bs (comment_at bs) inside (blank_is_ascii (get_or bs (comment_at bs) 0) (comment_blank bs inside))
      | inr e ↦ subst (IsCharBoundary bs) (sym e) (IsCharBoundary-end bs)
    ]

pub bracket_boundary : (bs : List ℕ) → IsUtf8 bs → begins_with is_opening bs ≡ true → IsCharBoundary bs 1
bracket_boundary [] text e = cc
bracket_boundary (b ∷ bs) text e =
    let ascii : b < 128 = grind (arith, nat_tests) in
    IsCharBoundary-after_ascii (b ∷ bs) 0 text (omega arith) ascii
