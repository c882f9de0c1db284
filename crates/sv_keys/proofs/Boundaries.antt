-- Where a text may be cut: before and after ASCII bytes.
use Rattle.std.proofs.Common.{◌≡◌, ◌<◌, ◌≤◌, ◌+◌, ◌-◌, ℕ, List, true, false, length, get_or, ◌⊎◌, inl, inr, sym, ◌∙◌, ap, subst, arith}
use Rattle.std.proofs.lemmas.Bool.Decides.{nat_tests}
use Rattle.std.proofs.lemmas.List.{get_or-reverse, length-reverse}
use Rattle.std.proofs.lemmas.List.Sums.{prefix_len_passes, prefix_len_stops, prefix_len-le-length, suffix_len-le-length}
use Rattle.std.proofs.lemmas.Str.{IsCharBoundary-start, IsCharBoundary-end, IsCharBoundary-before_ascii, IsCharBoundary-after_ascii}
use Rattle.std.specs.List.{prefix_len, suffix_len}
use Rattle.std.specs.Prelude.{reverse}
use Rattle.std.specs.Str.{IsUtf8, IsCharBoundary}
use Rattle.sv_keys.specs.Cuts.{is_white, is_no_colon}

white_is_ascii : (b : ℕ) → is_white b ≡ true → b < 128
white_is_ascii b e = grind (arith, nat_tests)

none_or_some : (n : ℕ) → (n ≡ 0) ⊎ (0 < n)
none_or_some n = grind arith

pub indent_boundary : (bs : List ℕ) → IsUtf8 bs → IsCharBoundary bs (prefix_len is_white bs)
indent_boundary bs text =
    let size = prefix_len is_white bs in
    let most = prefix_len-le-length is_white bs in
    elim (none_or_some size) [
      | inl e ↦ subst (IsCharBoundary bs) (sym e) (IsCharBoundary-start bs text)
      | inr some ↦
          let white = prefix_len_passes is_white bs (size - 1) 0 (omega arith) in
          let e : size - 1 + 1 ≡ size = omega arith in
          subst (IsCharBoundary bs) e (IsCharBoundary-after_ascii bs (size - 1) text (omega arith) (white_is_ascii (get_or bs (size - 1) 0) white))
    ]

pub tail_boundary : (bs : List ℕ) → IsCharBoundary bs (length bs - suffix_len is_white bs)
tail_boundary bs =
    let size = suffix_len is_white bs in
    let most = suffix_len-le-length is_white bs in
    elim (none_or_some size) [
      | inl e ↦ let at : length bs ≡ length bs - size = omega arith in subst (IsCharBoundary bs) at (IsCharBoundary-end bs)
      | inr some ↦
          let passes = prefix_len_passes is_white (reverse bs) (size - 1) 0 (omega arith) in
          let place : length bs - 1 - (size - 1) ≡ length bs - size = omega arith in
          let read = get_or-reverse bs (size - 1) 0 (omega arith) ∙ ap (λ (k : ℕ). get_or bs k 0) place in
          let white : is_white (get_or bs (length bs - size) 0) ≡ true = sym (ap is_white read) ∙ passes in
          IsCharBoundary-before_ascii bs (length bs - size) (omega arith) (white_is_ascii (get_or bs (length bs - size) 0) white)
    ]

colon_is_ascii : (b : ℕ) → is_no_colon b ≡ false → b < 128
colon_is_ascii b e = grind (arith, nat_tests)

pub last_part_within : (bs : List ℕ) → suffix_len is_no_colon bs ≤ length bs
last_part_within bs = suffix_len-le-length is_no_colon bs

-- before the last colon, or at the start
pub colon_boundary : (bs : List ℕ) → IsUtf8 bs → IsCharBoundary bs (length bs - suffix_len is_no_colon bs - 1)
colon_boundary bs text =
    let size = suffix_len is_no_colon bs in
    let most = suffix_len-le-length is_no_colon bs in
    elim (none_or_some (length bs - size)) [
      | inl e ↦ let at : 0 ≡ length bs - size - 1 = omega arith in subst (IsCharBoundary bs) at (IsCharBoundary-start bs text)
      | inr some ↦
          let inside : size < length bs = omega arith in
          let stops = prefix_len_stops is_no_colon (reverse bs) 0 (rw (length-reverse bs) inside) in
          let read = get_or-reverse bs size 0 inside in
          let place : length bs - 1 - size ≡ length bs - size - 1 = omega arith in
          let at : get_or (reverse bs) size 0 ≡ get_or bs (length bs - size - 1) 0 = read ∙ ap (λ (k : ℕ). get_or bs k 0) place in
          let colon : is_no_colon (get_or bs (length bs - size - 1) 0) ≡ false = sym (ap is_no_colon at) ∙ stops in
          IsCharBoundary-before_ascii bs (length bs - size - 1) (omega arith) (colon_is_ascii (get_or bs (length bs - size - 1) 0) colon)
    ]
