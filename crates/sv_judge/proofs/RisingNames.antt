-- Names that rise, with one more after them.
use Rattle.std.proofs.Common.{◌≡◌, ℕ, suc, ◌-◌, List, [], ◌∷◌, ◌++◌, Bool, true, false, ◌&&◌, refl, length, Some, sym, ap, ◌∙◌, arith}
use Rattle.std.specs.Prelude.{slice_get}
use Rattle.std.specs.Cmp.Lexicographic.{slice_cmp}
use Rattle.std.specs.Ordering.{nat_cmp, is_lt}
use Rattle.sv_logs.specs.Sizes.{rise}
use Rattle.sv_judge.specs.LongHeader.{is_behind}

and_left : (one other : Bool) → (one && other) ≡ true → one ≡ true
and_left true other e = refl
and_left false other e = cc

and_right : (one other : Bool) → (one && other) ≡ true → other ≡ true
and_right true other e = e
and_right false other e = cc

pub rise_more : (sizes : List (List ℕ × ℕ)) (file : List ℕ) (size : ℕ) → rise sizes ≡ true → is_behind file sizes ≡ true
    → rise (sizes ++ (file, size) ∷ []) ≡ true
rise_more [] file size rises behind = refl
rise_more (one ∷ []) file size rises behind = rw behind refl
rise_more (one ∷ (next ∷ more)) file size rises behind =
    let first = and_left (is_lt (slice_cmp nat_cmp one.0 next.0)) (rise (next ∷ more)) rises in
    let rest = rise_more (next ∷ more) file size (and_right (is_lt (slice_cmp nat_cmp one.0 next.0)) (rise (next ∷ more)) rises) behind in
    rw (first, rest) refl

pub behind_last : {A : Type 0} → (name : List ℕ) (entries : List (List ℕ × A)) (last : List ℕ × A) → slice_get entries (length entries - 1) ≡ Some last
    → is_behind name entries ≡ is_lt (slice_cmp nat_cmp last.0 name)
behind_last name [] last e = cc
behind_last name (entry ∷ []) last e = let same : entry ≡ last = cc in rw same refl
behind_last name (entry ∷ (next ∷ more)) last e =
    let tail = next ∷ more in
    let here : length (entry ∷ tail) - 1 ≡ suc (length more) = omega arith in
    let there : length tail - 1 ≡ length more = omega arith in
    behind_last name (next ∷ more) last (ap (slice_get tail) there ∙ (sym (ap (slice_get (entry ∷ tail)) here) ∙ e))
