-- What a search finds among sizes by rising names, and what an edit at that place does.
use Rattle.std.proofs.Common.{◌≡◌, ◌≢◌, ℕ, zero, suc, ◌<◌, List, [], ◌∷◌, Bool, true, false, ◌&&◌, length, get_or, set, Result, Ok, Err, IfOk, IfErr, refl, sym, ap, subst, ◌∙◌, add-one, arith}
use mathlib.Core.Bool.{false≢true}
use Rattle.std.specs.Cmp.Lexicographic.{slice_cmp, nat_list_cmp_total, texts_ties}
use Rattle.std.specs.List.{insert}
use Rattle.std.specs.List.Sorted.{IsBinarySearchResult, IsNonDecreasingBy, IsSearchInRange}
use Rattle.std.specs.Prelude.{if◌then◌else◌}
use Rattle.std.specs.Ordering.{nat_cmp, is_eq, is_lt, ordering_index, ordering_reverse}
use Rattle.std.specs.Str.{bytes_eq}
use Rattle.std.specs.declared.cmp.Ordering.{Ordering}
use Rattle.std.specs.declared.cmp.Ordering.TheVariants.{Less, Equal, Greater}
use Rattle.std.proofs.lemmas.List.{get_or_default}
use Rattle.std.proofs.lemmas.List.Sorted.{searchable_from_sorted}
use Rattle.std.proofs.lemmas.Slice.Eq.{bytes_eq-Decides}
use Rattle.sv_logs.specs.Places.{IsGapFor, StandsAt, name_at}
use Rattle.sv_logs.specs.Sizes.{Sizes, cleared, is_before, is_before_first, rise, size_in, sized, without_first}

pub and_left : (one other : Bool) → (one && other) ≡ true → one ≡ true
and_left true other e = refl
and_left false other e = cc

pub and_right : (one other : Bool) → (one && other) ≡ true → other ≡ true
and_right true other e = e
and_right false other e = cc

pub both : (one other : Bool) → one ≡ true → other ≡ true → (one && other) ≡ true
both one other e f = rw (e, f) refl

-- ---- two names

is_less : (answer : Ordering) → is_lt answer ≡ true → answer ≡ Less
is_less Less e = refl
is_less Equal e = absurd (false≢true e)
is_less Greater e = absurd (false≢true e)

is_equal : (answer : Ordering) → is_eq answer ≡ true → answer ≡ Equal
is_equal Less e = absurd (false≢true e)
is_equal Equal e = refl
is_equal Greater e = absurd (false≢true e)

is_greater : (answer : Ordering) → is_lt answer ≡ false → is_eq answer ≡ false → answer ≡ Greater
is_greater Less e f = absurd (false≢true (sym e))
is_greater Equal e f = absurd (false≢true (sym f))
is_greater Greater e f = refl

-- whether two names are the same is what their order says
same_by_order : (one other : List ℕ) (answer : Ordering) → slice_cmp nat_cmp one other ≡ answer → bytes_eq one other ≡ is_eq answer
same_by_order one other answer e = texts_ties one other ∙ ap is_eq e

same : (one other : List ℕ) → bytes_eq one other ≡ true → one ≡ other
same one other e = (bytes_eq-Decides one other).0 e

itself : (name : List ℕ) → bytes_eq name name ≡ true
itself name = (bytes_eq-Decides name name).1 refl

not_before_itself : (name : List ℕ) → is_before name name ≡ false
not_before_itself name = ap is_lt (is_equal (slice_cmp nat_cmp name name) (sym (texts_ties name name) ∙ itself name))

before_differs : (one other : List ℕ) → is_before one other ≡ true → bytes_eq one other ≡ false
before_differs one other e = same_by_order one other Less (is_less (slice_cmp nat_cmp one other) e)

before_trans : (one other third : List ℕ) → is_before one other ≡ true → is_before other third ≡ true → is_before one third ≡ true
before_trans one other third e f =
    ap is_lt (nat_list_cmp_total.trans one other third (is_less (slice_cmp nat_cmp one other) e) (is_less (slice_cmp nat_cmp other third) f))

-- of two names the one stands before the other, or they are the same
behind : (one other : List ℕ) → is_before one other ≡ false → bytes_eq one other ≡ false → is_before other one ≡ true
behind one other e f =
    let greater = is_greater (slice_cmp nat_cmp one other) e (sym (texts_ties one other) ∙ f) in
    ap is_lt (nat_list_cmp_total.antisymm other one ∙ ap ordering_reverse greater)

not_before_lesser : (one other : List ℕ) → is_before one other ≡ true → is_before other one ≡ false
not_before_lesser one other e =
    ap is_lt (nat_list_cmp_total.antisymm other one ∙ ap ordering_reverse (is_less (slice_cmp nat_cmp one other) e))

-- ---- rising names

before_rest : (name other : List ℕ) (sizes : Sizes) → is_before name other ≡ true → is_before_first other sizes ≡ true → is_before_first name sizes ≡ true
before_rest name other [] e f = refl
before_rest name other (known ∷ sizes) e f = before_trans name other known.0 e f

-- a name before the first stands before each
before_each : (name : List ℕ) (sizes : Sizes) → is_before_first name sizes ≡ true → rise sizes ≡ true → (place : ℕ) → place < length sizes
    → is_before name (name_at sizes place) ≡ true
before_each name [] e rises place below = absurd (omega arith)
before_each name (known ∷ sizes) e rises zero below = e
before_each name (known ∷ sizes) e rises (suc place) below =
    before_each name sizes (before_rest name known.0 sizes e (and_left (is_before_first known.0 sizes) (rise sizes) rises))
    (and_right (is_before_first known.0 sizes) (rise sizes) rises) place (omega arith)

-- a later name isn't before an earlier one
sorted : (sizes : Sizes) → rise sizes ≡ true → (place : ℕ) (d : List ℕ × ℕ) → suc place < length sizes
    → is_before (get_or sizes (suc place) d).0 (get_or sizes place d).0 ≡ false
sorted [] rises place d below = absurd (omega arith)
sorted (known ∷ []) rises place d below = absurd (omega arith)
sorted (known ∷ (next ∷ sizes)) rises zero d below =
    not_before_lesser known.0 next.0 (and_left (is_before known.0 next.0) (rise (next ∷ sizes)) rises)
sorted (known ∷ (next ∷ sizes)) rises (suc place) d below =
    sorted (next ∷ sizes) (and_right (is_before known.0 next.0) (rise (next ∷ sizes)) rises) place d (omega arith)

searchable : (sizes : Sizes) (file : List ℕ) → rise sizes ≡ true → IsNonDecreasingBy (λ (known : List ℕ × ℕ). ordering_index (slice_cmp nat_cmp known.0 file)) sizes
searchable sizes file rises =
    searchable_from_sorted nat_list_cmp_total (λ (known : List ℕ × ℕ). known.0) sizes file
    (λ place d low below. rw add-one (sorted sizes rises place d (omega arith)))

-- a binary search ends at the file, or at the gap for it
pub searched : (file : List ℕ) (sizes : Sizes) → rise sizes ≡ true → (answer : Result ℕ ℕ) → IsSearchInRange answer (length sizes)
    → IsBinarySearchResult (λ (known : List ℕ × ℕ). slice_cmp nat_cmp known.0 file) sizes answer
    → record { found : IfOk answer (StandsAt file sizes); absent : IfErr answer (IsGapFor file sizes) }
searched file sizes rises (Ok place) below equal = record {
  found = record {
    below = below;
    named = same (name_at sizes place) file (same_by_order (name_at sizes place) file Equal (equal ([], 0)));
  };
  absent = tt;
}
searched file sizes rises (Err place) below parted = record {
  found = tt;
  absent = record {
    below = below;
    lesser = λ other lt. (parted (searchable sizes file rises)).0 other ([], 0) (omega arith) lt;
    greater = λ other le lt. (parted (searchable sizes file rises)).1 other ([], 0) le lt;
  };
}

-- ---- at the file's place

tail_stands : (file : List ℕ) (known : List ℕ × ℕ) (sizes : Sizes) (place : ℕ) → StandsAt file (known ∷ sizes) (suc place) → StandsAt file sizes place
tail_stands file known sizes place stands = record { below = omega (arith, stands.below); named = stands.named }

head_before : (file : List ℕ) (known : List ℕ × ℕ) (sizes : Sizes) (place : ℕ) → rise (known ∷ sizes) ≡ true → StandsAt file (known ∷ sizes) (suc place)
    → is_before known.0 file ≡ true
head_before file known sizes place rises stands =
    subst (λ (name : List ℕ). is_before known.0 name ≡ true) stands.named
    (before_each known.0 sizes (and_left (is_before_first known.0 sizes) (rise sizes) rises)
    (and_right (is_before_first known.0 sizes) (rise sizes) rises) place (omega (arith, stands.below)))

pub sized_found : (file : List ℕ) (size : ℕ) (sizes : Sizes) (place : ℕ) → rise sizes ≡ true → StandsAt file sizes place
    → sized file size sizes ≡ set sizes place (file, size)
sized_found file size [] place rises stands = absurd (omega (arith, stands.below))
sized_found file size (known ∷ sizes) zero rises stands =
    let first : is_before known.0 file ≡ false = rw stands.named (not_before_itself file) in
    let here : bytes_eq known.0 file ≡ true = rw stands.named (itself file) in
    rw (first, here) refl
sized_found file size (known ∷ sizes) (suc place) rises stands =
    rw (head_before file known sizes place rises stands)
    (ap (λ (rest : Sizes). known ∷ rest)
    (sized_found file size sizes place (and_right (is_before_first known.0 sizes) (rise sizes) rises) (tail_stands file known sizes place stands)))

pub size_found : (file : List ℕ) (sizes : Sizes) (place : ℕ) (d : List ℕ × ℕ) → rise sizes ≡ true → StandsAt file sizes place
    → size_in file sizes ≡ (get_or sizes place d).1
size_found file [] place d rises stands = absurd (omega (arith, stands.below))
size_found file (known ∷ sizes) zero d rises stands =
    let here : bytes_eq known.0 file ≡ true = rw stands.named (itself file) in
    rw here refl
size_found file (known ∷ sizes) (suc place) d rises stands =
    rw (before_differs known.0 file (head_before file known sizes place rises stands))
    (size_found file sizes place d (and_right (is_before_first known.0 sizes) (rise sizes) rises) (tail_stands file known sizes place stands))

pub cleared_found : (file : List ℕ) (sizes : Sizes) (place : ℕ) → rise sizes ≡ true → StandsAt file sizes place
    → cleared file sizes ≡ set sizes place (file, 0)
cleared_found file [] place rises stands = absurd (omega (arith, stands.below))
cleared_found file (known ∷ sizes) zero rises stands =
    let here : bytes_eq known.0 file ≡ true = rw stands.named (itself file) in
    let named : known.0 ≡ file = stands.named in
    rw here (ap (λ (name : List ℕ). (name, 0) ∷ sizes) named)
cleared_found file (known ∷ sizes) (suc place) rises stands =
    rw (before_differs known.0 file (head_before file known sizes place rises stands))
    (ap (λ (rest : Sizes). known ∷ rest)
    (cleared_found file sizes place (and_right (is_before_first known.0 sizes) (rise sizes) rises) (tail_stands file known sizes place stands)))

-- the entry there has the file's name
entry_named : (file : List ℕ) (sizes : Sizes) (place : ℕ) (entry : List ℕ × ℕ) → StandsAt file sizes place → entry ≡ get_or sizes place entry → entry.0 ≡ file
entry_named file sizes place entry stands read =
    ap (λ (known : List ℕ × ℕ). known.0) (read ∙ get_or_default sizes place entry ([], 0) stands.below) ∙ stands.named

pub sized_here : (file : List ℕ) (size : ℕ) (sizes : Sizes) (place : ℕ) (entry : List ℕ × ℕ) → rise sizes ≡ true → StandsAt file sizes place
    → entry ≡ get_or sizes place entry → set sizes place (entry.0, size) ≡ sized file size sizes
sized_here file size sizes place entry rises stands read =
    ap (λ (name : List ℕ). set sizes place (name, size)) (entry_named file sizes place entry stands read)
    ∙ sym (sized_found file size sizes place rises stands)

pub cleared_here : (file : List ℕ) (sizes : Sizes) (place : ℕ) (entry : List ℕ × ℕ) → rise sizes ≡ true → StandsAt file sizes place
    → entry ≡ get_or sizes place entry → set sizes place (entry.0, 0) ≡ cleared file sizes
cleared_here file sizes place entry rises stands read =
    ap (λ (name : List ℕ). set sizes place (name, 0)) (entry_named file sizes place entry stands read)
    ∙ sym (cleared_found file sizes place rises stands)

-- ---- at the gap for it

tail_gap : (file : List ℕ) (known : List ℕ × ℕ) (sizes : Sizes) (place : ℕ) → IsGapFor file (known ∷ sizes) (suc place) → IsGapFor file sizes place
tail_gap file known sizes place gap = record {
  below = omega (arith, gap.below);
  lesser = λ other lt. gap.lesser (suc other) (omega arith);
  greater = λ other le lt. gap.greater (suc other) (omega arith) (omega arith);
}

rest_gap : (file : List ℕ) (known : List ℕ × ℕ) (sizes : Sizes) → IsGapFor file (known ∷ sizes) zero → IsGapFor file sizes zero
rest_gap file known sizes gap = record {
  below = omega arith;
  lesser = λ other lt. absurd (omega arith);
  greater = λ other le lt. gap.greater (suc other) (omega arith) (omega arith);
}

first_lesser : (file : List ℕ) (known : List ℕ × ℕ) (sizes : Sizes) (place : ℕ) → IsGapFor file (known ∷ sizes) (suc place) → is_before known.0 file ≡ true
first_lesser file known sizes place gap = ap is_lt (gap.lesser 0 (omega arith))

first_greater : (file : List ℕ) (known : List ℕ × ℕ) (sizes : Sizes) → IsGapFor file (known ∷ sizes) zero → is_before known.0 file ≡ false
first_greater file known sizes gap = ap is_lt (gap.greater 0 (omega arith) (omega arith))

first_differs : (file : List ℕ) (known : List ℕ × ℕ) (sizes : Sizes) → IsGapFor file (known ∷ sizes) zero → bytes_eq known.0 file ≡ false
first_differs file known sizes gap = same_by_order known.0 file Greater (gap.greater 0 (omega arith) (omega arith))

pub sized_gap : (file : List ℕ) (size : ℕ) (sizes : Sizes) (place : ℕ) → IsGapFor file sizes place
    → sized file size sizes ≡ insert sizes place (file, size)
sized_gap file size [] zero gap = refl
sized_gap file size [] (suc place) gap = absurd (omega (arith, gap.below))
sized_gap file size (known ∷ sizes) zero gap =
    rw (first_greater file known sizes gap, first_differs file known sizes gap) refl
sized_gap file size (known ∷ sizes) (suc place) gap =
    rw (first_lesser file known sizes place gap)
    (ap (λ (rest : Sizes). known ∷ rest) (sized_gap file size sizes place (tail_gap file known sizes place gap)))

pub size_gap : (file : List ℕ) (sizes : Sizes) (place : ℕ) → IsGapFor file sizes place → size_in file sizes ≡ 0
size_gap file [] place gap = refl
size_gap file (known ∷ sizes) zero gap =
    rw (first_differs file known sizes gap) (size_gap file sizes zero (rest_gap file known sizes gap))
size_gap file (known ∷ sizes) (suc place) gap =
    rw (before_differs known.0 file (first_lesser file known sizes place gap))
    (size_gap file sizes place (tail_gap file known sizes place gap))

pub cleared_gap : (file : List ℕ) (sizes : Sizes) (place : ℕ) → IsGapFor file sizes place → cleared file sizes ≡ sizes
cleared_gap file [] place gap = refl
cleared_gap file (known ∷ sizes) zero gap =
    rw (first_differs file known sizes gap)
    (ap (λ (rest : Sizes). known ∷ rest) (cleared_gap file sizes zero (rest_gap file known sizes gap)))
cleared_gap file (known ∷ sizes) (suc place) gap =
    rw (before_differs known.0 file (first_lesser file known sizes place gap))
    (ap (λ (rest : Sizes). known ∷ rest) (cleared_gap file sizes place (tail_gap file known sizes place gap)))

-- ---- the names still rise

-- what the sizes begin with, where the first name is before the file or not
first_sized : (tested : Bool) (name file : List ℕ) (size : ℕ) (known : List ℕ × ℕ) (sizes : Sizes)
    → is_before known.0 file ≡ tested → is_before name known.0 ≡ true → is_before name file ≡ true
    → is_before_first name (sized file size (known ∷ sizes)) ≡ true
first_sized true name file size known sizes t e f = rw t e
first_sized false name file size known sizes t e f = rw t f

before_sized : (name file : List ℕ) (size : ℕ) (sizes : Sizes) → is_before_first name sizes ≡ true → is_before name file ≡ true
    → is_before_first name (sized file size sizes) ≡ true
before_sized name file size [] e f = f
before_sized name file size (known ∷ sizes) e f = first_sized (is_before known.0 file) name file size known sizes refl e f

rest_rises : (tested : Bool) (file : List ℕ) (size : ℕ) (known : List ℕ × ℕ) (sizes : Sizes) → rise (known ∷ sizes) ≡ true
    → is_before known.0 file ≡ false → bytes_eq known.0 file ≡ tested
    → rise ((file, size) ∷ without_first file (known ∷ sizes)) ≡ true
rest_rises true file size known sizes rises e t =
    rw t (subst (λ (name : List ℕ). (is_before_first name sizes && rise sizes) ≡ true) (same known.0 file t) rises)
rest_rises false file size known sizes rises e t =
    rw t (both (is_before file known.0) (rise (known ∷ sizes)) (behind known.0 file e t) rises)

one_sized_rises : (tested : Bool) (file : List ℕ) (size : ℕ) (known : List ℕ × ℕ) (sizes : Sizes) → is_before known.0 file ≡ tested
    → rise (known ∷ sizes) ≡ true → rise (sized file size sizes) ≡ true → rise (sized file size (known ∷ sizes)) ≡ true
one_sized_rises true file size known sizes e rises rest =
    rw e (both (is_before_first known.0 (sized file size sizes)) (rise (sized file size sizes))
    (before_sized known.0 file size sizes (and_left (is_before_first known.0 sizes) (rise sizes) rises) e) rest)
one_sized_rises false file size known sizes e rises rest =
    rw e (rest_rises (bytes_eq known.0 file) file size known sizes rises e refl)

pub sized_rises : (file : List ℕ) (size : ℕ) (sizes : Sizes) → rise sizes ≡ true → rise (sized file size sizes) ≡ true
sized_rises file size [] rises = refl
sized_rises file size (known ∷ sizes) rises =
    one_sized_rises (is_before known.0 file) file size known sizes refl rises
    (sized_rises file size sizes (and_right (is_before_first known.0 sizes) (rise sizes) rises))

before_cleared : (name file : List ℕ) (sizes : Sizes) → is_before_first name sizes ≡ true → is_before_first name (cleared file sizes) ≡ true
before_cleared name file [] e = refl
before_cleared name file (known ∷ sizes) e = by (bytes_eq known.0 file) refl
  where
    by : (tested : Bool) → bytes_eq known.0 file ≡ tested → is_before_first name (cleared file (known ∷ sizes)) ≡ true
    by true t = rw t e
    by false t = rw t e

one_cleared_rises : (tested : Bool) (file : List ℕ) (known : List ℕ × ℕ) (sizes : Sizes) → bytes_eq known.0 file ≡ tested
    → rise (known ∷ sizes) ≡ true → rise (cleared file sizes) ≡ true → rise (cleared file (known ∷ sizes)) ≡ true
one_cleared_rises true file known sizes t rises rest = rw t rises
one_cleared_rises false file known sizes t rises rest =
    rw t (both (is_before_first known.0 (cleared file sizes)) (rise (cleared file sizes))
    (before_cleared known.0 file sizes (and_left (is_before_first known.0 sizes) (rise sizes) rises)) rest)

pub cleared_rises : (file : List ℕ) (sizes : Sizes) → rise sizes ≡ true → rise (cleared file sizes) ≡ true
cleared_rises file [] rises = refl
cleared_rises file (known ∷ sizes) rises =
    one_cleared_rises (bytes_eq known.0 file) file known sizes refl rises
    (cleared_rises file sizes (and_right (is_before_first known.0 sizes) (rise sizes) rises))

-- ---- what is known after it

-- of the file
one_size_after : (tested : Bool) (file : List ℕ) (size : ℕ) (known : List ℕ × ℕ) (sizes : Sizes) → is_before known.0 file ≡ tested
    → size_in file (sized file size sizes) ≡ size → size_in file (sized file size (known ∷ sizes)) ≡ size
one_size_after true file size known sizes e rest = rw (e, before_differs known.0 file e) rest
one_size_after false file size known sizes e rest = rw (e, itself file) refl

pub size_after : (file : List ℕ) (size : ℕ) (sizes : Sizes) → size_in file (sized file size sizes) ≡ size
size_after file size [] = rw (itself file) refl
size_after file size (known ∷ sizes) = one_size_after (is_before known.0 file) file size known sizes refl (size_after file size sizes)

differs : (one other : List ℕ) → one ≢ other → bytes_eq one other ≡ false
differs one other h = by (bytes_eq one other) refl
  where
    by : (tested : Bool) → bytes_eq one other ≡ tested → bytes_eq one other ≡ false
    by true e = absurd (h (same one other e))
    by false e = e

size_without : (tested : Bool) (other file : List ℕ) (known : List ℕ × ℕ) (sizes : Sizes) → file ≢ other → bytes_eq known.0 file ≡ tested
    → size_in other (without_first file (known ∷ sizes)) ≡ size_in other (known ∷ sizes)
size_without true other file known sizes h e =
    let skipped : bytes_eq known.0 other ≡ false = rw (same known.0 file e) (differs file other h) in
    rw (e, skipped) refl
size_without false other file known sizes h e = rw e refl

one_size_beside : (tested : Bool) (other file : List ℕ) (size : ℕ) (known : List ℕ × ℕ) (sizes : Sizes) → file ≢ other → is_before known.0 file ≡ tested
    → size_in other (sized file size sizes) ≡ size_in other sizes → size_in other (sized file size (known ∷ sizes)) ≡ size_in other (known ∷ sizes)
one_size_beside true other file size known sizes h e rest =
    rw e (ap (λ (further : ℕ). if bytes_eq known.0 other then known.1 else further) rest)
one_size_beside false other file size known sizes h e rest =
    rw (e, differs file other h) (size_without (bytes_eq known.0 file) other file known sizes h refl)

-- and of another
pub size_beside : (other file : List ℕ) (size : ℕ) (sizes : Sizes) → file ≢ other → size_in other (sized file size sizes) ≡ size_in other sizes
size_beside other file size [] h = rw (differs file other h) refl
size_beside other file size (known ∷ sizes) h =
    one_size_beside (is_before known.0 file) other file size known sizes h refl (size_beside other file size sizes h)
