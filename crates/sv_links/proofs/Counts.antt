-- How many links are open after a change.
use Rattle.std.proofs.Common.{arith, ◌≡◌, ℕ, zero, suc, List, [], ◌∷◌, ◌++◌, Option, None, Some, is_some, unwrap_or, Bool, true, false, ◌-◌, length, if◌then◌else◌, cond, refl, ap, slice_get}
use Rattle.std.specs.List.{filter}
use Rattle.std.proofs.lemmas.Bool.{false≢true}
use Rattle.sv_links.specs.LinkBook.{LinkRecord, at_place, changed_at, is_open, link_at, open_count}

-- one link before two books of the same count
count_behind : (r : LinkRecord) (book other : List LinkRecord) → open_count book ≡ open_count other → open_count (r ∷ book) ≡ open_count (r ∷ other)
count_behind r book other same = by_test (is_open r) where
  by_test : (b : Bool) → length (cond b (r ∷ filter is_open book) (filter is_open book)) ≡ length (cond b (r ∷ filter is_open other) (filter is_open other))
  by_test true = ap suc same
  by_test false = same

-- the link at a place
the_link : (first r : LinkRecord) → Some first ≡ Some r → first ≡ r
the_link first r e = ap (λ (o : Option LinkRecord). unwrap_or o first) e

place_count : (n : ℕ) (f : LinkRecord → LinkRecord) (book : List LinkRecord) (r : LinkRecord) → slice_get book n ≡ Some r → is_open (f r) ≡ is_open r
    → open_count (at_place n f book) ≡ open_count book
place_count n f [] r there same = refl
place_count zero f (first ∷ book) r there same = by_test (is_open first) (rw (the_link first r there) same) where
  by_test : (b : Bool) → is_open (f first) ≡ b → length (cond (is_open (f first)) (f first ∷ filter is_open book) (filter is_open book)) ≡ length (cond b (first ∷ filter is_open book) (filter is_open book))
  by_test true e = rw e refl
  by_test false e = rw e refl
place_count (suc n) f (first ∷ book) r there same = count_behind first (at_place n f book) book (place_count n f book r there same)

-- the link is open as before
pub count_same : (n : ℕ) (f : LinkRecord → LinkRecord) (book : List LinkRecord) (r : LinkRecord) → link_at n book ≡ Some r → is_open (f r) ≡ is_open r
    → open_count (changed_at n f book) ≡ open_count book
count_same zero f book r there same = refl
count_same (suc n) f book r there same = place_count n f book r there same

one_behind : (r : LinkRecord) (book other : List LinkRecord) → open_count book ≡ suc (open_count other) → open_count (r ∷ book) ≡ suc (open_count (r ∷ other))
one_behind r book other less = by_test (is_open r) where
  by_test : (b : Bool) → length (cond b (r ∷ filter is_open book) (filter is_open book)) ≡ suc (length (cond b (r ∷ filter is_open other) (filter is_open other)))
  by_test true = ap suc less
  by_test false = less

none_is_not_some : (r : LinkRecord) → None ≡ Some r → ⊥
none_is_not_some r e = false≢true (ap is_some e)

place_less : (n : ℕ) (f : LinkRecord → LinkRecord) (book : List LinkRecord) (r : LinkRecord) → slice_get book n ≡ Some r → is_open r ≡ true
    → is_open (f r) ≡ false → open_count book ≡ suc (open_count (at_place n f book))
place_less n f [] r there opens over = absurd (none_is_not_some r there)
place_less zero f (first ∷ book) r there opens over = rw (the_link first r there, opens, over) refl
place_less (suc n) f (first ∷ book) r there opens over = one_behind first book (at_place n f book) (place_less n f book r there opens over)

-- the link was open and is over
pub count_less : (n : ℕ) (f : LinkRecord → LinkRecord) (book : List LinkRecord) (r : LinkRecord) → link_at n book ≡ Some r → is_open r ≡ true
    → is_open (f r) ≡ false → open_count (changed_at n f book) ≡ open_count book - 1
count_less zero f book r there opens over = absurd (none_is_not_some r there)
count_less (suc n) f book r there opens over =
    let less : open_count book ≡ suc (open_count (changed_at (suc n) f book)) = place_less n f book r there opens over in omega arith

-- a link that is opened
pub count_more : (book : List LinkRecord) (r : LinkRecord) → open_count (book ++ r ∷ []) ≡ (if is_open r then suc (open_count book) else open_count book)
count_more [] r = by_test (is_open r) where
  by_test : (b : Bool) → length (cond b (r ∷ []) []) ≡ (if b then 1 else 0)
  by_test true = refl
  by_test false = refl
count_more (first ∷ book) r = by_test (is_open r) (count_more book r) where
  by_test : (b : Bool) → open_count (book ++ r ∷ []) ≡ (if b then suc (open_count book) else open_count book)
      → open_count (first ∷ book ++ r ∷ []) ≡ (if b then suc (open_count (first ∷ book)) else open_count (first ∷ book))
  by_test true e = one_behind first (book ++ r ∷ []) book e
  by_test false e = count_behind first (book ++ r ∷ []) book e
