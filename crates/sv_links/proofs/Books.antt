-- What the changes of a book do to the link of a number.
use Rattle.std.proofs.Common.{◌≡◌, ℕ, zero, suc, List, [], ◌∷◌, ◌++◌, Some, None, length, refl, ap, slice_get}
use Rattle.std.specs.Option.{option_map}
use Rattle.sv_links.specs.LinkBook.{LinkRecord, at_place, changed_at, link_at}

place_same : (n : ℕ) (f : LinkRecord → LinkRecord) (book : List LinkRecord) → slice_get (at_place n f book) n ≡ option_map f (slice_get book n)
place_same n f [] = refl
place_same zero f (r ∷ book) = refl
place_same (suc n) f (r ∷ book) = place_same n f book

-- the link that is changed
pub at_same : (n : ℕ) (f : LinkRecord → LinkRecord) (book : List LinkRecord) → link_at n (changed_at n f book) ≡ option_map f (link_at n book)
at_same zero f book = refl
at_same (suc n) f book = place_same n f book

place_apart : (n m : ℕ) (f : LinkRecord → LinkRecord) (book : List LinkRecord) → (n ≡ m → ⊥) → slice_get (at_place n f book) m ≡ slice_get book m
place_apart n m f [] apart = refl
place_apart zero zero f (r ∷ book) apart = absurd (apart refl)
place_apart zero (suc m) f (r ∷ book) apart = refl
place_apart (suc n) zero f (r ∷ book) apart = refl
place_apart (suc n) (suc m) f (r ∷ book) apart = place_apart n m f book (λ is. apart (ap suc is))

-- any other
pub at_apart : (n m : ℕ) (f : LinkRecord → LinkRecord) (book : List LinkRecord) → (n ≡ m → ⊥) → link_at m (changed_at n f book) ≡ link_at m book
at_apart zero m f book apart = refl
at_apart (suc n) zero f book apart = refl
at_apart (suc n) (suc m) f book apart = place_apart n m f book (λ is. apart (ap suc is))

place_length : (n : ℕ) (f : LinkRecord → LinkRecord) (book : List LinkRecord) → length (at_place n f book) ≡ length book
place_length n f [] = refl
place_length zero f (r ∷ book) = refl
place_length (suc n) f (r ∷ book) = ap suc (place_length n f book)

pub length_changed : (n : ℕ) (f : LinkRecord → LinkRecord) (book : List LinkRecord) → length (changed_at n f book) ≡ length book
length_changed zero f book = refl
length_changed (suc n) f book = place_length n f book

place_kept : (n : ℕ) (f : LinkRecord → LinkRecord) (book : List LinkRecord) → ((r : LinkRecord) → slice_get book n ≡ Some r → f r ≡ r) → at_place n f book ≡ book
place_kept n f [] same = refl
place_kept zero f (r ∷ book) same = ap (λ front. front ∷ book) (same r refl)
place_kept (suc n) f (r ∷ book) same = ap (λ rest. r ∷ rest) (place_kept n f book same)

-- a change that leaves the link as it is leaves the book
pub changed_nothing : (n : ℕ) (f : LinkRecord → LinkRecord) (book : List LinkRecord) → ((r : LinkRecord) → link_at n book ≡ Some r → f r ≡ r)
    → changed_at n f book ≡ book
changed_nothing zero f book same = refl
changed_nothing (suc n) f book same = place_kept n f book same

place_last : (book : List LinkRecord) (r : LinkRecord) → slice_get (book ++ r ∷ []) (length book) ≡ Some r
place_last [] r = refl
place_last (first ∷ book) r = place_last book r

-- a link that is opened has the next number
pub at_last : (book : List LinkRecord) (r : LinkRecord) → link_at (suc (length book)) (book ++ r ∷ []) ≡ Some r
at_last book r = place_last book r

place_before : (n : ℕ) (book : List LinkRecord) (r : LinkRecord) → (n ≡ length book → ⊥) → slice_get (book ++ r ∷ []) n ≡ slice_get book n
place_before zero [] r apart = absurd (apart refl)
place_before (suc n) [] r apart = refl
place_before zero (first ∷ book) r apart = refl
place_before (suc n) (first ∷ book) r apart = place_before n book r (λ is. apart (ap suc is))

pub at_before : (n : ℕ) (book : List LinkRecord) (r : LinkRecord) → (n ≡ suc (length book) → ⊥) → link_at n (book ++ r ∷ []) ≡ link_at n book
at_before zero book r apart = refl
at_before (suc n) book r apart = place_before n book r (λ is. apart (ap suc is))

place_beyond : (book : List LinkRecord) → slice_get book (length book) ≡ None
place_beyond [] = refl
place_beyond (r ∷ book) = place_beyond book

pub at_beyond : (book : List LinkRecord) → link_at (suc (length book)) book ≡ None
at_beyond book = place_beyond book

pub length_more : (book : List LinkRecord) (r : LinkRecord) → length (book ++ r ∷ []) ≡ suc (length book)
length_more [] r = refl
length_more (first ∷ book) r = ap suc (length_more book r)
