-- Prefixes of lists of reports.
use Rattle.std.proofs.Common.{◌≡◌, ℕ, ◌≤◌, List, [], ◌∷◌, ◌++◌, length, take, drop, sym, refl, ap, ◌∙◌, append_assoc, append-nil, length-append, take-append-drop, arith, subst}
use Rattle.std.proofs.lemmas.List.{take-append-le, take_all}
use Rattle.sv_board.specs.Board.{IsFront}
use Rattle.sv_board.specs.declared.row.Report.{Report}

pub front_none : (xs : List Report) → IsFront [] xs
front_none xs = (xs, refl)

pub front_same : (xs : List Report) → IsFront xs xs
front_same xs = ([], sym (append-nil xs))

pub front_more : (xs ys : List Report) (r : Report) → IsFront xs ys → IsFront xs (ys ++ r ∷ [])
front_more xs ys r front = (front.0 ++ r ∷ [], ap (λ (l : List Report). l ++ r ∷ []) front.1 ∙ append_assoc xs front.0 (r ∷ []))

pub front_on : (xs ys zs : List Report) → IsFront xs ys → IsFront ys zs → IsFront xs zs
front_on xs ys zs a b = (a.0 ++ b.0, b.1 ∙ ap (λ (l : List Report). l ++ b.0) a.1 ∙ append_assoc xs a.0 b.0)

pub front_length : (xs ys : List Report) → IsFront xs ys → length xs ≤ length ys
front_length xs ys front = let l = length-append xs front.0 in let e = ap length front.1 in omega arith

-- so many of the first reports are those of a prefix that is long enough
pub front_take : (n : ℕ) (xs ys : List Report) → n ≤ length xs → IsFront xs ys → take n ys ≡ take n xs
front_take n xs ys short front = ap (take n) front.1 ∙ take-append-le n xs front.0 short

pub take_front : (n : ℕ) (xs : List Report) → IsFront (take n xs) xs
take_front n xs = (drop n xs, sym (take-append-drop n xs))

pub take_whole : (n : ℕ) (xs : List Report) → n ≡ length xs → take n xs ≡ xs
take_whole n xs is = take_all n xs (omega arith)

-- what was seen of a list is a prefix of what is seen of a longer one
pub seen_front : (n m : ℕ) (xs ys : List Report) → IsFront xs ys → m ≡ length ys → IsFront (take n xs) (take m ys)
seen_front n m xs ys front whole = subst (λ (l : List Report). IsFront (take n xs) l) (sym (take_whole m ys whole)) (front_on (take n xs) xs ys (take_front n xs) front)
