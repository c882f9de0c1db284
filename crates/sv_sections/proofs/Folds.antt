-- Folds over a list, one element further.
use Rattle.std.proofs.Common.{◌≡◌, ◌+◌, ◌-◌, ◌≤◌, ℕ, suc, zero, List, [], ◌∷◌, ◌++◌, take, drop, length, get_or, refl, ap, sym, add-one, take_all, length-take-le, arith}
use Rattle.sv_sections.specs.AllSections.{with_all_keys, with_section, with_sections}
use Rattle.sv_keys.specs.KeyTable.{Keys}
use Rattle.sv_ini.specs.Keys.{with_key}
use Rattle.sv_ini.specs.declared.section.Section.{Section}

pub sections_more : (sections more : List Section) (section : Section) → with_sections sections (more ++ section ∷ []) ≡ with_section (with_sections sections more) section
sections_more sections [] section = refl
sections_more sections (first ∷ more) section = sections_more (with_section sections first) more section

pub keys_more : (keys more : Keys) (key value : List ℕ) → with_all_keys keys (more ++ (key, value) ∷ []) ≡ with_key key value (with_all_keys keys more)
keys_more keys [] key value = refl
keys_more keys (first ∷ more) key value = keys_more (with_key first.0 first.1 keys) more key value

taken_suc : {X : Type 0} (xs : List X) (place : ℕ) (x : X) (rest : List X) → drop place xs ≡ x ∷ rest → take (suc place) xs ≡ take place xs ++ x ∷ []
taken_suc [] zero x rest e = cc
taken_suc [] (suc n) x rest e = cc
taken_suc (y ∷ ys) zero x rest e = cc
taken_suc (y ∷ ys) (suc n) x rest e = ap (λ zs. y ∷ zs) (taken_suc ys n x rest e)

dropped_suc : {X : Type 0} (xs : List X) (place : ℕ) (x : X) (rest : List X) → drop place xs ≡ x ∷ rest → drop (suc place) xs ≡ rest
dropped_suc [] zero x rest e = cc
dropped_suc [] (suc n) x rest e = cc
dropped_suc (y ∷ ys) zero x rest e = cc
dropped_suc (y ∷ ys) (suc n) x rest e = dropped_suc ys n x rest e

pub taken_more : {X : Type 0} (xs : List X) (place : ℕ) (x : X) (rest : List X) → x ∷ rest ≡ drop place xs → take (place + 1) xs ≡ take place xs ++ x ∷ []
taken_more xs place x rest e = rw (add-one place) (taken_suc xs place x rest (sym e))

pub dropped_more : {X : Type 0} (xs : List X) (place : ℕ) (x : X) (rest : List X) → x ∷ rest ≡ drop place xs → rest ≡ drop (place + 1) xs
dropped_more xs place x rest e = rw (add-one place) (sym (dropped_suc xs place x rest (sym e)))

-- a list that isn't empty is its first element and the others
pub parted : {X : Type 0} (left : List X) (item : X) → 1 ≤ length left → item ≡ get_or left 0 item → left ≡ item ∷ take (length left - 1) (drop 1 left)
parted [] item some read = absurd (omega (arith, some))
parted (x ∷ xs) item some read =
    let less : length (x ∷ xs) - 1 ≡ length xs = omega arith in
    rw (less, take_all (length xs) xs (omega arith)) (ap (λ y. y ∷ xs) (sym read))

pub count_more : {X : Type 0} (all left : List X) (place : ℕ) → 1 ≤ length left → place + length left ≡ length all → place + 1 + length (take (length left - 1) (drop 1 left)) ≡ length all
count_more all [] place some same = absurd (omega (arith, some))
count_more all (x ∷ xs) place some same =
    let less : length (x ∷ xs) - 1 ≡ length xs = omega arith in
    rw (less, take_all (length xs) xs (omega arith)) (omega (arith, same))

-- so many elements are taken
pub taken_count : {X : Type 0} (all left : List X) (place : ℕ) → place + length left ≡ length all → place ≡ length (take place all)
taken_count all left place same = sym (length-take-le place all (omega (arith, same)))
