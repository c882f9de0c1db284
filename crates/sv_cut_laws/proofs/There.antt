-- What a name of a command finds, and what is asked of all or of a group, are processes of the configuration.
use Rattle.std.proofs.Common.{◌≡◌, ◌<◌, ◌≤◌, ◌+◌, ◌++◌, ℕ, zero, suc, List, [], ◌∷◌, Bool, true, false, Option, Some, None, if◌then◌else◌, take, length, arith, ◌∙◌, refl, ap, sym, subst}
use Rattle.std.specs.Prelude.{is_some, reverse, slice_get}
use Rattle.std.specs.List.{flat_map, position_from}
use Rattle.std.proofs.lemmas.List.{length-append, length-map, reverse-append, reverse-reverse}
use Rattle.sv_base.specs.SplitName.{split_of}
use Rattle.sv_base.specs.declared.ids.ChildId.{ChildId}
use Rattle.sv_base.specs.declared.spec.GroupSpec.{GroupSpec}
use Rattle.sv_base.specs.declared.spec.Spec.{Spec}
use Rattle.sv_groups.specs.Lookup.{found, found_by, group_found, is_called, names_in, names_of, one_found, place_of}
use Rattle.sv_groups.specs.StartOrder.{first_of, ids_from, members_at, pairs_in, pairs_of, processes, start_order}
use Rattle.sv_groups.specs.declared.lookup.Found.{Found}
use Rattle.sv_groups.specs.declared.lookup.Found.TheVariants.{One}
use Rattle.sv_methods.specs.Processes.{members_of_group}

-- each is below this
abbrev pub AreBelow : ℕ → List ChildId → Type 0
AreBelow n [] = Unit {0}
AreBelow n (id ∷ ids) = (id.0 < n) × AreBelow n ids

below_both : (n : ℕ) (xs ys : List ChildId) → AreBelow n xs → AreBelow n ys → AreBelow n (xs ++ ys)
below_both n [] ys one other = other
below_both n (x ∷ xs) ys one other = (one.0, below_both n xs ys one.1 other)

pub below_reverse : (n : ℕ) (xs : List ChildId) → AreBelow n xs → AreBelow n (reverse xs)
below_reverse n [] are = tt
below_reverse n (x ∷ xs) are =
    subst (λ (ids : List ChildId). AreBelow n ids) (sym (reverse-append (x ∷ []) xs))
    (below_both n (reverse xs) (x ∷ []) (below_reverse n xs are.1) (are.0, tt))

first_below : (first size n : ℕ) → first + suc size ≤ n → first < n
first_below first size n are = omega (arith, are)

rest_below : (first size n : ℕ) → first + suc size ≤ n → first + 1 + size ≤ n
rest_below first size n are = omega (arith, are)

from_below : (first : ℕ) (ms : List Spec) (n : ℕ) → first + length ms ≤ n → AreBelow n (ids_from first ms)
from_below first [] n are = tt
from_below first (m ∷ ms) n are = (first_below first (length ms) n are, from_below (first + 1) ms n (rest_below first (length ms) n are))

nothing_before : (n : ℕ) → 0 + n ≤ n
nothing_before n = omega arith

pub all_there : (groups : List GroupSpec) → AreBelow (length (processes groups)) (start_order groups)
all_there groups = from_below 0 (processes groups) (length (processes groups)) (nothing_before (length (processes groups)))

-- ---- a group

one_within : (a b : ℕ) → 0 + a ≤ a + b
one_within a b = omega arith

more_within : (a b c d : ℕ) → b + c ≤ d → a + b + c ≤ a + d
more_within a b c d are = omega (arith, are)

group_within : (place : ℕ) (groups : List GroupSpec) → first_of place groups + length (members_at place groups) ≤ length (processes groups)
group_within zero [] = omega arith
group_within (suc place) [] = omega arith
group_within zero (g ∷ gs) =
    subst (λ (n : ℕ). 0 + length g.members ≤ n) (sym (length-append g.members (processes gs))) (one_within (length g.members) (length (processes gs)))
group_within (suc place) (g ∷ gs) =
    subst (λ (n : ℕ). first_of (suc place) (g ∷ gs) + length (members_at place gs) ≤ n) (sym (length-append g.members (processes gs)))
    (subst (λ (n : ℕ). n + length (members_at place gs) ≤ length g.members + length (processes gs))
    (sym (length-append g.members (processes (take place gs))))
    (more_within (length g.members) (first_of place gs) (length (members_at place gs)) (length (processes gs)) (group_within place gs)))

pub group_there : (group : ℕ) (groups : List GroupSpec) → AreBelow (length (processes groups)) (members_of_group group groups)
group_there group groups =
    let ids = ids_from (first_of group groups) (members_at group groups) in
    subst (λ (found : List ChildId). AreBelow (length (processes groups)) found) (sym (reverse-reverse ids))
    (from_below (first_of group groups) (members_at group groups) (length (processes groups)) (group_within group groups))

-- ---- a name

abbrev pub IsBelow : ℕ → Found → Type 0
IsBelow n (One id) = id.0 < n
IsBelow n found = Unit {0}

step_below : (n at size : ℕ) → at < n + 1 + size → at < n + suc size
step_below n at size is = omega (arith, is)

here_below : (n at size : ℕ) → n ≡ at → at < n + suc size
here_below n at size is = omega (arith, is)

abbrev number : Option ℕ → ℕ
number None = 0
number (Some m) = m

position_below : {A : Type 0} → (test : A → Bool) (n : ℕ) (xs : List A) (at : ℕ) → position_from test n xs ≡ Some at → at < n + length xs
position_below test n [] at is = absurd cc
position_below test n (x ∷ xs) at is = by_test (test x) is (position_below test (n + 1) xs at) where
  by_test : (b : Bool) → (if b then Some n else position_from test (n + 1) xs) ≡ Some at
      → (position_from test (n + 1) xs ≡ Some at → at < n + 1 + length xs) → at < n + suc (length xs)
  by_test true is rest = here_below n at (length xs) (ap number is)
  by_test false is rest = step_below n at (length xs) (rest is)

sizes_same : {A : Type 0} → (f : GroupSpec → List A) → ((g : GroupSpec) → length (f g) ≡ length g.members) → (groups : List GroupSpec)
    → length (flat_map f groups) ≡ length (processes groups)
sizes_same f same [] = refl
sizes_same f same (g ∷ gs) =
    length-append (f g) (flat_map f gs)
    ∙ ap (λ (n : ℕ). n + length (flat_map f gs)) (same g)
    ∙ ap (λ (n : ℕ). length g.members + n) (sizes_same f same gs)
    ∙ sym (length-append g.members (processes gs))

no_more : (at n : ℕ) → at < 0 + n → at < n
no_more at n is = omega (arith, is)

one_there : (n : ℕ) (place : Option ℕ) → ((at : ℕ) → place ≡ Some at → at < n) → IsBelow n (one_found place)
one_there n None below = tt
one_there n (Some at) below = below at refl

a_group : (n : ℕ) (place : Option ℕ) → IsBelow n (group_found place)
a_group n None = tt
a_group n (Some place) = tt

by_names : (group : List ℕ) (name : Option (List ℕ)) (groups : List GroupSpec) → IsBelow (length (processes groups)) (found_by group name groups)
by_names group None groups = a_group (length (processes groups)) (place_of group groups)
by_names group (Some name) groups =
    one_there (length (processes groups)) (position_from (is_called group name) 0 (names_of groups))
    (λ at is. no_more at (length (processes groups))
    (subst (λ (n : ℕ). at < 0 + n) (sizes_same names_in (λ g. length-map g.members (λ (m : Spec). (g.name, m.name))) groups)
    (position_below (is_called group name) 0 (names_of groups) at is)))

pub found_there : (text : List ℕ) (groups : List GroupSpec) → IsBelow (length (processes groups)) (found text groups)
found_there text groups = by_names (split_of text).0 (split_of text).1 groups

-- ---- its process

lower : (n m : ℕ) → suc n < suc m → n < m
lower n m is = omega (arith, is)

there_is : {A : Type 0} → (xs : List A) (n : ℕ) → n < length xs → is_some (slice_get xs n) ≡ true
there_is [] n is = absurd (omega (arith, is))
there_is (x ∷ xs) zero is = refl
there_is (x ∷ xs) (suc n) is = there_is xs n (lower n (length xs) is)

pub process_there : (groups : List GroupSpec) (place : ℕ) → place < length (processes groups) → is_some (slice_get (pairs_of groups) place) ≡ true
process_there groups place is =
    there_is (pairs_of groups) place
    (subst (λ (n : ℕ). place < n) (sym (sizes_same pairs_in (λ g. length-map g.members (λ (m : Spec). (g, m))) groups)) is)
