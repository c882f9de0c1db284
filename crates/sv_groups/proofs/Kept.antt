-- A roster stays one when a group comes or goes.
use Rattle.std.proofs.Common.{◌≡◌, ◌+◌, ◌-◌, ◌≤◌, ◌∷◌, [], ap, ◌∙◌, arith, List, ℕ, Bool, true, false, length, refl, zero, suc}
use Rattle.std.specs.Prelude.{◌||◌, not}
use Rattle.std.specs.List.{insert, list_any, prefix_len, remove}
use Rattle.std.specs.Ordering.{is_lt}
use Rattle.std.specs.Str.{bytes_eq}
use Rattle.std.specs.declared.cmp.Ordering.{Ordering}
use Rattle.std.specs.declared.cmp.Ordering.TheVariants.{Less, Equal, Greater}
use Rattle.std.specs.Cmp.Derive.{both_true}
use Rattle.std.proofs.lemmas.Bool.{le-leb, leb-true}
use Rattle.std.proofs.lemmas.List.{length-append}
use Rattle.sv_base.specs.Order as order
use Rattle.sv_base.specs.Roster.{are_memberships, fit_within, is_membership, is_roster}
use Rattle.sv_base.specs.declared.spec.GroupSpec.{GroupSpec}
use Rattle.sv_groups.proofs.Processes.{both, roster_fits}
use Rattle.sv_groups.specs.Changes.{stands, with_group}
use Rattle.sv_groups.specs.StartOrder.{processes}
use Rattle.sv_ranks.specs.Ranks.{placed}
use Rattle.sv_ranks.proofs.Placing.{all_placed, distinct_placed, length_placed, order_total, rising_placed, total, total_placed}

-- the code's place for a group is the definition's
pub with_at : (group : GroupSpec) (groups shown : List GroupSpec) (place : ℕ) → place ≡ prefix_len (λ (g : GroupSpec). is_lt (order.start_order (λ (h : GroupSpec). h.priority) (λ (h : GroupSpec). h.name) g group)) shown → shown ≡ groups → insert groups place group ≡ with_group group groups
unfolding placed
with_at group groups shown place is same =
    ap (λ (n : ℕ). insert groups n group) (is ∙ ap (λ (gs : List GroupSpec). prefix_len (λ (g : GroupSpec). is_lt (order.start_order (λ (h : GroupSpec). h.priority) (λ (h : GroupSpec). h.name) g group)) gs) same)

-- the start order of groups
abbrev pub cmp : GroupSpec → GroupSpec → Ordering
cmp x y = order.start_order (λ (g : GroupSpec). g.priority) (λ (g : GroupSpec). g.name) x y

abbrev pub is_up : List GroupSpec → Bool
is_up groups = order.is_rising (λ (g : GroupSpec). g.priority) (λ (g : GroupSpec). g.name) groups

abbrev pub is_first : GroupSpec → List GroupSpec → Bool
is_first g groups = order.is_before (λ (g : GroupSpec). g.priority) (λ (g : GroupSpec). g.name) g groups

abbrev pub are_single : List GroupSpec → Bool
are_single groups = order.are_distinct (λ (g : GroupSpec). g.name) groups

pub less : (o : Ordering) → is_lt o ≡ true → o ≡ Less
less Less e = refl
less Equal e = cc
less Greater e = cc

pub neither : (a b : Bool) → (a || b) ≡ false → (a ≡ false) × (b ≡ false)
neither true b e = cc
neither false b e = (refl, e)

pub none_of : (a b : Bool) → a ≡ false → b ≡ false → (a || b) ≡ false
none_of true b e f = cc
none_of false b e f = f

pub not_true : (b : Bool) → not b ≡ true → b ≡ false
not_true true e = cc
not_true false e = refl

pub chain : (x y z : GroupSpec) → is_lt (cmp x y) ≡ true → is_lt (cmp y z) ≡ true → is_lt (cmp x z) ≡ true
chain x y z a b = ap is_lt ((order_total (λ (g : GroupSpec). g.priority) (λ (g : GroupSpec). g.name)).trans x y z (less (cmp x y) a) (less (cmp y z) b))

-- the order is kept by one less
pub first_without : (place : ℕ) (x : GroupSpec) (xs : List GroupSpec) → is_first x xs ≡ true → is_up xs ≡ true → is_first x (remove xs place) ≡ true
first_without zero x [] f u = refl
first_without (suc place) x [] f u = refl
first_without zero x (y ∷ []) f u = refl
first_without zero x (y ∷ (z ∷ zs)) f u = chain x y z f (both _ _ u).0
first_without (suc place) x (y ∷ ys) f u = f

pub up_without : (place : ℕ) (xs : List GroupSpec) → is_up xs ≡ true → is_up (remove xs place) ≡ true
up_without zero [] u = refl
up_without (suc place) [] u = refl
up_without zero (x ∷ xs) u = (both _ _ u).1
up_without (suc place) (x ∷ xs) u = both_true (first_without place x xs (both _ _ u).0 (both _ _ u).1) (up_without place xs (both _ _ u).1)

-- what none has, none has with one less
pub any_without : (test : GroupSpec → Bool) (place : ℕ) (xs : List GroupSpec) → list_any test xs ≡ false → list_any test (remove xs place) ≡ false
any_without test zero [] n = refl
any_without test (suc place) [] n = refl
any_without test zero (x ∷ xs) n = (neither _ _ n).1
any_without test (suc place) (x ∷ xs) n = none_of _ _ (neither _ _ n).0 (any_without test place xs (neither _ _ n).1)

-- names stay distinct
pub single_without : (place : ℕ) (xs : List GroupSpec) → are_single xs ≡ true → are_single (remove xs place) ≡ true
single_without zero [] s = refl
single_without (suc place) [] s = refl
single_without zero (x ∷ xs) s = (both _ _ s).1
single_without (suc place) (x ∷ xs) s =
    both_true (ap not (any_without (λ (y : GroupSpec). bytes_eq y.name x.name) place xs (not_true _ (both _ _ s).0))) (single_without place xs (both _ _ s).1)

-- what holds of all groups
abbrev pub is_good : GroupSpec → Bool
is_good g = is_membership g.members

pub good_without : (place : ℕ) (xs : List GroupSpec) → are_memberships xs ≡ true → are_memberships (remove xs place) ≡ true
good_without zero [] m = refl
good_without (suc place) [] m = refl
good_without zero (x ∷ xs) m = (both _ _ m).1
good_without (suc place) (x ∷ xs) m = both_true (both _ _ m).0 (good_without place xs (both _ _ m).1)

-- how many there are
sizes_are : (groups : List GroupSpec) → total (λ (g : GroupSpec). length g.members) groups ≡ length (processes groups)
sizes_are [] = refl
sizes_are (g ∷ gs) = omega (arith, sizes_are gs, length-append g.members (processes gs))

pub size_with : (group : GroupSpec) (groups : List GroupSpec) → (length (with_group group groups) ≡ length groups + 1) × (length (processes (with_group group groups)) ≡ length (processes groups) + length group.members)
size_with group groups = (
  length_placed (λ (g : GroupSpec). g.priority) (λ (g : GroupSpec). g.name) groups group,
  omega (
    arith,
    total_placed (λ (g : GroupSpec). g.priority) (λ (g : GroupSpec). g.name) (λ (g : GroupSpec). length g.members) groups group,
    sizes_are groups,
    sizes_are (with_group group groups),
  ),
)

pub size_without : (place : ℕ) (xs : List GroupSpec) → (length (remove xs place) ≤ length xs) × (length (processes (remove xs place)) ≤ length (processes xs))
size_without zero [] = (omega arith, omega arith)
size_without (suc place) [] = (omega arith, omega arith)
size_without zero (x ∷ xs) = (omega arith, omega (arith, length-append x.members (processes xs)))
size_without (suc place) (x ∷ xs) =
    let rest : (length (remove xs place) ≤ length xs) × (length (processes (remove xs place)) ≤ length (processes xs)) = size_without place xs in
    (omega arith, omega (arith, length-append x.members (processes (remove xs place)), length-append x.members (processes xs)))

pub fit_from : (room : ℕ) (groups : List GroupSpec) → length (processes groups) ≤ room → fit_within room groups ≡ true
fit_from room [] h = refl
fit_from room (g ∷ gs) h =
    let here : length g.members ≤ room = omega (arith, length-append g.members (processes gs)) in
    let rest : length (processes gs) ≤ room - length g.members = omega (arith, length-append g.members (processes gs)) in
    both_true (le-leb (length g.members) room here) (fit_from (room - length g.members) gs rest)

pub roster_of : (groups : List GroupSpec) → length groups ≤ 256 → length (processes groups) ≤ 1024 → is_up groups ≡ true → are_single groups ≡ true → are_memberships groups ≡ true → is_roster groups ≡ true
roster_of groups l p u s m = both_true (both_true (both_true (both_true (le-leb (length groups) 256 l) (fit_from 1024 groups p)) u) s) m

-- a roster with one group more
pub roster_with : (group : GroupSpec) (groups : List GroupSpec) → is_roster groups ≡ true → is_membership group.members ≡ true → length groups + 1 ≤ 256 → length (processes groups) + length group.members ≤ 1024 → stands group.name groups ≡ false → is_roster (with_group group groups) ≡ true
roster_with group groups r g l p n =
    let size : (length (with_group group groups) ≡ length groups + 1) × (length (processes (with_group group groups)) ≡ length (processes groups) + length group.members) = size_with group groups in
    let few : length (with_group group groups) ≤ 256 = omega arith in
    let fit : length (processes (with_group group groups)) ≤ 1024 = omega arith in
    let up = rising_placed (λ (g : GroupSpec). g.priority) (λ (g : GroupSpec). g.name) groups group (both _ _ (both _ _ (both _ _ r).0).0).1 n in
    let single = distinct_placed (λ (g : GroupSpec). g.priority) (λ (g : GroupSpec). g.name) groups group (both _ _ (both _ _ r).0).1 n in
    let good = all_placed (λ (g : GroupSpec). g.priority) (λ (g : GroupSpec). g.name) is_good groups group (both _ _ r).1 g in
    roster_of (with_group group groups) few fit up single good

-- a roster with one group less
pub roster_without : (place : ℕ) (groups : List GroupSpec) → is_roster groups ≡ true → is_roster (remove groups place) ≡ true
roster_without place groups r =
    let size : (length (remove groups place) ≤ length groups) × (length (processes (remove groups place)) ≤ length (processes groups)) = size_without place groups in
    let few : length groups ≤ 256 = leb-true _ _ (both _ _ (both _ _ (both _ _ (both _ _ r).0).0).0).0 in
    let fitting : length (processes groups) ≤ 1024 = roster_fits groups r in
    roster_of (remove groups place) (omega arith) (omega arith) (up_without place groups (both _ _ (both _ _ (both _ _ r).0).0).1) (single_without place groups (both _ _ (both _ _ r).0).1) (good_without place groups (both _ _ r).1)
