-- In a configuration no two children have one group and one name.
use Rattle.std.proofs.Common.{◌≡◌, ℕ, zero, suc, List, [], ◌∷◌, ◌++◌, map, true, false, Some, refl, sym, ap, ◌∙◌}
use Rattle.std.specs.Prelude.{slice_get}
use Rattle.std.specs.List.{flat_map, list_all, list_any}
use Rattle.std.specs.Str.{bytes_eq}
use Rattle.std.proofs.lemmas.Bool.{and_parts, both_ways, not-true, or_parts}
use Rattle.std.proofs.lemmas.List.{map-append}
use Rattle.std.proofs.lemmas.Option.{same_Some, slice_get-map}
use Rattle.std.specs.Option.{option_map}
use Rattle.std.proofs.lemmas.Slice.Eq.{bytes_eq-Decides}
use Rattle.sv_base.specs.Order.{are_distinct, is_rising}
use Rattle.sv_base.specs.Roster.{are_memberships, is_membership, is_roster}
use Rattle.sv_base.specs.declared.spec.GroupSpec.{GroupSpec}
use Rattle.sv_base.specs.declared.spec.Spec.{Spec}
use Rattle.sv_groups.specs.StartOrder.{pairs_in, pairs_of}

-- a process by the name of its group, whatever it says of its group itself
abbrev pub of_group : List ℕ → Spec → Spec
of_group name spec = record spec { group = name }

abbrev pub own_members : GroupSpec → List Spec
own_members group = map (of_group group.name) group.members

abbrev pub members_of : List GroupSpec → List Spec
members_of groups = flat_map own_members groups

-- none of these has this one's group and name
abbrev pub Unlike : Spec → List Spec → Type 0
Unlike s [] = Unit {0}
Unlike s (t ∷ ts) = (t.group ≡ s.group → t.name ≡ s.name → ⊥) × Unlike s ts

abbrev pub AllUnlike : List Spec → List Spec → Type 0
AllUnlike [] ts = Unit {0}
AllUnlike (s ∷ ss) ts = Unlike s ts × AllUnlike ss ts

abbrev pub Apart : List Spec → Type 0
Apart [] = Unit {0}
Apart (s ∷ ss) = Unlike s ss × Apart ss

unlike_at : (s : Spec) (ts : List Spec) (i : ℕ) (t : Spec) → Unlike s ts → slice_get ts i ≡ Some t → t.group ≡ s.group → t.name ≡ s.name → ⊥
unlike_at s [] i t unlike is group name = cc
unlike_at s (x ∷ xs) zero t unlike is group name =
    let same : x ≡ t = same_Some x t is in
    unlike.0 (ap (λ (y : Spec). y.group) same ∙ group) (ap (λ (y : Spec). y.name) same ∙ name)
unlike_at s (x ∷ xs) (suc i) t unlike is group name = unlike_at s xs i t unlike.1 is group name

pub only_one : (ss : List Spec) → Apart ss → (i j : ℕ) (s t : Spec) → slice_get ss i ≡ Some s → slice_get ss j ≡ Some t
    → t.group ≡ s.group → t.name ≡ s.name → j ≡ i
only_one [] apart i j s t is it group name = cc
only_one (x ∷ xs) apart zero zero s t is it group name = refl
only_one (x ∷ xs) apart zero (suc j) s t is it group name =
    let same : s ≡ x = sym (same_Some x s is) in
    elim (unlike_at x xs j t apart.0 it (group ∙ ap (λ (y : Spec). y.group) same) (name ∙ ap (λ (y : Spec). y.name) same)) [ ]
only_one (x ∷ xs) apart (suc i) zero s t is it group name =
    let same : t ≡ x = sym (same_Some x t it) in
    elim (unlike_at x xs i s apart.0 is (sym group ∙ ap (λ (y : Spec). y.group) same) (sym name ∙ ap (λ (y : Spec). y.name) same)) [ ]
only_one (x ∷ xs) apart (suc i) (suc j) s t is it group name = ap suc (only_one xs apart.1 i j s t is it group name)

unlike_append : (s : Spec) (xs ys : List Spec) → Unlike s xs → Unlike s ys → Unlike s (xs ++ ys)
unlike_append s [] ys left right = right
unlike_append s (x ∷ xs) ys left right = (left.0, unlike_append s xs ys left.1 right)

apart_append : (xs ys : List Spec) → Apart xs → Apart ys → AllUnlike xs ys → Apart (xs ++ ys)
apart_append [] ys left right unlike = right
apart_append (x ∷ xs) ys left right unlike =
    (unlike_append x xs ys left.0 unlike.0, apart_append xs ys left.1 right unlike.1)

-- ---- the members of one group, told by their names

unlike_names : (s : Spec) (ts : List Spec) → list_any (λ (t : Spec). bytes_eq t.name s.name) ts ≡ false → Unlike s ts
unlike_names s [] other = tt
unlike_names s (t ∷ ts) other =
    let parts = or_parts (bytes_eq t.name s.name) (list_any (λ (y : Spec). bytes_eq y.name s.name) ts) other in
    (λ group name. both_ways (bytes_eq t.name s.name) parts.0 ((bytes_eq-Decides t.name s.name).1 name), unlike_names s ts parts.1)

apart_names : (ss : List Spec) → are_distinct (λ (s : Spec). s.name) ss ≡ true → Apart ss
apart_names [] distinct = tt
apart_names (s ∷ ss) distinct =
    let parts = and_parts _ (are_distinct (λ (y : Spec). y.name) ss) distinct in
    (unlike_names s ss (not-true (list_any (λ (y : Spec). bytes_eq y.name s.name) ss) parts.0), apart_names ss parts.1)

-- ---- the members of two groups, told by their groups

unlike_group : (s : Spec) (name : List ℕ) (ts : List Spec) → list_all (λ (t : Spec). bytes_eq t.group name) ts ≡ true
    → (name ≡ s.group → ⊥) → Unlike s ts
unlike_group s name [] own other = tt
unlike_group s name (t ∷ ts) own other =
    let parts = and_parts (bytes_eq t.group name) (list_all (λ (y : Spec). bytes_eq y.group name) ts) own in
    (λ group named. other (sym ((bytes_eq-Decides t.group name).0 parts.0) ∙ group), unlike_group s name ts parts.1 other)

-- ---- a group's children have the group's name, and keep their own

own_name : (name : List ℕ) (ms : List Spec) → list_all (λ (t : Spec). bytes_eq t.group name) (map (of_group name) ms) ≡ true
own_name name [] = refl
own_name name (m ∷ ms) = rw ((bytes_eq-Decides name name).1 refl, own_name name ms) refl

named_as_before : (group name : List ℕ) (ms : List Spec)
    → list_any (λ (t : Spec). bytes_eq t.name name) (map (of_group group) ms) ≡ list_any (λ (t : Spec). bytes_eq t.name name) ms
named_as_before group name [] = refl
named_as_before group name (m ∷ ms) = rw (named_as_before group name ms) refl

distinct_as_before : (group : List ℕ) (ms : List Spec)
    → are_distinct (λ (t : Spec). t.name) (map (of_group group) ms) ≡ are_distinct (λ (t : Spec). t.name) ms
distinct_as_before group [] = refl
distinct_as_before group (m ∷ ms) = rw (named_as_before group m.name ms, distinct_as_before group ms) refl

unlike_groups : (s : Spec) (gs : List GroupSpec)
    → list_any (λ (g : GroupSpec). bytes_eq g.name s.group) gs ≡ false → Unlike s (members_of gs)
unlike_groups s [] other = tt
unlike_groups s (g ∷ gs) other =
    let others = or_parts (bytes_eq g.name s.group) (list_any (λ (h : GroupSpec). bytes_eq h.name s.group) gs) other in
    unlike_append s (own_members g) (members_of gs)
    (unlike_group s g.name (own_members g) (own_name g.name g.members) (λ same. both_ways (bytes_eq g.name s.group) others.0 ((bytes_eq-Decides g.name s.group).1 same)))
    (unlike_groups s gs others.1)

all_unlike : (ss : List Spec) (name : List ℕ) (gs : List GroupSpec) → list_all (λ (s : Spec). bytes_eq s.group name) ss ≡ true
    → list_any (λ (g : GroupSpec). bytes_eq g.name name) gs ≡ false → AllUnlike ss (members_of gs)
all_unlike [] name gs mine other = tt
all_unlike (s ∷ ss) name gs mine other =
    let parts = and_parts (bytes_eq s.group name) (list_all (λ (y : Spec). bytes_eq y.group name) ss) mine in
    let same : s.group ≡ name = (bytes_eq-Decides s.group name).0 parts.0 in
    (unlike_groups s gs (ap (λ n. list_any (λ (g : GroupSpec). bytes_eq g.name n) gs) same ∙ other), all_unlike ss name gs parts.1 other)

apart_groups : (gs : List GroupSpec) → are_distinct (λ (g : GroupSpec). g.name) gs ≡ true → are_memberships gs ≡ true → Apart (members_of gs)
apart_groups [] distinct members = tt
apart_groups (g ∷ gs) distinct members =
    let distincts = and_parts _ (are_distinct (λ (h : GroupSpec). h.name) gs) distinct in
    let each = and_parts (is_membership g.members) (are_memberships gs) members in
    let names = and_parts (is_rising (λ (m : Spec). m.priority) (λ (m : Spec). m.name) g.members) (are_distinct (λ (m : Spec). m.name) g.members) each.0 in
    apart_append (own_members g) (members_of gs) (apart_names (own_members g) (distinct_as_before g.name g.members ∙ names.1))
    (apart_groups gs distincts.1 each.1)
    (all_unlike (own_members g) g.name gs (own_name g.name g.members) (not-true (list_any (λ (h : GroupSpec). bytes_eq h.name g.name) gs) distincts.0))

-- ---- the pairs of a roster

abbrev pub named : (GroupSpec × Spec) → Spec
named p = of_group p.0.name p.1

named_in : (g : GroupSpec) (ms : List Spec) → map named (map {B = GroupSpec × Spec} (λ (m : Spec). (g, m)) ms) ≡ map (of_group g.name) ms
named_in g [] = refl
named_in g (m ∷ ms) = ap (λ (ss : List Spec). of_group g.name m ∷ ss) (named_in g ms)

named_of : (gs : List GroupSpec) → map named (pairs_of gs) ≡ members_of gs
named_of [] = refl
named_of (g ∷ gs) =
    map-append named (pairs_in g) (pairs_of gs)
    ∙ ap (λ (ss : List Spec). ss ++ map named (pairs_of gs)) (named_in g g.members)
    ∙ ap (λ (ss : List Spec). own_members g ++ ss) (named_of gs)

named_at : (gs : List GroupSpec) (i : ℕ) (p : GroupSpec × Spec) → slice_get (pairs_of gs) i ≡ Some p → slice_get (members_of gs) i ≡ Some (named p)
named_at gs i p is =
    ap (λ (ss : List Spec). slice_get ss i) (sym (named_of gs)) ∙ slice_get-map named (pairs_of gs) i ∙ ap (option_map named) is

-- two processes of a roster with the same names of their groups and of themselves are one
pub only_in_roster : (groups : List GroupSpec) (i j : ℕ) (p q : GroupSpec × Spec) → is_roster groups ≡ true
    → slice_get (pairs_of groups) i ≡ Some p → slice_get (pairs_of groups) j ≡ Some q
    → q.0.name ≡ p.0.name → q.1.name ≡ p.1.name → j ≡ i
only_in_roster groups i j p q roster is it group name =
    let members = and_parts _ (are_memberships groups) roster in
    let distinct = and_parts _ (are_distinct (λ (g : GroupSpec). g.name) groups) members.0 in
    let apart = apart_groups groups distinct.1 members.1 in
    only_one (members_of groups) apart i j (named p) (named q) (named_at groups i p is) (named_at groups j q it) group name
