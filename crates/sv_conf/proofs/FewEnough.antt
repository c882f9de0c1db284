-- Groups whose names stand once are a roster where they are few enough.
use Rattle.std.proofs.Common.{◌≡◌, ◌↔◌, ◌<◌, ◌-◌, ℕ, ◌+◌, List, [], ◌∷◌, ◌++◌, map, length, Bool, true, false, ◌&&◌, ◌⊎◌, inl, inr, refl, arith}
use Rattle.std.proofs.lemmas.Bool.Decides.{nat_tests}
use Rattle.std.specs.Prelude.{Option, Some, None, Result, Ok, Err, nat_le, if◌then◌else◌}
use Rattle.sv_base.specs.Order.{is_rising, are_distinct}
use Rattle.sv_base.specs.Roster.{is_membership, are_memberships, fit_within, is_roster}
use Rattle.sv_base.specs.declared.spec.GroupSpec.{GroupSpec}
use Rattle.sv_base.specs.declared.spec.Spec.{Spec}
use Rattle.sv_conf.specs.Configuration.{twice_in, or_twice, each_once, ◌>>=◌, sorted_members, with_sorted, sorted_groups, with_groups, config_of, of_groups}
use Rattle.sv_conf.specs.Duplicates.{twice_at, first_twice}
use Rattle.sv_conf.specs.Limits.{processes, AreTooMany}
use Rattle.sv_ranks.proofs.Placing.{and_true, has_name, length_total, total}
use Rattle.sv_ranks.proofs.Sorting.{all_sorted, are_new, new_map, sorted_is_good, total_sorted}
use Rattle.sv_ranks.specs.Ranks.{sorted_from}
use Rattle.sv_sections.specs.ServerSections.{or_else}
use Rattle.sv_sections.specs.declared.fault.ConfFault.{ConfFault}
use Rattle.sv_sections.specs.declared.fault.ConfFault.TheVariants.{TooMany}
use Rattle.sv_sections.specs.declared.server.Others.{Others}
use Rattle.sv_base.specs.declared.config.Config.{Config}

abbrev group_name : GroupSpec → List ℕ
group_name g = g.name

abbrev group_size : GroupSpec → ℕ
group_size g = length g.members

none_first : (named : Bool) (text : List ℕ) (rest : Option (List ℕ)) → or_else (if named then Some text else None) rest ≡ None → (named ≡ false) × (rest ≡ None)
none_first true text rest e = cc
none_first false text rest e = (refl, e)

-- members of which none has a name twice have new names
once_is_new : (before members : List Spec) → first_twice before members ≡ None → are_new (λ (m : Spec). m.name) before members ≡ true
unfolding twice_at
once_is_new before [] e = refl
once_is_new before (m ∷ members) e =
    let parts = none_first (has_name (λ (m : Spec). m.name) m.name before) m.name (first_twice (before ++ m ∷ []) members) e in
    let rest = once_is_new (before ++ m ∷ []) members parts.1 in
    rw (parts.0, rest) refl

membership_sorted : (members : List Spec) → first_twice [] members ≡ None → is_membership (sorted_members members) ≡ true
membership_sorted members e =
    let good = sorted_is_good (λ (m : Spec). m.priority) (λ (m : Spec). m.name) [] [] members (λ text. refl) refl refl (once_is_new [] members e) in
    and_true (is_rising (λ (m : Spec). m.priority) (λ (m : Spec). m.name) (sorted_members members)) (are_distinct (λ (m : Spec). m.name) (sorted_members members)) good.0 good.1

once_by : (named : Bool) (text : List ℕ) (inner : Option (List ℕ)) (rest : Result Bool ConfFault)
    → (or_twice (if named then Some text else inner) >>= (λ good. rest)) ≡ Ok true → (named ≡ false) × (inner ≡ None) × (rest ≡ Ok true)
once_by true text inner rest e = cc
once_by false text (Some name) rest e = cc
once_by false text None rest e = (refl, refl, e)

-- where each name stands once, each group has a new name, and its sorted members are as they should be
groups_new : (before groups : List GroupSpec) → each_once before groups ≡ Ok true
    → (are_new group_name before groups ≡ true) × (are_memberships (map with_sorted groups) ≡ true)
unfolding twice_in with_sorted
groups_new before [] e = (refl, refl)
groups_new before (g ∷ groups) e =
    let parts = once_by (has_name group_name g.name before) g.name (first_twice [] g.members) (each_once (before ++ g ∷ []) groups) e in
    let rest = groups_new (before ++ g ∷ []) groups parts.2 in
    let members = membership_sorted g.members parts.1 in
    (rw (parts.0, rest.0) refl, and_true (is_membership (sorted_members g.members)) (are_memberships (map with_sorted groups)) members rest.1)

length_sorted_members : (members : List Spec) → length (sorted_members members) ≡ length members
length_sorted_members members =
    let sum = total_sorted (λ (m : Spec). m.priority) (λ (m : Spec). m.name) (λ (m : Spec). 1) [] members in
    omega (arith, sum, length_total members, length_total (sorted_members members))

sizes_stay : (groups : List GroupSpec) → total group_size (map with_sorted groups) ≡ processes groups
unfolding with_sorted
sizes_stay [] = refl
sizes_stay (g ∷ groups) = omega (arith, length_sorted_members g.members, sizes_stay groups)

count_stays : (groups : List GroupSpec) → total (λ (g : GroupSpec). 1) (map with_sorted groups) ≡ length groups
count_stays [] = refl
count_stays (g ∷ groups) = omega (arith, count_stays groups)

names_stay : (g : GroupSpec) → group_name (with_sorted g) ≡ group_name g
unfolding with_sorted
names_stay g = refl

one_room : (size others room : ℕ) → (nat_le size room && nat_le others (room - size)) ≡ nat_le (size + others) room
one_room size others room = grind (arith, nat_tests)

within : (room : ℕ) (groups : List GroupSpec) → fit_within room groups ≡ nat_le (total group_size groups) room
within room [] = grind (arith, nat_tests)
within room (g ∷ groups) = rw (within (room - length g.members) groups) (one_room (length g.members) (total group_size groups) room)

both_alone : (a b : Bool) → (a && b && true && true && true) ≡ (a && b)
both_alone true true = refl
both_alone true false = refl
both_alone false true = refl
both_alone false false = refl

roster_where_few : (groups : List GroupSpec) → each_once [] groups ≡ Ok true
    → is_roster (sorted_groups groups) ≡ (nat_le (length groups) 256 && nat_le (processes groups) 1024)
unfolding sorted_groups
roster_where_few groups once =
    let new = groups_new [] groups once in
    let made = map with_sorted groups in
    let good = sorted_is_good (λ (g : GroupSpec). g.priority) group_name [] [] made (λ text. refl) refl refl (new_map group_name with_sorted names_stay [] groups new.0) in
    let members = all_sorted (λ (g : GroupSpec). g.priority) group_name (λ (g : GroupSpec). is_membership g.members) [] made refl new.1 in
    let sorted = sorted_from (λ (g : GroupSpec). g.priority) group_name [] made in
    let count = total_sorted (λ (g : GroupSpec). g.priority) group_name (λ (g : GroupSpec). 1) [] made in
    let sizes = total_sorted (λ (g : GroupSpec). g.priority) group_name group_size [] made in
    let many : length sorted ≡ length groups = omega (arith, count, count_stays groups, length_total sorted) in
    let all : total group_size sorted ≡ processes groups = omega (arith, sizes, sizes_stay groups) in
    rw (good.0, good.1, members, many, within 1024 sorted, all) (both_alone (nat_le (length groups) 256) (nat_le (processes groups) 1024))

abbrev of_few : Bool → Config → Result Config ConfFault
of_few few config = if few then Ok config else Err TooMany

past : (number most : ℕ) → nat_le number most ≡ false → most < number
past number most e = grind (arith, nat_tests)

not_past : (number most : ℕ) → nat_le number most ≡ true → most < number → true ≡ false
not_past number most e more = grind (arith, nat_tests)

by_limits : (count sizes : ℕ) (few fit : Bool) (config : Config) → nat_le count 256 ≡ few → nat_le sizes 1024 ≡ fit
    → (of_few (few && fit) config ≡ Err TooMany) ↔ ((256 < count) ⊎ (1024 < sizes))
by_limits count sizes true true config e f =
    (λ h. cc, λ many. elim many [ inl more ↦ let no = not_past count 256 e more in cc | inr more ↦ let no = not_past sizes 1024 f more in cc ])
by_limits count sizes true false config e f = (λ h. inr (past sizes 1024 f), λ many. refl)
by_limits count sizes false fit config e f = (λ h. inl (past count 256 e), λ many. refl)

pub too_many_past_the_limits : (others : Others) (rpc : Bool) (groups : List GroupSpec) → each_once [] groups ≡ Ok true
    → (of_groups others rpc groups ≡ Err TooMany) ↔ AreTooMany groups
unfolding of_groups config_of
too_many_past_the_limits others rpc groups once =
    rw (once, roster_where_few groups once)
    (by_limits (length groups) (processes groups) (nat_le (length groups) 256) (nat_le (processes groups) 1024) (with_groups others rpc (sorted_groups groups)) refl refl)
