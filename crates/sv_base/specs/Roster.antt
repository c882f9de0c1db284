-- What each configuration keeps by its type: few enough groups and processes, each in its place, no
-- name twice.
use Rattle.std.specs.Prelude.{ℕ, List, [], ◌∷◌, Bool, true, ◌&&◌, nat_le, length, ◌-◌}
use Rattle.std.specs.List.{list_all}
use Rattle.sv_base.specs.Limits.{group_limit, process_limit}
use Rattle.sv_base.specs.Order.{is_rising, are_distinct}
use Rattle.sv_base.specs.declared.spec.Spec.{Spec}
use Rattle.sv_base.specs.declared.spec.GroupSpec.{GroupSpec}

-- the members of one group stand in start order, and no two have one name
abbrev pub is_membership : List Spec → Bool
is_membership members =
    is_rising (λ (m : Spec). m.priority) (λ (m : Spec). m.name) members
    && are_distinct (λ (m : Spec). m.name) members

-- so in each of these groups
abbrev pub are_memberships : List GroupSpec → Bool
are_memberships groups = list_all (λ (g : GroupSpec). is_membership g.members) groups

-- the groups have together at most this many members
abbrev pub fit_within : ℕ → List GroupSpec → Bool
fit_within room [] = true
fit_within room (g ∷ gs) = nat_le (length g.members) room && fit_within (room - length g.members) gs

-- at most 256 groups of at most 1,024 processes, in start order, each name once
abbrev pub is_roster : List GroupSpec → Bool
is_roster groups =
    nat_le (length groups) group_limit
    && fit_within process_limit groups
    && is_rising (λ (g : GroupSpec). g.priority) (λ (g : GroupSpec). g.name) groups
    && are_distinct (λ (g : GroupSpec). g.name) groups
    && are_memberships groups
