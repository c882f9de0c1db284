-- The order in which processes start and stop (the manual's chapter on configuration, `priority`).
use Rattle.std.specs.Prelude.{ℕ, List, [], ◌∷◌, ◌+◌, ◌-◌, length, map, take, drop, reverse}
use Rattle.std.specs.List.{flat_map}
use Rattle.sv_base.specs.declared.ids.ChildId.{ChildId}
use Rattle.sv_base.specs.declared.spec.GroupSpec.{GroupSpec}
use Rattle.sv_base.specs.declared.spec.Spec.{Spec}
use Rattle.sv_groups.specs.declared.order.Span.{Span}

-- all processes in start order: the list of groups joined
abbrev pub processes : List GroupSpec → List Spec
processes groups = flat_map (λ (g : GroupSpec). g.members) groups

-- the processes of a group, each with the group
abbrev pub pairs_in : GroupSpec → List (GroupSpec × Spec)
pairs_in g = map (λ (m : Spec). (g, m)) g.members

-- all processes in start order, each with its group
abbrev pub pairs_of : List GroupSpec → List (GroupSpec × Spec)
pairs_of groups = flat_map pairs_in groups

-- the ids of these processes, which count up from the first one's
abbrev pub ids_from : ℕ → List Spec → List ChildId
ids_from first [] = []
ids_from first (m ∷ ms) = record { 0 = first } ∷ ids_from (first + 1) ms

-- everything starts in this order
abbrev pub start_order : List GroupSpec → List ChildId
start_order groups = ids_from 0 (processes groups)

-- how many processes stand before the group at this place
abbrev pub first_of : ℕ → List GroupSpec → ℕ
first_of place groups = length (processes (take place groups))

-- the processes of the first of these groups
abbrev pub first_members : List GroupSpec → List Spec
first_members [] = []
first_members (g ∷ gs) = g.members

-- the processes of the group at this place
abbrev pub members_at : ℕ → List GroupSpec → List Spec
members_at place groups = first_members (drop place groups)

-- where the processes of the group at this place are
abbrev pub span_of : ℕ → List GroupSpec → Span
span_of place groups = record {
  from = first_of place groups;
  to = first_of place groups + length (members_at place groups);
}

-- a group stops in the reverse of the order in which it starts
abbrev pub stop_order : ℕ → List GroupSpec → List ChildId
stop_order place groups = reverse (ids_from (first_of place groups) (members_at place groups))

-- of so many groups that are left of the start order, the place of the one that is stopped next:
-- the last
abbrev pub next_to_stop : ℕ → ℕ
next_to_stop left = left - 1
