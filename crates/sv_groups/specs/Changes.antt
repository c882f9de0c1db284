-- Groups that come and go.
use Rattle.std.specs.Prelude.{◌≡◌, ℕ, List, Option, Some, None, Result, Ok, Err}
use Rattle.std.specs.Prelude.{Bool, true, false, not, length, take, drop}
use Rattle.std.specs.List.{list_any, position_from, remove, slice_get}
use Rattle.std.specs.Option.{MatchOption}
use Rattle.std.specs.Result.{result_ok}
use Rattle.std.specs.Str.{bytes_eq}
use Rattle.sv_base.specs.declared.spec.GroupSpec.{GroupSpec}
use Rattle.sv_child.specs.Moves.{is_at_rest}
use Rattle.sv_child.specs.declared.child.Child.{Child}
use Rattle.sv_groups.specs.Lookup.{place_of}
use Rattle.sv_groups.specs.StartOrder.{first_of, members_at}
use Rattle.sv_groups.specs.declared.fault.GroupFault.{GroupFault}
use Rattle.sv_groups.specs.declared.fault.GroupFault.TheVariants.{Unknown, StillRunning, Already}
use Rattle.sv_groups.specs.declared.fault.GroupFault.TheVariants.{OutOfMemory}
use Rattle.sv_ranks.specs.Ranks.{placed}

-- the numbers of the faults; out of memory has none
abbrev pub fault_number : GroupFault → Option ℕ
fault_number Unknown = Some 1
fault_number (StillRunning child) = Some 2
fault_number Already = Some 3
fault_number OutOfMemory = None

-- one of these groups has this name
abbrev pub stands : List ℕ → List GroupSpec → Bool
stands name groups = list_any (λ (g : GroupSpec). bytes_eq g.name name) groups

-- the groups with one more, after all that start before it
abbrev pub with_group : GroupSpec → List GroupSpec → List GroupSpec
with_group group groups =
    placed (λ (g : GroupSpec). g.priority) (λ (g : GroupSpec). g.name) groups group

-- adding a group: exactly where its name stands already it is refused, and a refusal changes
-- nothing
abbrev pub Adds : List GroupSpec → GroupSpec → List GroupSpec → Result (Unit {0}) GroupFault
    → Type 0
Adds old group new (Ok _) = (stands group.name old ≡ false) × (new ≡ with_group group old)
Adds old group new (Err Already) = (stands group.name old ≡ true) × (new ≡ old)
Adds old group new (Err OutOfMemory) = (stands group.name old ≡ false) × (new ≡ old)
Adds old group new (Err fault) = ⊥

-- the children of the group at this place, of all children in start order
abbrev pub children_at : ℕ → List GroupSpec → List Child → List Child
children_at place groups children =
    take (length (members_at place groups)) (drop (first_of place groups) children)

-- the first child of the group at this place that isn't at rest
abbrev pub still_running : ℕ → List GroupSpec → List Child → Option ℕ
still_running place groups children =
    position_from (λ (c : Child). not (is_at_rest c.state)) (first_of place groups)
    (children_at place groups children)

-- removing a group: it is refused exactly where no group has the name or a child of it isn't at
-- rest
abbrev pub Removes : List GroupSpec → List ℕ → List Child → List GroupSpec
    → Result GroupSpec GroupFault → Type 0
Removes old name children new result =
    MatchOption (place_of name old) ((result ≡ Err Unknown) × (new ≡ old)) (λ place.
    MatchOption (still_running place old children)
    ((slice_get old place ≡ result_ok result) × (new ≡ remove old place))
    (λ child. (result ≡ Err (StillRunning (record { 0 = child }))) × (new ≡ old)))
