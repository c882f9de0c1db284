-- What a name of a command finds: the first process or group in start order that it names.
use Rattle.std.specs.Prelude.{ℕ, List, Option, Some, None, Bool, ◌&&◌, map}
use Rattle.std.specs.List.{flat_map, position, position_from}
use Rattle.std.specs.Str.{bytes_eq}
use Rattle.sv_base.specs.SplitName.{split_of}
use Rattle.sv_base.specs.declared.spec.GroupSpec.{GroupSpec}
use Rattle.sv_base.specs.declared.spec.Spec.{Spec}
use Rattle.sv_groups.specs.declared.lookup.Found.{Found}
use Rattle.sv_groups.specs.declared.lookup.Found.TheVariants.{One, Group, Nothing}

-- the two names of each process of a group: the group's and its own
abbrev pub names_in : GroupSpec → List (List ℕ × List ℕ)
names_in g = map (λ (m : Spec). (g.name, m.name)) g.members

-- the two names of each process, in start order
abbrev pub names_of : List GroupSpec → List (List ℕ × List ℕ)
names_of groups = flat_map names_in groups

-- these are the two names: the group's, and the process's own
abbrev pub is_called : List ℕ → List ℕ → (List ℕ × List ℕ) → Bool
is_called group name names = bytes_eq names.0 group && bytes_eq names.1 name

-- the place of the group of this name
abbrev pub place_of : List ℕ → List GroupSpec → Option ℕ
place_of name groups = position (λ (g : GroupSpec). bytes_eq g.name name) groups

-- the process of this place in start order, where there is one
abbrev pub one_found : Option ℕ → Found
one_found None = Nothing
one_found (Some place) = One (record { 0 = place })

-- the group of this place among the groups, where there is one
abbrev pub group_found : Option ℕ → Found
group_found None = Nothing
group_found (Some place) = Group place

-- without a process's name the group is meant
abbrev pub found_by : List ℕ → Option (List ℕ) → List GroupSpec → Found
found_by group None groups = group_found (place_of group groups)
found_by group (Some name) groups =
    one_found (position_from (is_called group name) 0 (names_of groups))

-- what a name of a command finds: a process, a group or nothing
abbrev pub found : List ℕ → List GroupSpec → Found
found text groups = found_by (split_of text).0 (split_of text).1 groups
