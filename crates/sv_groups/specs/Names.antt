-- The names by which groups and processes are found, each at its place in start order.
use Rattle.std.specs.Prelude.{◌≡◌, ℕ, List, fold, map}
use Rattle.std.specs.Str.{bytes_eq}
use Rattle.indexmap.specs.IndexSet.{insert_key}
use Rattle.sv_base.specs.declared.spec.GroupSpec.{GroupSpec}
use Rattle.sv_groups.specs.Alike.{same_names}
use Rattle.sv_groups.specs.Lookup.{names_of}
use Rattle.sv_groups.specs.declared.names.Names.{Names}

-- the names of the groups
abbrev pub group_names : List GroupSpec → List (List ℕ)
group_names groups = map (λ (g : GroupSpec). g.name) groups

-- the names with those of these groups, each after all others where it isn't among them
abbrev pub with_names : List (List ℕ) → List GroupSpec → List (List ℕ)
with_names names groups = fold (insert_key bytes_eq) names (group_names groups)

-- so too the names of processes
abbrev pub with_processes : List (List ℕ × List ℕ) → List GroupSpec → List (List ℕ × List ℕ)
with_processes names groups = fold (insert_key same_names) names (names_of groups)

-- the index has the names of these groups and of their processes, and each at its place
abbrev pub Keeps : Names → List GroupSpec → Type 0
Keeps names groups =
    (names.groups.keys ≡ group_names groups) × (names.processes.keys ≡ names_of groups)
