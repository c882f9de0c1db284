-- The processes that a method may look at.
use Rattle.std.specs.Prelude.{ℕ, ◌+◌, ℤ, pos, List, [], ◌∷◌, ◌++◌, Bool, true, false, Option, Some}
use Rattle.std.specs.Prelude.{None, codes, reverse}
use Rattle.std.specs.List.{slice_get}
use Rattle.std.specs.Str.{bytes_eq}
use Rattle.sv_base.specs.declared.ids.ChildId.{ChildId}
use Rattle.sv_base.specs.declared.spec.GroupSpec.{GroupSpec}
use Rattle.sv_base.specs.declared.spec.Spec.{Spec}
use Rattle.sv_base.specs.declared.state.State.{State}
use Rattle.sv_base.specs.declared.state.State.TheVariants.{Stopped, Starting, Running, Backoff}
use Rattle.sv_base.specs.declared.state.State.TheVariants.{Stopping, Exited, Fatal, Unknown}
use Rattle.sv_child.specs.declared.child.Child.{Child}
use Rattle.sv_groups.specs.Lookup.{found}
use Rattle.sv_groups.specs.StartOrder.{pairs_of, stop_order}
use Rattle.sv_groups.specs.declared.lookup.Found.{Found}
use Rattle.sv_groups.specs.declared.lookup.Found.TheVariants.{One, Group, Nothing}
use Rattle.sv_info.specs.Info.{info}
use Rattle.sv_xmlcall.specs.Trees.{Tree}

-- the states in which a process runs or is about to
abbrev pub is_running_state : State → Bool
is_running_state Running = true
is_running_state Backoff = true
is_running_state Starting = true
is_running_state state = false

-- the states in which a process can be signalled
abbrev pub is_signalled_state : State → Bool
is_signalled_state Running = true
is_signalled_state Starting = true
is_signalled_state Stopping = true
is_signalled_state state = false

-- the states in which a process hears its stdin
abbrev pub is_heard_state : State → Bool
is_heard_state Running = true
is_heard_state Starting = true
is_heard_state state = false

-- what is said of a process, where there is one
abbrev pub info_of : Option (GroupSpec × Spec) → Option Child → ℕ → List Tree
info_of (Some process) (Some child) now = info process.0.name process.1 child now ∷ []
info_of process child now = []

-- what is said of these children, the first of which has this place in start order
abbrev pub infos_from : List GroupSpec → ℕ → List Child → ℕ → List Tree
infos_from groups place [] now = []
infos_from groups place (child ∷ children) now =
    info_of (slice_get (pairs_of groups) place) (Some child) now
    ++ infos_from groups (place + 1) children now

-- what is said of all processes, in start order
abbrev pub infos : List GroupSpec → List Child → ℕ → List Tree
infos groups children now = infos_from groups 0 children now

-- the group of a name by itself: what is found for it with `:*` after it
abbrev pub group_named : List ℕ → List GroupSpec → Found
group_named name groups = found (name ++ codes ":*") groups

-- the processes of a group in start order
abbrev pub members_of_group : ℕ → List GroupSpec → List ChildId
members_of_group group groups = reverse (stop_order group groups)

-- the known size of a file; 0 where none is known
abbrev pub size_of : List ℕ → List (List ℕ × ℕ) → ℕ
size_of file [] = 0
size_of file (size ∷ sizes) = if_named (bytes_eq size.0 file) size.1 (size_of file sizes)
  where
    if_named : Bool → ℕ → ℕ → ℕ
    if_named true one rest = one
    if_named false one rest = rest
