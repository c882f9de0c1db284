-- The children of the daemon in start order, with the roster that names them.
use Rattle.std.specs.Prelude.{ℕ, List, Option, Some, None, length, replicate, slice_get}
use Rattle.sv_base.specs.declared.spec.GroupSpec.{GroupSpec}
use Rattle.sv_base.specs.declared.spec.Spec.{Spec}
use Rattle.sv_child.specs.Moves.{new_child}
use Rattle.sv_child.specs.declared.child.Child.{Child}
use Rattle.sv_groups.specs.StartOrder.{pairs_of, processes}

-- the groups in start order, and the children of all their processes
pub record Crew : Type 0 where
  pub roster : List GroupSpec
  pub all : List Child

-- none was ever started
abbrev pub new_crew : List GroupSpec → Crew
new_crew roster = record { roster = roster; all = replicate (length (processes roster)) new_child }

-- a child as the roster has it: its group, what the configuration says of it, and how it is
pub record Member : Type 0 where
  pub group : GroupSpec
  pub spec : Spec
  pub child : Child

-- a process of a group, with its child if it is there
abbrev pub with_child : GroupSpec × Spec → Option Child → Option Member
with_child pair None = None
with_child pair (Some child) = Some (record { group = pair.0; spec = pair.1; child = child })

-- a process that is there, with its child
abbrev pub member_of : Option (GroupSpec × Spec) → Option Child → Option Member
member_of None child = None
member_of (Some pair) child = with_child pair child

-- the child of this place of the start order, if there is one
abbrev pub member_at : Crew → ℕ → Option Member
member_at crew place = member_of (slice_get (pairs_of crew.roster) place) (slice_get crew.all place)
