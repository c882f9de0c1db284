-- Which children have woken, so that time may do something to them.
use Rattle.std.specs.Prelude.{◌≡◌, ◌≤◌, ◌<◌, ℕ, List, [], ◌∷◌, Option, Some, None, Bool, true}
use Rattle.std.specs.Prelude.{false, length}
use Rattle.sv_base.specs.declared.ids.ChildId.{ChildId}
use Rattle.sv_base.specs.declared.spec.GroupSpec.{GroupSpec}
use Rattle.sv_base.specs.declared.spec.Spec.{Spec}
use Rattle.sv_children.specs.Wake.{is_awake, wake_moment}
use Rattle.sv_child.specs.declared.child.Child.{Child}
use Rattle.sv_children.specs.Crew.{Crew, Member, member_at}

-- the moments at which these children wake, where they wait for time; one without a process never
-- does
abbrev pub wakes_of : List (GroupSpec × Spec) → List Child → List (Option ℕ)
wakes_of pairs [] = []
wakes_of [] (child ∷ children) = None ∷ wakes_of [] children
wakes_of (pair ∷ pairs) (child ∷ children) = wake_moment pair.1 child ∷ wakes_of pairs children

-- a child as the roster has it has woken
abbrev pub is_member_awake : Option Member → ℕ → Bool
is_member_awake None now = false
is_member_awake (Some m) now = is_awake m.spec m.child now

-- no child from the one place to before the other has woken
abbrev pub NoneAwake : ℕ → Crew → ℕ → ℕ → Type 0
NoneAwake now crew from to =
    (place : ℕ) → from ≤ place → place < to → is_member_awake (member_at crew place) now ≡ false

-- this is the first place, from a place on, whose child has woken
pub record IsNextAwake (now : ℕ) (crew : Crew) (from place : ℕ) : Type 0 where
  pub after : from ≤ place
  pub within : place < length crew.all
  pub awake : is_member_awake (member_at crew place) now ≡ true
  pub before : NoneAwake now crew from place

-- the place of a child, if there is one
abbrev pub place_of : Option ChildId → Option ℕ
place_of None = None
place_of (Some child) = Some child.0
