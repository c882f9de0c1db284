-- What is known of all children without looking at them: when each wakes, and that rewinding leaves
-- them as they are.
use Rattle.std.specs.Prelude.{◌≡◌, ℕ, List, Some, Bool, true, false, nat_eq, slice_get}
use Rattle.std.specs.Prelude.{if◌then◌else◌}
use Rattle.sv_base.specs.declared.spec.GroupSpec.{GroupSpec}
use Rattle.sv_base.specs.declared.spec.Spec.{Spec}
use Rattle.sv_children.specs.Wake.{is_settled}
use Rattle.sv_child.specs.declared.child.Child.{Child}
use Rattle.sv_children.specs.Awake.{wakes_of}
use Rattle.sv_children.specs.declared.watch.Unsettled.{Unsettled}
use Rattle.sv_children.specs.declared.watch.Unsettled.TheVariants.{Nobody, One, Several}
use Rattle.sv_children.specs.declared.watch.Watch.{Watch}

-- a child may be unsettled
abbrev pub may_be : Unsettled → ℕ → Bool
may_be Nobody place = false
may_be (One own) place = nat_eq own place
may_be Several place = true

-- but not the one of this place
abbrev pub but_not : Unsettled → ℕ → Unsettled
but_not Nobody place = Nobody
but_not (One own) place = if nat_eq own place then Nobody else One own
but_not Several place = Several

-- and the one of this place
abbrev pub and_also : Unsettled → ℕ → Unsettled
and_also Nobody place = One place
and_also (One own) place = if nat_eq own place then One own else Several
and_also Several place = Several

-- the children that can't be unsettled are settled at a moment
abbrev pub AreSettled : List (GroupSpec × Spec) → List Child → Unsettled → ℕ → Type 0
AreSettled pairs children unsettled now =
    (place : ℕ) (pair : GroupSpec × Spec) (child : Child)
    → slice_get pairs place ≡ Some pair
    → slice_get children place ≡ Some child
    → may_be unsettled place ≡ false
    → is_settled pair.1 child now ≡ true

-- a watch knows when each of these children wakes, and who of them is settled
pub record Watches (pairs : List (GroupSpec × Spec)) (children : List Child) (watch : Watch) : Type
    0 where
  pub agenda : watch.agenda ≡ wakes_of pairs children
  pub settled : AreSettled pairs children watch.unsettled watch.at

-- nobody is unsettled
abbrev pub is_nobody : Unsettled → Bool
is_nobody Nobody = true
is_nobody unsettled = false
