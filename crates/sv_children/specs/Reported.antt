-- What orders report of one child, by its group and name, and which state it is in.
use Rattle.std.specs.Prelude.{◌≡◌, ℕ, List, Option, Some, None, IsTrue, ◌&&◌, if◌then◌else◌, map}
use Rattle.std.specs.Prelude.{slice_get}
use Rattle.std.specs.Str.{bytes_eq}
use Rattle.sv_base.specs.Roster.{is_roster}
use Rattle.sv_base.specs.declared.spec.GroupSpec.{GroupSpec}
use Rattle.sv_base.specs.declared.spec.Spec.{Spec}
use Rattle.sv_base.specs.declared.state.Mood.{Mood}
use Rattle.sv_base.specs.declared.state.State.{State}
use Rattle.sv_base.specs.declared.state.State.TheVariants.{Stopped}
use Rattle.sv_child.specs.ChildTable.{Stimulus}
use Rattle.sv_child.specs.Diagram.{IsWalk}
use Rattle.sv_child.specs.Moves.{Answer}
use Rattle.sv_child.specs.declared.child.Child.{Child}
use Rattle.sv_child.specs.declared.step.Edge.{Edge}
use Rattle.sv_children.specs.Crew.{Crew}
use Rattle.sv_children.specs.News.{moved, said_at}
use Rattle.sv_children.specs.Orders.{reports_at}
use Rattle.sv_groups.specs.StartOrder.{pairs_of}
use Rattle.sv_out.specs.declared.order.Order.{Order}
use Rattle.sv_out.specs.declared.order.Order.TheVariants as order

-- the edge that an order reports of the child of this group and name, if it is such a report
abbrev pub edge_told : List ℕ → List ℕ → Order → Option Edge
edge_told group name (order.State its_group its_name from to) =
    if bytes_eq its_group group && bytes_eq its_name name
    then Some (record { from = from; to = to }) else None
edge_told group name given = None

-- what the orders report of that child, in order
abbrev pub edges_told : List ℕ → List ℕ → List Order → List (Option Edge)
edges_told group name orders = map (edge_told group name) orders

-- the state of a child; what isn't there is stopped
abbrev pub state_of : Option Child → State
state_of None = Stopped
state_of (Some child) = child.state

-- the state of the child in this place
abbrev pub state_at : Crew → ℕ → State
state_at crew place = state_of (slice_get crew.all place)

-- what the step of the child of one place reports, by whatever it is moved, is a walk for the child
-- of each place
abbrev pub EachStepIsAWalk : Type 0
EachStepIsAWalk =
    (stimulus : Child → Option Stimulus) (mood : Mood) (now : ℕ) (crew : Crew) (moving place : ℕ)
    (answer : Answer)
    (pair : GroupSpec × Spec)
    → said_at stimulus moving mood now crew ≡ Some answer
    → IsTrue (is_roster crew.roster)
    → slice_get (pairs_of crew.roster) place ≡ Some pair
    → IsWalk (state_at crew place)
    (edges_told pair.0.name pair.1.name (reports_at crew moving answer.step.edges))
    (state_at (moved moving (Some answer) crew) place)
