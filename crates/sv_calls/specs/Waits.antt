-- What ends a wait, and what its answer is.
use Rattle.std.specs.Prelude.{ℕ, List, [], ◌∷◌, Bool, true, false, not, ◌&&◌, ◌++◌, Option, Some}
use Rattle.std.specs.Prelude.{None, codes, pos, map, if◌then◌else◌}
use Rattle.std.specs.List.{list_any, slice_get}
use Rattle.std.specs.Option.{option_map}
use Rattle.sv_base.specs.declared.ids.ChildId.{ChildId}
use Rattle.sv_base.specs.declared.spec.GroupSpec.{GroupSpec}
use Rattle.sv_base.specs.declared.spec.Spec.{Spec}
use Rattle.sv_base.specs.declared.state.State.{State}
use Rattle.sv_base.specs.declared.state.State.TheVariants as state
use Rattle.sv_child.specs.Moves.{is_at_rest}
use Rattle.sv_child.specs.declared.child.Child.{Child}
use Rattle.sv_groups.specs.StartOrder.{pairs_of}
use Rattle.sv_info.specs.Faults.{fault_number, fault_of, fault_text}
use Rattle.sv_info.specs.Info.{status}
use Rattle.sv_info.specs.declared.fault.Fault.{Fault}
use Rattle.sv_info.specs.declared.fault.Fault.TheVariants.{AbnormalTermination, SpawnError}
use Rattle.sv_methods.specs.declared.planned.Aim.{Aim}
use Rattle.sv_methods.specs.declared.planned.Aim.TheVariants.{Started, Stopped, Signalled, Cleared}
use Rattle.sv_methods.specs.declared.planned.Asked.{Asked}
use Rattle.sv_methods.specs.declared.planned.Waiting.{Waiting}
use Rattle.sv_methods.specs.Scenes.{Scene}
use Rattle.sv_xmlcall.specs.Trees.{Tree, truth, array, trees_of, Reply, Returns, Faults}

-- a process that was started is waited for while it is STARTING, one that was stopped until it is
-- at rest
abbrev pub is_due : Aim → State → Bool
is_due Started state.Starting = true
is_due Stopped now = not (is_at_rest now)
is_due aim now = false

-- the child of a row, where it has one
abbrev pub child_of : List Child → Option ChildId → Option Child
child_of children None = None
child_of children (Some id) = slice_get children id.0

-- the same of a child that is there
abbrev pub is_due_of : Aim → Option Child → Bool
is_due_of aim None = false
is_due_of aim (Some child) = is_due aim child.state

-- whether the child of a row is waited for
abbrev pub is_waited_for : List Child → Asked → Bool
is_waited_for children asked = is_due_of asked.aim (child_of children asked.child)

-- a child asked for meets its waiting condition
abbrev pub waits : List Child → Waiting → Bool
waits children waiting = waiting.wait && list_any (is_waited_for children) waiting.rows

-- a start that ended elsewhere than in RUNNING: its cause is known or not
abbrev pub start_fault : List ℕ → Option Fault
start_fault [] = Some AbnormalTermination
start_fault (byte ∷ bytes) = Some SpawnError

-- by the state in which a start ended, and the child's fault text
abbrev pub started : State → List ℕ → Option Fault
started state.Running cause = None
started now cause = start_fault cause

-- the same of a child that is there
abbrev pub started_child : Option Child → Option Fault
started_child None = None
started_child (Some child) = started child.state child.fault

-- by the states what came of a row whose request had no fault
abbrev pub judged_by : Bool → Aim → Option Child → Option Fault
judged_by true Started child = started_child child
judged_by wait aim child = None

-- the fault of a row's request goes before that of the states
abbrev pub judged_row : Option ℕ → Option Fault → Option Fault
judged_row None fault = fault
judged_row (Some number) fault = Some (fault_of number)

-- what came of a row
abbrev pub judged : List Child → Bool → Asked → Option Fault
judged children wait asked =
    judged_row asked.fault (judged_by wait asked.aim (child_of children asked.child))

-- the row of a process in a status array
abbrev pub status_of : Option (GroupSpec × Spec) → Option Fault → List Tree
status_of None outcome = []
status_of (Some process) outcome = status process.0.name process.1.name outcome ∷ []

-- the process of a row, where it has one
abbrev pub process_of : List GroupSpec → Option ChildId → Option (GroupSpec × Spec)
process_of groups None = None
process_of groups (Some id) = slice_get (pairs_of groups) id.0

-- the rows of a status array, in their order
abbrev pub statuses : List GroupSpec → List Child → Bool → List Asked → List Tree
statuses groups children wait [] = []
statuses groups children wait (asked ∷ rows) =
    status_of (process_of groups asked.child) (judged children wait asked)
    ++ statuses groups children wait rows

-- the first fault of the rows
abbrev pub first_fault : List Child → Bool → List Asked → Option Fault
first_fault children wait [] = None
first_fault children wait (asked ∷ rows) =
    or_else (judged children wait asked) (first_fault children wait rows)
  where
    or_else : Option Fault → Option Fault → Option Fault
    or_else None rest = rest
    or_else (Some fault) rest = Some fault

-- the answer that isn't a status array
abbrev pub single : Option (List ℕ) → Option Fault → Reply
single name None = Returns (truth true)
single name (Some fault) = Faults (pos (fault_number fault)) (fault_text fault name)

-- the answer: a status array, or `true` unless a row has a fault
abbrev pub answer : List GroupSpec → List Child → Waiting → Reply
answer groups children waiting =
    if waiting.array
    then Returns (array (trees_of (statuses groups children waiting.wait waiting.rows)))
    else single waiting.name (first_fault children waiting.wait waiting.rows)

-- the answer of a wait; none while it goes on
abbrev pub checked : Scene → Waiting → Option Reply
checked scene waiting =
    if waits scene.children waiting then None
    else Some (answer scene.roster scene.children waiting)
