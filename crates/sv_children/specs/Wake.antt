-- When the daemon has to look at a child as time passes (the manual's chapter on subprocesses).
use Rattle.std.specs.Prelude.{◌≡◌, ℕ, Option, Some, None, Bool, true, false, ◌+◌, ◌*◌, ◌&&◌, nat_le}
use Rattle.std.specs.Prelude.{if◌then◌else◌}
use Rattle.sv_base.specs.declared.spec.Spec.{Spec}
use Rattle.sv_base.specs.declared.state.Mood.{Mood}
use Rattle.sv_base.specs.declared.state.State.{State}
use Rattle.sv_base.specs.declared.state.State.TheVariants.{Stopped, Starting, Backoff, Stopping}
use Rattle.sv_base.specs.declared.state.State.TheVariants.{Exited}
use Rattle.sv_child.specs.ChildTable.{happens}
use Rattle.sv_child.specs.ChildTable.Stimulus.{Time}
use Rattle.sv_child.specs.Moves.{nothing, is_reached, has_tired, restarts, is_first_start}
use Rattle.sv_child.specs.Rewind.{rewound, wait_of}
use Rattle.sv_child.specs.declared.child.Child.{Child}

-- a child that something is to be done for at once, whatever the clock says, wakes at the moment 0
abbrev pub at_once_if : Bool → Option ℕ
at_once_if true = Some 0
at_once_if false = None

-- the moment at which a child of this state wakes, if it waits for time
abbrev pub wakes_in : State → Spec → Child → Option ℕ
wakes_in Starting spec child = child.deadline
wakes_in Stopping spec child = child.deadline
wakes_in Backoff spec child = if has_tired spec child then Some 0 else child.deadline
wakes_in Exited spec child = at_once_if (restarts spec child)
wakes_in Stopped spec child = at_once_if (is_first_start spec child)
wakes_in state spec child = None

-- the moment at which a child wakes: its deadline, or 0 where it is to be started, started again or
-- given up
abbrev pub wake_moment : Spec → Child → Option ℕ
wake_moment spec child = wakes_in child.state spec child

-- it has woken: time may do something to it
abbrev pub is_awake : Spec → Child → ℕ → Bool
is_awake spec child now = is_reached (wake_moment spec child) now

-- a child that hasn't woken takes no step as time passes
abbrev pub OnlyTheAwakeMove : Type 0
OnlyTheAwakeMove =
    (spec : Spec) (child : Child) (mood : Mood) (now : ℕ)
    → is_awake spec child now ≡ false
    → happens spec child Time mood now ≡ nothing child

-- a moment, if there is one, is no later than now
abbrev pub is_past : Option ℕ → ℕ → Bool
is_past None now = true
is_past (Some moment) now = nat_le moment now

-- a deadline is no further off than its wait
abbrev pub is_within : Option ℕ → Option ℕ → ℕ → Bool
is_within (Some deadline) (Some wait) now = nat_le deadline (now + 1000 * wait)
is_within deadline wait now = true

-- nothing of a child lies further ahead of now than it may
abbrev pub is_settled : Spec → Child → ℕ → Bool
is_settled spec child now =
    is_past child.start now && is_past child.stop now
    && is_within child.deadline (wait_of spec child child.state) now

-- a child that is settled stays as it is when it is rewound to that moment, and is settled at each
-- later one
abbrev pub SettledStay : Type 0
SettledStay =
    (spec : Spec) (child : Child) (now later : ℕ)
    → is_settled spec child now ≡ true → nat_le now later ≡ true
    → (rewound spec child now ≡ child) × (is_settled spec child later ≡ true)

-- and each that is rewound to a moment is settled at it
abbrev pub RewindingSettles : Type 0
RewindingSettles =
    (spec : Spec) (child : Child) (now : ℕ) → is_settled spec (rewound spec child now) now ≡ true
