-- Rewinding, for a clock that goes back: a child's moments are no later than now, and no deadline
-- is further off than its own wait.
use Rattle.std.specs.Prelude.{ℕ, Option, Some, None, ◌+◌, ◌*◌, min}
use Rattle.sv_base.specs.declared.spec.Spec.{Spec}
use Rattle.sv_base.specs.declared.state.State.{State}
use Rattle.sv_base.specs.declared.state.State.TheVariants.{Starting, Backoff, Stopping}
use Rattle.sv_child.specs.declared.child.Child.{Child}

-- a moment, but no later than now
abbrev pub no_later : Option ℕ → ℕ → Option ℕ
no_later None now = None
no_later (Some moment) now = Some (min moment now)

-- how many seconds a deadline of this state waits
abbrev pub wait_of : Spec → Child → State → Option ℕ
wait_of spec child Starting = Some spec.startsecs
wait_of spec child Backoff = Some child.tries
wait_of spec child Stopping = Some spec.stopwaitsecs
wait_of spec child state = None

-- a deadline, but no further off than its wait
abbrev pub shortened : Option ℕ → Option ℕ → ℕ → Option ℕ
shortened (Some deadline) (Some wait) now = Some (min deadline (now + 1000 * wait))
shortened deadline wait now = deadline

-- the child, rewound
abbrev pub rewound : Spec → Child → ℕ → Child
rewound spec child now = record child {
  start = no_later child.start now;
  stop = no_later child.stop now;
  deadline = shortened child.deadline (wait_of spec child child.state) now;
}
