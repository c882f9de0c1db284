-- Who hasn't woken takes no step, and who is settled stays as it is when it is rewound.
use Rattle.std.proofs.Common.{◌≡◌, ℕ, ◌+◌, ◌*◌, ◌≤◌, Bool, true, false, ◌&&◌, Option, Some, None, min, if◌then◌else◌, arith, refl, ap}
use Rattle.std.specs.Prelude.{nat_le}
use Rattle.std.proofs.lemmas.Bool.{and_parts, both_ways, leb-true, le-leb}
use Rattle.sv_base.specs.declared.spec.Spec.{Spec}
use Rattle.sv_base.specs.declared.state.Mood.{Mood}
use Rattle.sv_base.specs.declared.state.State.{State}
use Rattle.sv_base.specs.declared.state.State.TheVariants.{Stopped, Starting, Running, Backoff, Stopping, Exited, Fatal, Unknown}
use Rattle.sv_child.specs.ChildTable.{happens, row}
use Rattle.sv_child.specs.ChildTable.Stimulus.{Time}
use Rattle.sv_child.specs.Moves.{goes, has_tired, is_first_start, is_reached, is_running, nothing, restarts, starts}
use Rattle.sv_child.specs.Rewind.{no_later, rewound, shortened, wait_of}
use Rattle.sv_children.specs.Wake.{at_once_if, is_awake, is_past, is_settled, is_within, wakes_in}
use Rattle.sv_child.specs.declared.child.Child.{Child}

-- ---- who hasn't woken

and_no : (b : Bool) → (b && false) ≡ false
and_no true = refl
and_no false = refl

-- at once is now
not_at_once : (b : Bool) (now : ℕ) → is_reached (at_once_if b) now ≡ false → b ≡ false
not_at_once true now e = absurd (both_ways (nat_le 0 now) e (le-leb 0 now (omega arith)))
not_at_once false now e = refl

backoff : (tired : Bool) (child : Child) (mood : Mood) (now : ℕ)
    → is_reached (if tired then Some 0 else child.deadline) now ≡ false
    → (if tired then goes Backoff child Fatal
    else if is_reached child.deadline now && is_running mood then starts Backoff child now
    else nothing child) ≡ nothing child
backoff true child mood now e = absurd (both_ways (nat_le 0 now) e (le-leb 0 now (omega arith)))
backoff false child mood now e = rw e refl

row_of : (state : State) (spec : Spec) (child : Child) (mood : Mood) (now : ℕ) → is_reached (wakes_in state spec child) now ≡ false
    → row Time state spec child mood now ≡ nothing child
row_of Stopped spec child mood now e = rw (not_at_once (is_first_start spec child) now e) refl
row_of Starting spec child mood now e = rw e refl
row_of Running spec child mood now e = refl
row_of Backoff spec child mood now e = backoff (has_tired spec child) child mood now e
row_of Stopping spec child mood now e = rw e refl
row_of Exited spec child mood now e = rw (not_at_once (restarts spec child) now e, and_no (is_running mood)) refl
row_of Fatal spec child mood now e = refl
row_of Unknown spec child mood now e = refl

pub not_awake : (spec : Spec) (child : Child) (mood : Mood) (now : ℕ) → is_awake spec child now ≡ false
    → happens spec child Time mood now ≡ nothing child
not_awake spec child mood now e = row_of child.state spec child mood now e

-- ---- who is settled

least : (m n : ℕ) → nat_le m n ≡ true → min m n ≡ m
least m n e = let le : m ≤ n = leb-true m n e in omega (arith, le)

past_same : (moment : Option ℕ) (now : ℕ) → is_past moment now ≡ true → no_later moment now ≡ moment
past_same None now e = refl
past_same (Some moment) now e = ap Some (least moment now e)

within_same : (deadline wait : Option ℕ) (now : ℕ) → is_within deadline wait now ≡ true → shortened deadline wait now ≡ deadline
within_same None None now e = refl
within_same None (Some wait) now e = refl
within_same (Some deadline) None now e = refl
within_same (Some deadline) (Some wait) now e = ap Some (least deadline (now + 1000 * wait) e)

pub settled_same : (spec : Spec) (child : Child) (now : ℕ) → is_settled spec child now ≡ true → rewound spec child now ≡ child
settled_same spec child now e =
    let all = and_parts (is_past child.start now && is_past child.stop now) (is_within child.deadline (wait_of spec child child.state) now) e in
    let moments = and_parts (is_past child.start now) (is_past child.stop now) all.0 in
    rw (
      past_same child.start now moments.0,
      past_same child.stop now moments.1,
      within_same child.deadline (wait_of spec child child.state) now all.1,
    ) refl

past_later : (moment : Option ℕ) (now later : ℕ) → is_past moment now ≡ true → nat_le now later ≡ true → is_past moment later ≡ true
past_later None now later e order = refl
past_later (Some moment) now later e order =
    let one : moment ≤ now = leb-true moment now e in
    let other : now ≤ later = leb-true now later order in
    le-leb moment later (omega (arith, one, other))

within_later : (deadline wait : Option ℕ) (now later : ℕ) → is_within deadline wait now ≡ true → nat_le now later ≡ true
    → is_within deadline wait later ≡ true
within_later None None now later e order = refl
within_later None (Some wait) now later e order = refl
within_later (Some deadline) None now later e order = refl
within_later (Some deadline) (Some wait) now later e order =
    let one : deadline ≤ now + 1000 * wait = leb-true deadline (now + 1000 * wait) e in
    let other : now ≤ later = leb-true now later order in
    le-leb deadline (later + 1000 * wait) (omega (arith, one, other))

both : (a b c : Bool) → a ≡ true → b ≡ true → c ≡ true → (a && b && c) ≡ true
both a b c x y z = rw (x, y, z) refl

pub settled_later : (spec : Spec) (child : Child) (now later : ℕ) → is_settled spec child now ≡ true → nat_le now later ≡ true
    → is_settled spec child later ≡ true
settled_later spec child now later e order =
    let all = and_parts (is_past child.start now && is_past child.stop now) (is_within child.deadline (wait_of spec child child.state) now) e in
    let moments = and_parts (is_past child.start now) (is_past child.stop now) all.0 in
    both (is_past child.start later) (is_past child.stop later) (is_within child.deadline (wait_of spec child child.state) later)
    (past_later child.start now later moments.0 order) (past_later child.stop now later moments.1 order)
    (within_later child.deadline (wait_of spec child child.state) now later all.1 order)

no_later_past : (moment : Option ℕ) (now : ℕ) → is_past (no_later moment now) now ≡ true
no_later_past None now = refl
no_later_past (Some moment) now = le-leb (min moment now) now (omega arith)

shortened_within : (deadline wait : Option ℕ) (now : ℕ) → is_within (shortened deadline wait now) wait now ≡ true
shortened_within None None now = refl
shortened_within None (Some wait) now = refl
shortened_within (Some deadline) None now = refl
shortened_within (Some deadline) (Some wait) now = le-leb (min deadline (now + 1000 * wait)) (now + 1000 * wait) (omega arith)

same_wait : (state : State) (spec : Spec) (child : Child) (now : ℕ) → wait_of spec (rewound spec child now) state ≡ wait_of spec child state
same_wait Stopped spec child now = refl
same_wait Starting spec child now = refl
same_wait Running spec child now = refl
same_wait Backoff spec child now = refl
same_wait Stopping spec child now = refl
same_wait Exited spec child now = refl
same_wait Fatal spec child now = refl
same_wait Unknown spec child now = refl

pub rewound_settled : (spec : Spec) (child : Child) (now : ℕ) → is_settled spec (rewound spec child now) now ≡ true
rewound_settled spec child now =
    both (is_past (no_later child.start now) now) (is_past (no_later child.stop now) now)
    (is_within (shortened child.deadline (wait_of spec child child.state) now) (wait_of spec (rewound spec child now) child.state) now)
    (no_later_past child.start now) (no_later_past child.stop now)
    (rw (same_wait child.state spec child now) (shortened_within child.deadline (wait_of spec child child.state) now))
