-- Time passes, and no order is given: then it passes by each child.
use Rattle.std.proofs.Common.{◌≡◌, ◌⊎◌, inl, inr, ℕ, zero, suc, ◌+◌, ◌++◌, ◌&&◌, List, [], ◌∷◌, Bool, true, false, Option, Some, None, if◌then◌else◌, ◌∙◌, refl, ap, sym, append_assoc}
use Rattle.std.specs.Prelude.{is_some, slice_get, slice_set}
use Rattle.sv_base.specs.declared.ids.Run.{Run}
use Rattle.sv_base.specs.declared.signal.Signal.{Signal}
use Rattle.sv_base.specs.declared.spec.GroupSpec.{GroupSpec}
use Rattle.sv_base.specs.declared.spec.Spec.{Spec}
use Rattle.sv_base.specs.declared.state.Mood.{Mood}
use Rattle.sv_base.specs.declared.state.State.{State}
use Rattle.sv_base.specs.declared.state.State.TheVariants.{Stopped, Starting, Running, Backoff, Stopping, Exited, Fatal, Unknown}
use Rattle.sv_child.specs.ChildTable.{row}
use Rattle.sv_child.specs.ChildTable.Stimulus.{Time as Time_passes}
use Rattle.sv_child.specs.Moves.{Answer, goes, has_tired, is_first_start, is_killed, is_reached, is_running, nothing, restarts, starts, stays}
use Rattle.sv_child.specs.declared.child.Child.{Child}
use Rattle.sv_child.specs.declared.step.ChildDeed.{ChildDeed}
use Rattle.sv_child.specs.declared.step.ChildDeed.TheVariants.{Kill}
use Rattle.sv_child.specs.declared.step.Edge.{Edge}
use Rattle.sv_child.specs.declared.step.Step.{Step}
use Rattle.sv_children.proofs.Places.{set_here}
use Rattle.sv_children.specs.Crew.{Crew, Member, member_at, member_of}
use Rattle.sv_children.specs.News.{deed_of, said_to, step_of, stimulus_of}
use Rattle.sv_children.specs.Orders.{kill, kill_of}
use Rattle.sv_children.specs.declared.news.News.TheVariants as news_is
use Rattle.sv_core.specs.Moves.{changed, goes_edges, kills, moves}
use Rattle.sv_core.specs.Sweeps.{Turn, does_noted, meets, sweeps}
use Rattle.sv_core.specs.World.{World}
use Rattle.sv_cut_laws.proofs.Both.{noted_both, sweeps_both}
use Rattle.sv_cut_laws.proofs.Edges.{edge_loud}
use Rattle.sv_cut_laws.proofs.HaveRuns.{HaveRuns, has_run}
use Rattle.sv_cut_laws.proofs.Loud.{IsNatural, Loud, loud_at}
use Rattle.sv_cut_laws.proofs.Tells.{plain_both, tells_note}
use Rattle.sv_cut_laws.proofs.Turns.{IsLater, of_questions}
use Rattle.sv_children.specs.EdgeFacts.{pid_at}
use Rattle.sv_groups.specs.StartOrder.{pairs_of}
use Rattle.sv_children.specs.Lines.EdgeLines.{how_of, killing_at}
use Rattle.sv_out.specs.declared.order.Order.{Order}
use Rattle.sv_out.specs.declared.order.Order.TheVariants as order

-- ---- the row of a child

-- what the table says as time passes: nothing, an edge, or the signal of a child that stops
pub data Passing (child : Child) (answer : Answer) : Type 0 where
  stands : answer ≡ nothing child → Passing child answer
  edge : (first : Edge) (more : List (Option Edge)) → answer.step.edges ≡ Some first ∷ more → Passing child answer
  killed : (signal : Signal) (group : Bool) → answer.step ≡ stays (Some (Kill signal group)) → answer.child.run ≡ child.run → child.state ≡ Stopping
      → Passing child answer

passing : (state : State) (spec : Spec) (child : Child) (mood : Mood) (now : ℕ) → child.state ≡ state
    → Passing child (row Time_passes state spec child mood now)
passing Stopped spec child mood now is = by_test (is_first_start spec child && is_running mood) where
  by_test : (b : Bool) → Passing child (if b then starts Stopped child now else nothing child)
  by_test true = edge _ _ refl
  by_test false = stands refl
passing Starting spec child mood now is = by_test (is_reached child.deadline now) where
  by_test : (b : Bool) → Passing child (if b then goes Starting child Running else nothing child)
  by_test true = edge _ _ refl
  by_test false = stands refl
passing Running spec child mood now is = stands refl
passing Backoff spec child mood now is = by_tests (has_tired spec child) (is_reached child.deadline now && is_running mood) where
  by_tests : (b c : Bool) → Passing child (if b then goes Backoff child Fatal else if c then starts Backoff child now else nothing child)
  by_tests true c = edge _ _ refl
  by_tests false true = edge _ _ refl
  by_tests false false = stands refl
passing Stopping spec child mood now is = by_test (is_reached child.deadline now) where
  by_test : (b : Bool) → Passing child (if b then is_killed spec child now else nothing child)
  by_test true = killed _ _ refl refl is
  by_test false = stands refl
passing Exited spec child mood now is = by_test (is_running mood && restarts spec child) where
  by_test : (b : Bool) → Passing child (if b then starts Exited child now else nothing child)
  by_test true = edge _ _ refl
  by_test false = stands refl
passing Fatal spec child mood now is = stands refl
passing Unknown spec child mood now is = stands refl

-- ---- one child

-- what the table says to a child that stands
abbrev pub standing : Option Member → Option Answer
standing None = None
standing (Some m) = Some (nothing m.child)

-- time passes by the child of a place
abbrev pub Stands : Option Member → Mood → ℕ → Type 0
Stands m mood now = said_to (stimulus_of news_is.Time) m mood now ≡ standing m

-- what time does with the child of a place
abbrev there : ℕ → World → Option Answer → (World → Turn) → Turn
there c w answer k = does_noted news_is.Time (deed_of (step_of answer)) c (moves (how_of news_is.Time) c answer w) k

set_there : (xs : List Child) (i : ℕ) (x : Child) → slice_get xs i ≡ Some x → slice_set xs i x ≡ xs
set_there [] i x at = refl
set_there (y ∷ ys) zero x at = ap (λ (z : Child). z ∷ ys) (cc)
set_there (y ∷ ys) (suc i) x at = ap (λ (zs : List Child). y ∷ zs) (set_there ys i x at)

stands_at : (c : ℕ) (w : World) (k : World → Turn) (pair : Option (GroupSpec × Spec)) (found : Option Child)
    → slice_get w.children.all c ≡ found → Stands (member_of pair found) w.course.mood w.moment
    → there c w (said_to (stimulus_of news_is.Time) (member_of pair found) w.course.mood w.moment) k ≡ k w
stands_at c w k None found at is = refl
stands_at c w k (Some pair) None at is = refl
stands_at c w k (Some pair) (Some child) at is =
    ap (λ (answer : Option Answer). there c w answer k) is
    ∙ ap (λ (cs : List Child). k (record w { children = record w.children { all = cs } })) (set_there w.children.all c child at)

one_stands : (c : ℕ) (w : World) (k : World → Turn) → Stands (member_at w.children c) w.course.mood w.moment → meets news_is.Time c w k ≡ k w
one_stands c w k is = stands_at c w k (slice_get (pairs_of w.children.roster) c) (slice_get w.children.all c) refl is

-- it passes by so many children from this place on
abbrev pub AllStand : ℕ → ℕ → Crew → Mood → ℕ → Type 0
AllStand zero c crew mood now = Unit {0}
AllStand (suc left) c crew mood now = Stands (member_at crew c) mood now × AllStand left (c + 1) crew mood now

pub time_passes : (left c : ℕ) (w : World) (k : World → Turn) → AllStand left c w.children w.course.mood w.moment
    → sweeps news_is.Time left c w k ≡ k w
time_passes zero c w k all = refl
time_passes (suc left) c w k all =
    one_stands c w (λ v. sweeps news_is.Time left (c + 1) v k) all.0 ∙ time_passes left (c + 1) w k all.1

-- ---- an edge

sweep_natural : (c : ℕ) (deed : Option ChildDeed) (k : World → Turn) → IsNatural k → IsNatural (λ x. does_noted news_is.Time deed c x k)
sweep_natural c deed k goes a x = noted_both a (IsLater a) (of_questions a) news_is.Time deed c x k (goes a)

-- ---- a signal

kill_there : (c : ℕ) (cs : List Child) (child next : Child) (run : Run) (signal : Signal) (group : Bool) → slice_get cs c ≡ Some child
    → next.run ≡ Some run → kill_of (slice_get (slice_set cs c next) c) signal group ≡ order.Kill run signal group ∷ []
kill_there c cs child next run signal group at is =
    ap (λ (found : Option Child). kill_of found signal group) (set_here cs c child next at)
    ∙ ap (λ (r : Option Run). kill r signal group) is

kill_loud : (c : ℕ) (w : World) (child : Child) (answer : Answer) (run : Run) (signal : Signal) (group : Bool)
    → slice_get w.children.all c ≡ Some child → answer.step ≡ stays (Some (Kill signal group)) → answer.child.run ≡ Some run
    → Loud w (there c w (Some answer))
kill_loud c w child answer run signal group at step is =
    let beyond = changed c (Some answer) w in
    let line = killing_at news_is.Time (Some (Kill signal group)) beyond.children c in
    let noted = tells_note line beyond in
    let o = order.Kill run signal group in
    let u = record beyond { pools = noted.pools; sizes = noted.sizes; given = (w.given ++ noted.more) ++ o ∷ [] } in
    loud_at w u noted.more o (there c w (Some answer)) (λ k x. k x) (append_assoc w.given noted.more (o ∷ []))
    (plain_both noted.more (o ∷ []) noted.plain refl)
    (λ k. ap (λ (s : Step). does_noted news_is.Time s.deed c (goes_edges None c (pid_at w.children c) s.edges beyond) k) step
    ∙ ap (λ (x : World). k (kills c signal group x)) noted.is
    ∙ ap (λ (os : List Order). k (record beyond { pools = noted.pools; sizes = noted.sizes; given = (w.given ++ noted.more) ++ os }))
    (kill_there c w.children.all child answer.child run signal group at is))
    (λ k goes. goes)

-- ---- each child

run_there : (state : State) (run : Option Run) → has_run state run ≡ true → state ≡ Stopping → is_some run ≡ true
run_there state run has is = sym (ap (λ (s : State). has_run s run) is) ∙ has

by_row : (c : ℕ) (w : World) (pair : GroupSpec × Spec) (child : Child) (answer : Answer) → slice_get (pairs_of w.children.roster) c ≡ Some pair
    → slice_get w.children.all c ≡ Some child → has_run child.state child.run ≡ true → Passing child answer
    → (answer ≡ nothing child) ⊎ Loud w (there c w (Some answer))
by_row c w pair child answer pair_at at has (stands is) = inl is
by_row c w pair child answer pair_at at has (edge first more edges) =
    inr (edge_loud c w pair answer first more (λ x k. does_noted news_is.Time answer.step.deed c x k) (sweep_natural c answer.step.deed) pair_at edges)
by_row c w pair child answer pair_at at has (killed signal group step run stops) =
    by_run child.run refl (run_there child.state child.run has stops) where
      by_run : (found : Option Run) → child.run ≡ found → is_some found ≡ true → (answer ≡ nothing child) ⊎ Loud w (there c w (Some answer))
      by_run None is some = absurd cc
      by_run (Some r) is some = inr (kill_loud c w child answer r signal group at step (run ∙ is))

by_member : (c : ℕ) (w : World) (pair : Option (GroupSpec × Spec)) (found : Option Child) → slice_get (pairs_of w.children.roster) c ≡ pair
    → slice_get w.children.all c ≡ found → HaveRuns w.children.all
    → Stands (member_of pair found) w.course.mood w.moment
    ⊎ Loud w (there c w (said_to (stimulus_of news_is.Time) (member_of pair found) w.course.mood w.moment))
by_member c w None found pair_at at runs = inl refl
by_member c w (Some pair) None pair_at at runs = inl refl
by_member c w (Some pair) (Some child) pair_at at runs =
    by_sum (by_row c w pair child (row Time_passes child.state pair.1 child w.course.mood w.moment) pair_at at (runs c child at)
    (passing child.state pair.1 child w.course.mood w.moment refl)) where
      answer : Answer
      answer = row Time_passes child.state pair.1 child w.course.mood w.moment

      by_sum : (answer ≡ nothing child) ⊎ Loud w (there c w (Some answer))
          → (Some answer ≡ Some (nothing child)) ⊎ Loud w (there c w (Some answer))
      by_sum (inl is) = inl (ap (λ (x : Answer). Some x) is)
      by_sum (inr loud) = inr loud

met : (c : ℕ) (w : World) → HaveRuns w.children.all → Stands (member_at w.children c) w.course.mood w.moment ⊎ Loud w (meets news_is.Time c w)
met c w runs = by_member c w (slice_get (pairs_of w.children.roster) c) (slice_get w.children.all c) refl refl runs

pub time_tells : (left c : ℕ) (w : World) → HaveRuns w.children.all
    → AllStand left c w.children w.course.mood w.moment ⊎ Loud w (sweeps news_is.Time left c w)
time_tells zero c w runs = inl tt
time_tells (suc left) c w runs = by_first (met c w runs) (time_tells left (c + 1) w runs) where
  by_first : Stands (member_at w.children c) w.course.mood w.moment ⊎ Loud w (meets news_is.Time c w)
      → AllStand left (c + 1) w.children w.course.mood w.moment ⊎ Loud w (sweeps news_is.Time left (c + 1) w)
      → AllStand (suc left) c w.children w.course.mood w.moment ⊎ Loud w (sweeps news_is.Time (suc left) c w)
  by_first (inl one) (inl all) = inl (one, all)
  by_first (inl one) (inr loud) =
      inr (λ k goes v done. loud k goes v (sym (one_stands c w (λ x. sweeps news_is.Time left (c + 1) x k) one) ∙ done))
  by_first (inr loud) all =
      inr (λ k goes v done. loud (λ x. sweeps news_is.Time left (c + 1) x k)
      (λ a x. sweeps_both a (IsLater a) (of_questions a) news_is.Time left (c + 1) x k (goes a)) v done)
