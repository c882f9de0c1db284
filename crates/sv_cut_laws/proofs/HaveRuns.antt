-- A child that is STARTING, RUNNING or STOPPING has a run, but for the moment in which its spawn waits for an answer.
use Rattle.std.proofs.Common.{◌≡◌, ℕ, zero, suc, ◌&&◌, List, [], ◌∷◌, Bool, true, false, Option, Some, None, if◌then◌else◌, ◌∙◌, refl, ap, sym, subst}
use Rattle.std.specs.Prelude.{is_some, replicate, slice_get, slice_set}
use Rattle.std.proofs.lemmas.Option.{same_Some}
use Rattle.sv_base.specs.declared.ids.Run.{Run}
use Rattle.sv_base.specs.declared.spec.GroupSpec.{GroupSpec}
use Rattle.sv_base.specs.declared.spec.Spec.{Spec}
use Rattle.sv_base.specs.declared.state.How.{How}
use Rattle.sv_base.specs.declared.state.Mood.{Mood}
use Rattle.sv_base.specs.declared.state.State.{State}
use Rattle.sv_base.specs.declared.state.State.TheVariants.{Stopped, Starting, Running, Backoff, Stopping, Exited, Fatal}
use Rattle.sv_child.specs.ChildTable.{Stimulus, happens, row}
use Rattle.sv_child.specs.ChildTable.Stimulus.{Start, Stop, Spawned, Spawn_failed, Ended, Time}
use Rattle.sv_child.specs.Moves.{Answer, backs_off, entered, exited, exited_too_quickly, goes, has_tired, is_first_start, is_killed, is_reached, is_running, leads_over, new_child, nothing, restarts, starts}
use Rattle.sv_child.specs.declared.child.Child.{Child}
use Rattle.sv_child.specs.declared.step.ChildDeed.{ChildDeed}
use Rattle.sv_child.specs.declared.step.ChildDeed.TheVariants.{Spawn}
use Rattle.sv_children.proofs.Places.{set_here}
use Rattle.sv_children.specs.Crew.{Crew, Member, member_at, member_of}
use Rattle.sv_children.specs.News.{deed_of, is_living_run, moved, said, said_at, said_to, step_of, stimulus_of, stimulus_told}
use Rattle.sv_children.specs.declared.news.News.TheVariants as news_is
use Rattle.sv_children.specs.declared.news.Told.{Told}
use Rattle.sv_children.specs.declared.news.Told.TheVariants as told_is
use Rattle.sv_groups.specs.StartOrder.{pairs_of}

-- a child of this state has a run, where it is one of these three
abbrev pub has_run : State → Option Run → Bool
has_run Starting run = is_some run
has_run Running run = is_some run
has_run Stopping run = is_some run
has_run state run = true

abbrev pub HasRun : Child → Type 0
HasRun child = has_run child.state child.run ≡ true

-- each of these children has its run
abbrev pub HaveRuns : List Child → Type 0
HaveRuns children = (place : ℕ) (child : Child) → slice_get children place ≡ Some child → has_run child.state child.run ≡ true

-- ---- the table

-- what may bring a child to STARTING
abbrev pub may_start : Option Stimulus → Bool
may_start (Some Start) = true
may_start (Some Time) = true
may_start other = false

-- a spawn is to be done
abbrev pub has_spawn : Option ChildDeed → Bool
has_spawn (Some Spawn) = true
has_spawn other = false

-- what the table says to a child that has its run: it still has it, and no spawn is to be done; or it is STARTING, with its spawn
pub data Says (stimulus : Stimulus) (answer : Answer) : Type 0 where
  keeps : HasRun answer.child → has_spawn answer.step.deed ≡ false → Says stimulus answer
  begins : may_start (Some stimulus) ≡ true → answer.child.state ≡ Starting → answer.step.deed ≡ Some Spawn → Says stimulus answer

says_if : (stimulus : Stimulus) (b : Bool) (x y : Answer) → Says stimulus x → Says stimulus y → Says stimulus (if b then x else y)
says_if stimulus true x y one other = one
says_if stimulus false x y one other = other

-- it has one, by its state
run_in : (state : State) (child : Child) → child.state ≡ state → HasRun child → has_run state child.run ≡ true
run_in state child is has = sym (ap (λ (s : State). has_run s child.run) is) ∙ has

row_says : (stimulus : Stimulus) (state : State) (spec : Spec) (child : Child) (mood : Mood) (now : ℕ) → child.state ≡ state → HasRun child
    → Says stimulus (row stimulus state spec child mood now)
row_says Start Stopped spec child mood now is has = begins refl refl refl
row_says Start Exited spec child mood now is has = begins refl refl refl
row_says Start Fatal spec child mood now is has = begins refl refl refl
row_says Stop Starting spec child mood now is has = keeps (run_in Starting child is has) refl
row_says Stop Running spec child mood now is has = keeps (run_in Running child is has) refl
row_says Stop Backoff spec child mood now is has = keeps refl refl
row_says (Spawned run pid) Starting spec child mood now is has = keeps (ap (λ (s : State). has_run s (Some run)) is) refl
row_says (Spawn_failed fault) Starting spec child mood now is has = keeps refl refl
row_says (Ended how) Starting spec child mood now is has =
    says_if (Ended how) (is_reached child.deadline now) (record {
      child = entered (entered (exited child how now) Running) Exited;
      step = leads_over Starting Running Exited;
    }) (backs_off (exited child how now) exited_too_quickly now) (keeps refl refl) (keeps refl refl)
row_says (Ended how) Running spec child mood now is has = keeps refl refl
row_says (Ended how) Stopping spec child mood now is has = keeps refl refl
row_says Time Stopped spec child mood now is has =
    says_if Time (is_first_start spec child && is_running mood) (starts Stopped child now) (nothing child) (begins refl refl refl) (keeps has refl)
row_says Time Starting spec child mood now is has =
    says_if Time (is_reached child.deadline now) (goes Starting child Running) (nothing child) (keeps (run_in Starting child is has) refl)
    (keeps has refl)
row_says Time Backoff spec child mood now is has =
    says_if Time (has_tired spec child) (goes Backoff child Fatal)
    (if is_reached child.deadline now && is_running mood then starts Backoff child now else nothing child) (keeps refl refl)
    (says_if Time (is_reached child.deadline now && is_running mood) (starts Backoff child now) (nothing child) (begins refl refl refl)
    (keeps has refl))
row_says Time Stopping spec child mood now is has =
    says_if Time (is_reached child.deadline now) (is_killed spec child now) (nothing child) (keeps has refl) (keeps has refl)
row_says Time Exited spec child mood now is has =
    says_if Time (is_running mood && restarts spec child) (starts Exited child now) (nothing child) (begins refl refl refl) (keeps has refl)
row_says stimulus state spec child mood now is has = keeps has refl

-- what a child that is STARTING is told of its spawn: it has a run, or backs off
spawned_run : (spec : Spec) (child : Child) (run : Run) (pid : ℕ) (mood : Mood) (now : ℕ) → child.state ≡ Starting
    → HasRun (happens spec child (Spawned run pid) mood now).child
spawned_run spec child run pid mood now is =
    subst (λ (s : State). HasRun (row (Spawned run pid) s spec child mood now).child) (sym is) (ap (λ (s : State). has_run s (Some run)) is)

failed_run : (spec : Spec) (child : Child) (fault : List ℕ) (mood : Mood) (now : ℕ) → child.state ≡ Starting
    → HasRun (happens spec child (Spawn_failed fault) mood now).child
failed_run spec child fault mood now is =
    subst (λ (s : State). HasRun (row (Spawn_failed fault) s spec child mood now).child) (sym is) refl

-- ---- one of all children

pub set_runs : (cs : List Child) (c : ℕ) (x : Child) → HaveRuns cs → HasRun x → (place : ℕ) (child : Child)
    → slice_get (slice_set cs c x) place ≡ Some child → has_run child.state child.run ≡ true
set_runs [] c x runs has place child at = runs place child at
set_runs (y ∷ ys) zero x runs has zero child at = subst (λ (z : Child). has_run z.state z.run ≡ true) (same_Some x child at) has
set_runs (y ∷ ys) zero x runs has (suc place) child at = runs (suc place) child at
set_runs (y ∷ ys) (suc c) x runs has zero child at = runs zero child at
set_runs (y ∷ ys) (suc c) x runs has (suc place) child at = set_runs ys c x (λ p z is. runs (suc p) z is) has place child at

set_twice : (cs : List Child) (c : ℕ) (x y : Child) → slice_set (slice_set cs c x) c y ≡ slice_set cs c y
set_twice [] c x y = refl
set_twice (z ∷ zs) zero x y = refl
set_twice (z ∷ zs) (suc c) x y = ap (λ (rest : List Child). z ∷ rest) (set_twice zs c x y)

pub new_runs : (n place : ℕ) (child : Child) → slice_get (replicate n new_child) place ≡ Some child → has_run child.state child.run ≡ true
new_runs zero place child at = cc
new_runs (suc n) zero child at = subst (λ (z : Child). has_run z.state z.run ≡ true) (same_Some new_child child at) refl
new_runs (suc n) (suc place) child at = new_runs n place child at

-- ---- the crew

-- the spawn of the child of this place waits for its answer: whatever has its run then, all have theirs
pub record Awaits (c : ℕ) (crew : Crew) : Type 0 where
  pub pair : GroupSpec × Spec
  pub child : Child
  pub pair_at : slice_get (pairs_of crew.roster) c ≡ Some pair
  pub at : slice_get crew.all c ≡ Some child
  pub starting : child.state ≡ Starting
  pub others : (next : Child) → HasRun next → HaveRuns (slice_set crew.all c next)

-- what comes to the child of a place: all have their runs after it, and no spawn is to be done; or its spawn is
pub data Comes (stimulus : Child → Option Stimulus) (c : ℕ) (crew : Crew) (answer : Option Answer) : Type 0 where
  stays : HaveRuns (moved c answer crew).all → has_spawn (deed_of (step_of answer)) ≡ false → Comes stimulus c crew answer
  waits : (child : Child) → may_start (stimulus child) ≡ true → Awaits c (moved c answer crew) → deed_of (step_of answer) ≡ Some Spawn
      → Comes stimulus c crew answer

module _ (stimulus : Child → Option Stimulus) (c : ℕ) (mood : Mood) (now : ℕ) (crew : Crew) (runs : HaveRuns crew.all) where
  by_answer : (pair : GroupSpec × Spec) (child : Child) (s : Stimulus) (answer : Answer) → slice_get (pairs_of crew.roster) c ≡ Some pair
      → slice_get crew.all c ≡ Some child → stimulus child ≡ Some s → Says s answer → Comes stimulus c crew (Some answer)
  by_answer pair child s answer pair_at at is (keeps has none) = stays (set_runs crew.all c answer.child runs has) none
  by_answer pair child s answer pair_at at is (begins may starting deed) =
      waits child (ap may_start is ∙ may) (record {
        pair = pair;
        child = answer.child;
        pair_at = pair_at;
        at = set_here crew.all c child answer.child at;
        starting = starting;
        others = λ next has.
            subst (λ (cs : List Child). HaveRuns cs) (sym (set_twice crew.all c answer.child next)) (set_runs crew.all c next runs has);
      }) deed

  by_stimulus : (pair : GroupSpec × Spec) (child : Child) (s : Option Stimulus) → slice_get (pairs_of crew.roster) c ≡ Some pair
      → slice_get crew.all c ≡ Some child → stimulus child ≡ s → Comes stimulus c crew (said s pair.1 child mood now)
  by_stimulus pair child None pair_at at is = stays runs refl
  by_stimulus pair child (Some s) pair_at at is =
      by_answer pair child s (happens pair.1 child s mood now) pair_at at is (row_says s child.state pair.1 child mood now refl (runs c child at))

  by_member : (pair : Option (GroupSpec × Spec)) (found : Option Child) → slice_get (pairs_of crew.roster) c ≡ pair
      → slice_get crew.all c ≡ found → Comes stimulus c crew (said_to stimulus (member_of pair found) mood now)
  by_member None found pair_at at = stays runs refl
  by_member (Some pair) None pair_at at = stays runs refl
  by_member (Some pair) (Some child) pair_at at = by_stimulus pair child (stimulus child) pair_at at refl

  pub comes_so : Comes stimulus c crew (said_at stimulus c mood now crew)
  comes_so = by_member (slice_get (pairs_of crew.roster) c) (slice_get crew.all c) refl refl

  -- where nothing may start all have their runs
  pub never_starts : ((child : Child) → may_start (stimulus child) ≡ false) → HaveRuns (moved c (said_at stimulus c mood now crew) crew).all
  never_starts never = by_kind comes_so where
    clash : (b : Bool) → b ≡ true → b ≡ false → ⊥
    clash b one other = cc

    by_kind : Comes stimulus c crew (said_at stimulus c mood now crew) → HaveRuns (moved c (said_at stimulus c mood now crew) crew).all
    by_kind (stays all none) = all
    by_kind (waits child may await deed) = absurd (clash (may_start (stimulus child)) may (never child))

pub exit_never_starts : (run : Run) (how : How) (child : Child) → may_start (stimulus_of (news_is.Exit run how) child) ≡ false
exit_never_starts run how child = by_run (is_living_run run child) where
  by_run : (b : Bool) → may_start (if b then Some (Ended how) else None) ≡ false
  by_run true = refl
  by_run false = refl

-- the answer of the spawn
pub told_runs : (c : ℕ) (run : Run) (told : Told) (mood : Mood) (now : ℕ) (crew : Crew) → Awaits c crew
    → HaveRuns (moved c (said_at (stimulus_told run told) c mood now crew) crew).all
told_runs c run told mood now crew await =
    subst (λ (m : Option Member). HaveRuns (moved c (said_to (stimulus_told run told) m mood now) crew).all) (sym member_is) (by_told told) where
      member_is : member_at crew c ≡ Some (record { group = await.pair.0; spec = await.pair.1; child = await.child })
      member_is =
          ap (λ (pair : Option (GroupSpec × Spec)). member_of pair (slice_get crew.all c)) await.pair_at
          ∙ ap (λ (found : Option Child). member_of (Some await.pair) found) await.at

      by_told : (t : Told) → HaveRuns (moved c (said (stimulus_told run t await.child) await.pair.1 await.child mood now) crew).all
      by_told (told_is.Started pid) =
          await.others (happens await.pair.1 await.child (Spawned run pid) mood now).child
          (spawned_run await.pair.1 await.child run pid mood now await.starting)
      by_told (told_is.NotStarted fault) =
          await.others (happens await.pair.1 await.child (Spawn_failed fault) mood now).child
          (failed_run await.pair.1 await.child fault mood now await.starting)
