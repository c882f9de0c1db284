-- The requests of a call give an order, or leave the children, the links and the calls as they are.
use Rattle.std.proofs.Common.{◌≡◌, ℕ, zero, suc, ◌++◌, ◌&&◌, List, [], ◌∷◌, Bool, true, false, Option, Some, None, if◌then◌else◌, ◌∙◌, refl, ap, sym, append-nil}
use Rattle.std.specs.Prelude.{is_some, slice_get, slice_set}
use Rattle.sv_base.specs.declared.ids.LinkId.{LinkId}
use Rattle.sv_base.specs.declared.ids.Run.{Run}
use Rattle.sv_base.specs.declared.kind.Kind.TheVariants as kind
use Rattle.sv_base.specs.declared.signal.Signal.{Signal}
use Rattle.sv_base.specs.declared.spec.GroupSpec.{GroupSpec}
use Rattle.sv_base.specs.declared.spec.Spec.{Spec}
use Rattle.sv_base.specs.declared.state.Mood.{Mood}
use Rattle.sv_base.specs.declared.state.Mood.TheVariants as mood_is
use Rattle.sv_base.specs.declared.state.State.{State}
use Rattle.sv_base.specs.declared.state.State.TheVariants.{Stopped, Starting, Running, Backoff, Stopping, Exited, Fatal, Unknown}
use Rattle.sv_child.specs.ChildTable.{row}
use Rattle.sv_child.specs.ChildTable.Stimulus.{Start as Is_to_start, Stop as Is_to_stop}
use Rattle.sv_child.specs.Moves.{Answer, is_running, nothing}
use Rattle.sv_child.specs.declared.child.Child.{Child}
use Rattle.sv_child.specs.declared.step.ChildDeed.{ChildDeed}
use Rattle.sv_child.specs.declared.step.Edge.{Edge}
use Rattle.sv_children.specs.Crew.{member_of}
use Rattle.sv_children.specs.News.{deed_of, said_to, step_of, stimulus_of}
use Rattle.sv_children.specs.Orders.{kill, kill_of}
use Rattle.sv_children.specs.declared.news.News.TheVariants as news_is
use Rattle.sv_core.specs.Events.{offers, offers_change}
use Rattle.sv_core.specs.Moves.{kills, moves}
use Rattle.sv_core.specs.Requests.{asks_clear, carries_request, clears_all, run_of, starts, starts_by, writes_run}
use Rattle.sv_core.specs.Shutdown.{begins_shutdown, in_mood}
use Rattle.sv_core.specs.Stops.{signals, stops}
use Rattle.sv_core.specs.Sweeps.{Turn}
use Rattle.sv_core.specs.World.{World, gives}
use Rattle.sv_cut_laws.proofs.Both.{as_they_are, asks_clear_both, clears_all_both, later, starts_by_both, to}
use Rattle.sv_cut_laws.proofs.Edges.{edge_loud}
use Rattle.sv_cut_laws.proofs.Handing.{speaks_still}
use Rattle.sv_cut_laws.proofs.Loud.{IsNatural, Loud, grown, is_more, plain_no_more}
use Rattle.sv_cut_laws.proofs.Past.{signals_past}
use Rattle.sv_cut_laws.proofs.Tells.{Tells, are_plain, is_plain, tells_offer}
use Rattle.sv_cut_laws.proofs.Turns.{IsLater, of_questions}
use Rattle.sv_events.specs.declared.fact.Fact.TheVariants as fact
use Rattle.sv_groups.specs.StartOrder.{pairs_of}
use Rattle.sv_methods.specs.Acts.{is_asked}
use Rattle.sv_methods.specs.Processes.{is_running_state}
use Rattle.sv_methods.specs.declared.act.Act.TheVariants as act
use Rattle.sv_methods.specs.declared.planned.Request.{Request as Wish}
use Rattle.sv_methods.specs.declared.planned.Request.TheVariants as wish
use Rattle.sv_out.specs.declared.order.Order.{Order}
use Rattle.sv_out.specs.declared.order.Order.TheVariants as order

-- the children, the links and the calls are as they were, and no order was given
pub record Same (w v : World) : Type 0 where
  pub children : v.children ≡ w.children
  pub links : v.links ≡ w.links
  pub calls : v.calls ≡ w.calls
  pub given : v.given ≡ w.given

pub same : (w : World) → Same w w
same w = record { children = refl; links = refl; calls = refl; given = refl }

-- a step does so, or gives an order that is no More
pub data Quiet (w : World) (f : (World → Turn) → Turn) : Type 0 where
  quiet : (v : World) → Same w v → ((k : World → Turn) → f k ≡ k v) → Quiet w f
  loud : Loud w f → Quiet w f

-- one order is given
pub loud_one : (w u : World) (o : Order) (f : (World → Turn) → Turn) (g : (World → Turn) → World → Turn)
    → u.given ≡ w.given ++ o ∷ [] → is_more o ≡ false
    → ((k : World → Turn) → f k ≡ g k u) → ((k : World → Turn) → IsNatural k → IsNatural (g k)) → Loud w f
loud_one w u o f g is other leads natural k goes v done =
    speaks_still w.given u.given v.given (record { first = o; rest = []; is = is; other = other })
    (grown (g k) (natural k goes) u v (sym (leads k) ∙ done))

-- what only offers events does
by_tells : (w u v : World) → Same w u → Tells u v → Quiet w (λ k. k v)
by_tells w u v kept told = by_more told.more told.is told.plain where
  by_more : (more : List Order) → v ≡ record u { pools = told.pools; sizes = told.sizes; given = u.given ++ more } → are_plain more ≡ true
      → Quiet w (λ k. k v)
  by_more [] is plain =
      quiet v (record {
        children = ap (λ (x : World). x.children) is ∙ kept.children;
        links = ap (λ (x : World). x.links) is ∙ kept.links;
        calls = ap (λ (x : World). x.calls) is ∙ kept.calls;
        given = ap (λ (x : World). x.given) is ∙ append-nil u.given ∙ kept.given;
      }) (λ k. refl)
  by_more (o ∷ os) is plain =
      loud (λ k goes x done.
      speaks_still w.given v.given x.given (record {
        first = o;
        rest = os;
        is = ap (λ (y : World). y.given) is ∙ ap (λ (given : List Order). given ++ o ∷ os) kept.given;
        other = plain_no_more o (first_plain (is_plain o) plain);
      }) (grown k goes v x done)) where
        first_plain : (b : Bool) → (b && are_plain os) ≡ true → b ≡ true
        first_plain true is = refl
        first_plain false is = absurd cc

-- ---- starts and stops

-- what the table says to a child that is to start or to stop: nothing, or an edge
pub data Stirs (child : Child) (answer : Answer) : Type 0 where
  stands : answer ≡ nothing child → Stirs child answer
  edge : (first : Edge) (more : List (Option Edge)) → answer.step.edges ≡ Some first ∷ more → Stirs child answer

start_row : (state : State) (spec : Spec) (child : Child) (mood : Mood) (now : ℕ) → Stirs child (row Is_to_start state spec child mood now)
start_row Stopped spec child mood now = edge _ _ refl
start_row Starting spec child mood now = stands refl
start_row Running spec child mood now = stands refl
start_row Backoff spec child mood now = stands refl
start_row Stopping spec child mood now = stands refl
start_row Exited spec child mood now = edge _ _ refl
start_row Fatal spec child mood now = edge _ _ refl
start_row Unknown spec child mood now = stands refl

stop_row : (state : State) (spec : Spec) (child : Child) (mood : Mood) (now : ℕ) → Stirs child (row Is_to_stop state spec child mood now)
stop_row Stopped spec child mood now = stands refl
stop_row Starting spec child mood now = edge _ _ refl
stop_row Running spec child mood now = edge _ _ refl
stop_row Backoff spec child mood now = edge _ _ refl
stop_row Stopping spec child mood now = stands refl
stop_row Exited spec child mood now = stands refl
stop_row Fatal spec child mood now = stands refl
stop_row Unknown spec child mood now = stands refl

set_there : (xs : List Child) (i : ℕ) (x : Child) → slice_get xs i ≡ Some x → slice_set xs i x ≡ xs
set_there [] i x at = refl
set_there (y ∷ ys) zero x at = ap (λ (z : Child). z ∷ ys) (cc)
set_there (y ∷ ys) (suc i) x at = ap (λ (zs : List Child). y ∷ zs) (set_there ys i x at)

-- a child that stands is left as it is
stood : (c : ℕ) (w : World) (child : Child) (answer : Answer) → slice_get w.children.all c ≡ Some child → answer ≡ nothing child
    → moves None c (Some answer) w ≡ w
stood c w child answer at is =
    ap (λ (a : Answer). moves None c (Some a) w) is
    ∙ ap (λ (cs : List Child). record w { children = record w.children { all = cs } }) (set_there w.children.all c child at)

deed_stood : (child : Child) (answer : Answer) → answer ≡ nothing child → answer.step.deed ≡ None
deed_stood child answer is = ap (λ (a : Answer). a.step.deed) is

-- what is done with the answer, where a child that stands is left alone
module _ (c : ℕ) (w : World) (rest : Option ChildDeed → World → (World → Turn) → Turn)
    (natural : (deed : Option ChildDeed) (k : World → Turn) → IsNatural k → IsNatural (λ x. rest deed x k))
    (nothing_done : (x : World) (k : World → Turn) → rest None x k ≡ k x) where
  stirred : (pair : GroupSpec × Spec) (child : Child) (answer : Answer) → slice_get (pairs_of w.children.roster) c ≡ Some pair
      → slice_get w.children.all c ≡ Some child → Stirs child answer
      → Quiet w (λ k. rest answer.step.deed (moves None c (Some answer) w) k)
  stirred pair child answer pair_at at (stands is) =
      quiet w (same w)
      (λ k. ap (λ (deed : Option ChildDeed). rest deed (moves None c (Some answer) w) k) (deed_stood child answer is)
      ∙ nothing_done (moves None c (Some answer) w) k ∙ ap (λ (x : World). k x) (stood c w child answer at is))
  stirred pair child answer pair_at at (edge first more edges) =
      loud (edge_loud c w pair answer first more (λ x k. rest answer.step.deed x k) (natural answer.step.deed) pair_at edges)

starts_natural : (link : LinkId) (c : ℕ) (deed : Option ChildDeed) (k : World → Turn) → IsNatural k → IsNatural (λ x. starts_by link deed c x k)
starts_natural link c deed k goes a x = starts_by_both a (IsLater a) (of_questions a) link deed c x k (goes a)

signals_natural : (c : ℕ) (deed : Option ChildDeed) (k : World → Turn) → IsNatural k → IsNatural (λ x. k (signals deed c x))
signals_natural c deed k goes a x =
    to a (IsLater a) (of_questions a) k (signals deed c x) (signals deed c (later a x)) (goes a) (signals_past a as_they_are deed c x)

started : (link : LinkId) (c : ℕ) (w : World) → Quiet w (starts link c w)
started link c w = by_member (slice_get (pairs_of w.children.roster) c) (slice_get w.children.all c) refl refl where
  by_member : (pair : Option (GroupSpec × Spec)) (found : Option Child) → slice_get (pairs_of w.children.roster) c ≡ pair
      → slice_get w.children.all c ≡ found
      → let answer = said_to (stimulus_of news_is.Start) (member_of pair found) w.course.mood w.moment in
      Quiet w (λ k. starts_by link (deed_of (step_of answer)) c (moves None c answer w) k)
  by_member None found pair_at at = quiet w (same w) (λ k. refl)
  by_member (Some pair) None pair_at at = quiet w (same w) (λ k. refl)
  by_member (Some pair) (Some child) pair_at at =
      stirred c w (λ deed x k. starts_by link deed c x k) (starts_natural link c) (λ x k. refl) pair child
      (row Is_to_start child.state pair.1 child w.course.mood w.moment) pair_at at
      (start_row child.state pair.1 child w.course.mood w.moment)

stopped : (c : ℕ) (w : World) → Quiet w (λ k. k (stops c w))
stopped c w = by_member (slice_get (pairs_of w.children.roster) c) (slice_get w.children.all c) refl refl where
  by_member : (pair : Option (GroupSpec × Spec)) (found : Option Child) → slice_get (pairs_of w.children.roster) c ≡ pair
      → slice_get w.children.all c ≡ found
      → let answer = said_to (stimulus_of news_is.Stop) (member_of pair found) w.course.mood w.moment in
      Quiet w (λ k. k (signals (deed_of (step_of answer)) c (moves None c answer w)))
  by_member None found pair_at at = quiet w (same w) (λ k. refl)
  by_member (Some pair) None pair_at at = quiet w (same w) (λ k. refl)
  by_member (Some pair) (Some child) pair_at at =
      stirred c w (λ deed x k. k (signals deed c x)) (signals_natural c) (λ x k. refl) pair child
      (row Is_to_stop child.state pair.1 child w.course.mood w.moment) pair_at at
      (stop_row child.state pair.1 child w.course.mood w.moment)

-- ---- all requests

killed : (c : ℕ) (signal : Signal) (group : Bool) (w : World) → Quiet w (λ k. k (kills c signal group w))
killed c signal group w = by_child (slice_get w.children.all c) where
  by_run : (run : Option Run) → Quiet w (λ k. k (record w { given = w.given ++ kill run signal group }))
  by_run None =
      quiet (record w { given = w.given ++ [] })
      (record { children = refl; links = refl; calls = refl; given = append-nil w.given }) (λ k. refl)
  by_run (Some run) =
      loud (loud_one w (record w { given = w.given ++ order.Kill run signal group ∷ [] }) (order.Kill run signal group)
      (λ k. k (record w { given = w.given ++ order.Kill run signal group ∷ [] })) (λ k x. k x) refl refl (λ k. refl) (λ k goes. goes))

  by_child : (child : Option Child) → Quiet w (λ k. k (record w { given = w.given ++ kill_of child signal group }))
  by_child None = by_run None
  by_child (Some child) = by_run child.run

written : (run : Option Run) (bytes : List ℕ) (w : World) → Quiet w (λ k. k (writes_run run bytes w))
written None bytes w = quiet w (same w) (λ k. refl)
written (Some run) bytes w =
    let o = order.Stdin run bytes in
    loud (loud_one w (gives o w) o (λ k. k (gives o w)) (λ k x. k x) refl refl (λ k. refl) (λ k goes. goes))

cleared : (link : LinkId) (files : List (List ℕ)) (w : World) → Quiet w (clears_all link files w)
cleared link [] w = quiet w (same w) (λ k. refl)
cleared link (file ∷ files) w =
    let o = order.ClearFile file in
    loud (loud_one w (gives o w) o (clears_all link (file ∷ files) w) (λ k x. asks_clear link file x (λ v. clears_all link files v k)) refl refl (λ k. refl)
    (λ k goes a x. asks_clear_both a (IsLater a) (of_questions a) link file x (λ v. clears_all link files v k)
    (λ v. clears_all_both a (IsLater a) (of_questions a) link files v k (goes a))))

shut : (w : World) → Quiet w (λ k. k (begins_shutdown w))
shut w = by_mood (is_running w.course.mood) where
  ending : World
  ending = in_mood mood_is.Shutdown w

  by_mood : (b : Bool) → Quiet w (λ k. k (if b then offers_change kind.SupervisorStateChangeStopping (in_mood mood_is.Shutdown w) else w))
  by_mood true =
      by_tells w (in_mood mood_is.Shutdown w) (offers_change kind.SupervisorStateChangeStopping (in_mood mood_is.Shutdown w))
      (record { children = refl; links = refl; calls = refl; given = refl })
      (tells_offer kind.SupervisorStateChangeStopping fact.Supervisor (in_mood mood_is.Shutdown w))
  by_mood false = quiet w (same w) (λ k. refl)

pub carried : (link : LinkId) (what : Wish) (w : World) → Quiet w (carries_request link what w)
carried link (wish.Start child) w = started link child.0 w
carried link (wish.Stop child) w = stopped child.0 w
carried link (wish.Kill child signal) w = killed child.0 signal false w
carried link (wish.Stdin child bytes) w = written (run_of (slice_get w.children.all child.0)) bytes w
carried link (wish.Remote sort bytes) w =
    by_tells w w (offers kind.RemoteCommunication (fact.Remote sort bytes) w) (same w)
    (tells_offer kind.RemoteCommunication (fact.Remote sort bytes) w)
carried link (wish.Clear files) w = cleared link files w
carried link wish.Shutdown w = shut w

-- ---- a stop that is asked for

stop_edge : (state : State) (spec : Spec) (child : Child) (mood : Mood) (now : ℕ) → is_running_state state ≡ true
    → (first : Edge) × ((more : List (Option Edge)) × ((row Is_to_stop state spec child mood now).step.edges ≡ Some first ∷ more))
stop_edge Stopped spec child mood now is = absurd cc
stop_edge Starting spec child mood now is = (_, (_, refl))
stop_edge Running spec child mood now is = (_, (_, refl))
stop_edge Backoff spec child mood now is = (_, (_, refl))
stop_edge Stopping spec child mood now is = absurd cc
stop_edge Exited spec child mood now is = absurd cc
stop_edge Fatal spec child mood now is = absurd cc
stop_edge Unknown spec child mood now is = absurd cc

not_so : false ≡ true → ⊥
not_so is = absurd cc

-- a child that can be stopped reports it
pub stop_loud : (c : ℕ) (w : World) → is_some (slice_get (pairs_of w.children.roster) c) ≡ true → is_asked act.Stop (slice_get w.children.all c) ≡ true → Loud w (λ k. k (stops c w))
stop_loud c w processes asked =
    by_member (slice_get (pairs_of w.children.roster) c) (slice_get w.children.all c) refl refl asked where
      by_member : (pair : Option (GroupSpec × Spec)) (found : Option Child) → slice_get (pairs_of w.children.roster) c ≡ pair
          → slice_get w.children.all c ≡ found → is_asked act.Stop found ≡ true
          → let answer = said_to (stimulus_of news_is.Stop) (member_of pair found) w.course.mood w.moment in
          Loud w (λ k. k (signals (deed_of (step_of answer)) c (moves None c answer w)))
      by_member pair None pair_at at asked = absurd cc
      by_member None (Some child) pair_at at asked =
          absurd (not_so (sym (ap (λ (p : Option (GroupSpec × Spec)). is_some p) pair_at) ∙ processes))
      by_member (Some pair) (Some child) pair_at at asked =
          let answer = row Is_to_stop child.state pair.1 child w.course.mood w.moment in
          let takes = stop_edge child.state pair.1 child w.course.mood w.moment asked in
          edge_loud c w pair answer takes.0 takes.1.0 (λ x k. k (signals answer.step.deed c x)) (signals_natural c answer.step.deed) pair_at takes.1.1
