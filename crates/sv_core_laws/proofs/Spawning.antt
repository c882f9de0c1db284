-- In a turn each report that a process is STARTING has its Spawn order, while a number is left for its run.
use Rattle.std.proofs.Common.{arith, ◌≡◌, ◌≤◌, ◌<◌, ◌+◌, ℕ, List, [], ◌∷◌, ◌++◌, Bool, true, false, ◌&&◌, Option, Some, None, append-nil, append_assoc, filter, length, length-append, refl, subst, sym, ap, ◌∙◌, if◌then◌else◌}
use Rattle.std.specs.Prelude.{codes, drop, nat_le, slice_get}
use Rattle.std.specs.Str.{bytes_eq}
use Rattle.std.proofs.lemmas.Option.{same_Some}
use Rattle.std.specs.List.{flat_map}
use Rattle.std.proofs.lemmas.Bool.{false≢true, le-leb}
use Rattle.std.proofs.Math.Seq.{drop-append_seam}
use Rattle.sv_base.specs.declared.config.Config.{Config}
use Rattle.sv_base.specs.declared.config.Host.{Host}
use Rattle.sv_base.specs.declared.ids.LinkId.{LinkId}
use Rattle.sv_base.specs.declared.ids.Run.{Run}
use Rattle.sv_base.specs.declared.signal.Signal.{Signal}
use Rattle.sv_base.specs.declared.spec.GroupSpec.{GroupSpec}
use Rattle.sv_base.specs.declared.spec.Spec.{Spec}
use Rattle.sv_base.specs.declared.state.How.{How}
use Rattle.sv_base.specs.declared.state.Mood.{Mood}
use Rattle.sv_base.specs.declared.state.State.{State}
use Rattle.sv_base.specs.declared.state.State.TheVariants.{Stopped, Starting, Running, Backoff, Stopping, Exited, Fatal}
use Rattle.sv_child.specs.ChildTable.{Stimulus, happens, row}
use Rattle.sv_child.specs.ChildTable.Stimulus.{Start, Stop, Spawned, Spawn_failed, Ended, Time}
use Rattle.sv_child.specs.Diagram.{IsWalk}
use Rattle.sv_child.specs.Moves.{Answer, backs_off, entered, exited, exited_too_quickly, goes, has_tired, is_first_start, is_killed, is_reached, is_running, leads_over, nothing, restarts, starts}
use Rattle.sv_child.specs.declared.child.Child.{Child}
use Rattle.sv_child.specs.declared.step.ChildDeed.{ChildDeed}
use Rattle.sv_child.specs.declared.step.ChildDeed.TheVariants.{Spawn, Kill}
use Rattle.sv_children.proofs.Walks.{same_bytes}
use Rattle.sv_children.specs.Crew.{Crew, member_of}
use Rattle.sv_children.specs.News.{deed_of, said, said_to, step_of, stimulus_of}
use Rattle.sv_children.specs.Orders.{kill, kill_at, kill_of, reports, reports_at, reports_of, spawn, spawn_at, spawn_of}
use Rattle.sv_children.specs.Reported.{edges_told}
use Rattle.sv_children.specs.declared.news.News.{News}
use Rattle.sv_children.specs.declared.news.News.TheVariants as news_is
use Rattle.sv_core.specs.Deeds.{after, deeds}
use Rattle.sv_core.specs.Events.{offers}
use Rattle.sv_core.specs.HandingOut.{sends}
use Rattle.sv_core.specs.Listening.{gives_back, id_of}
use Rattle.sv_core.specs.Logging.{logs, notes_if}
use Rattle.sv_core.specs.MachineState.{now, opening}
use Rattle.sv_core.specs.Moves.{changed, comes, fails, kills, moves, orders_spawn, says}
use Rattle.sv_core.specs.Requests.{start_fails}
use Rattle.sv_core.specs.World.{World}
use Rattle.sv_core.specs.declared.part.Reply.TheVariants.{Refused}
use Rattle.sv_core_laws.proofs.Answering.{Answering, NeverStarts, kept_answered, may_start}
use Rattle.sv_core_laws.proofs.LinkOrders.{each_link_order}
use Rattle.sv_core_laws.proofs.Moving.{acts, met, spawn_begun_as, start_acts, start_met}
use Rattle.sv_core_laws.proofs.PlainSteps.{Replying, kept_answers, kept_ends, kept_replies}
use Rattle.sv_core_laws.proofs.Reported.{Adds, all_given, logged, noted, offered, returned}
use Rattle.sv_core_laws.proofs.Silent.{Silent, added_log, is_apart, moved, no_hand, no_kill, noted as noted_silently, offered as offered_silently, returned as returned_silently}
use Rattle.sv_core_laws.proofs.Steps.{Steps, does_with_link}
use Rattle.sv_core_laws.proofs.Told.{IsSilent, silent_hand, silent_none}
use Rattle.sv_core_laws.proofs.ToldEdges.{told_edges}
use Rattle.sv_core_laws.proofs.Walk.{kept_after}
use Rattle.sv_core_laws.specs.CallHistory.{done as call_done}
use Rattle.sv_core_laws.specs.LinkHistory.{LinkEntry, entry_orders}
use Rattle.sv_core_laws.specs.Starts.{EachStartIsSpawned, spawn_told, spawns_told, starting_told, starts_told}
use Rattle.sv_children.specs.EdgeFacts.{pid_at}
use Rattle.sv_groups.specs.StartOrder.{pairs_of}
use Rattle.sv_children.specs.Lines.EdgeLines.{how_of, killing_at}
use Rattle.sv_children.specs.declared.lines.line.Line.{Line}
use Rattle.sv_links.specs.LinkBook.{LinkRecord}
use Rattle.sv_out.specs.declared.input.Input.{Input}
use Rattle.sv_out.specs.declared.order.Order.{Order}
use Rattle.sv_out.specs.declared.order.Order.TheVariants as order
use Rattle.sv_pool.specs.Listeners.{hand_orders}

-- processes, each by the names of its group and of itself
abbrev Names : Type 0
Names = List (List ℕ × List ℕ)

-- ---- the rows of the table

-- a process is named where its spawn is to be done
abbrev spawn_names : Option ChildDeed → List ℕ → List ℕ → Names
spawn_names None group name = []
spawn_names (Some Spawn) group name = (group, name) ∷ []
spawn_names (Some (Kill signal all)) group name = []

-- the edges of an answer lead to STARTING exactly where its deed is a spawn
abbrev SpawnsIt : Answer → Type 0
SpawnsIt answer = (group name : List ℕ) → starts_told (reports group name answer.step.edges) ≡ spawn_names answer.step.deed group name

spawns_if : (b : Bool) (x y : Answer) → SpawnsIt x → SpawnsIt y → SpawnsIt (if b then x else y)
spawns_if true x y one other = one
spawns_if false x y one other = other

row_spawns : (stimulus : Stimulus) (state : State) (spec : Spec) (child : Child) (mood : Mood) (moment : ℕ)
    → SpawnsIt (row stimulus state spec child mood moment)
row_spawns Start Stopped spec child mood moment = λ group name. refl
row_spawns Start Exited spec child mood moment = λ group name. refl
row_spawns Start Fatal spec child mood moment = λ group name. refl
row_spawns Stop Starting spec child mood moment = λ group name. refl
row_spawns Stop Running spec child mood moment = λ group name. refl
row_spawns Stop Backoff spec child mood moment = λ group name. refl
row_spawns (Spawned run pid) Starting spec child mood moment = λ group name. refl
row_spawns (Spawn_failed fault) Starting spec child mood moment = λ group name. refl
row_spawns (Ended how) Starting spec child mood moment =
    spawns_if (is_reached child.deadline moment) (record {
      child = entered (entered (exited child how moment) Running) Exited;
      step = leads_over Starting Running Exited;
    }) (backs_off (exited child how moment) exited_too_quickly moment) (λ group name. refl) (λ group name. refl)
row_spawns (Ended how) Running spec child mood moment = λ group name. refl
row_spawns (Ended how) Stopping spec child mood moment = λ group name. refl
row_spawns Time Stopped spec child mood moment =
    spawns_if (is_first_start spec child && is_running mood) (starts Stopped child moment) (nothing child) (λ group name. refl) (λ group name. refl)
row_spawns Time Starting spec child mood moment =
    spawns_if (is_reached child.deadline moment) (goes Starting child Running) (nothing child) (λ group name. refl) (λ group name. refl)
row_spawns Time Backoff spec child mood moment =
    spawns_if (has_tired spec child) (goes Backoff child Fatal)
    (if is_reached child.deadline moment && is_running mood then starts Backoff child moment else nothing child) (λ group name. refl)
    (spawns_if (is_reached child.deadline moment && is_running mood) (starts Backoff child moment) (nothing child) (λ group name. refl)
    (λ group name. refl))
row_spawns Time Stopping spec child mood moment =
    spawns_if (is_reached child.deadline moment) (is_killed spec child moment) (nothing child) (λ group name. refl) (λ group name. refl)
row_spawns Time Exited spec child mood moment =
    spawns_if (is_running mood && restarts spec child) (starts Exited child moment) (nothing child) (λ group name. refl) (λ group name. refl)
row_spawns stimulus state spec child mood moment = λ group name. refl

-- what isn't a start, and not the time, asks for no spawn
abbrev AsksNone : Answer → Type 0
AsksNone answer = (group name : List ℕ) → spawn_names answer.step.deed group name ≡ []

none_if : (b : Bool) (x y : Answer) → AsksNone x → AsksNone y → AsksNone (if b then x else y)
none_if true x y one other = one
none_if false x y one other = other

row_asks_none : (stimulus : Stimulus) (state : State) (spec : Spec) (child : Child) (mood : Mood) (moment : ℕ) → may_start (Some stimulus) ≡ false
    → AsksNone (row stimulus state spec child mood moment)
row_asks_none Start state spec child mood moment never = cc
row_asks_none Time state spec child mood moment never = cc
row_asks_none Stop Starting spec child mood moment never = λ group name. refl
row_asks_none Stop Running spec child mood moment never = λ group name. refl
row_asks_none Stop Backoff spec child mood moment never = λ group name. refl
row_asks_none (Spawned run pid) Starting spec child mood moment never = λ group name. refl
row_asks_none (Spawn_failed fault) Starting spec child mood moment never = λ group name. refl
row_asks_none (Ended how) Starting spec child mood moment never =
    none_if (is_reached child.deadline moment) (record {
      child = entered (entered (exited child how moment) Running) Exited;
      step = leads_over Starting Running Exited;
    }) (backs_off (exited child how moment) exited_too_quickly moment) (λ group name. refl) (λ group name. refl)
row_asks_none (Ended how) Running spec child mood moment never = λ group name. refl
row_asks_none (Ended how) Stopping spec child mood moment never = λ group name. refl
row_asks_none stimulus state spec child mood moment never = λ group name. refl

-- ---- what orders tell

told_on : (f : Order → Names) (one other : List Order) → flat_map f (one ++ other) ≡ flat_map f one ++ flat_map f other
told_on f [] other = refl
told_on f (o ∷ one) other =
    ap (λ (names : Names). f o ++ names) (told_on f one other) ∙ sym (append_assoc (f o) (flat_map f one) (flat_map f other))

abbrev is_up : State → Bool
is_up Running = true
is_up state = false

-- orders that report no child tell of no start
no_starts : (orders : List Order) → IsSilent orders → starts_told orders ≡ []
no_starts [] silent = refl
no_starts (order.State group name from to ∷ orders) silent = absurd (false≢true (ap is_up (sym (reported Stopped).0 ∙ (reported Running).0))) where
  reported : (state : State)
      → IsWalk state (Some (record { from = from; to = to }) ∷ edges_told group name orders) state
  reported state =
      subst (λ (b : Bool). IsWalk state ((if b then Some (record { from = from; to = to }) else None) ∷ edges_told group name orders) state)
      (ap (λ (b : Bool). b && bytes_eq name name) (same_bytes group) ∙ same_bytes name) (silent group name state)
no_starts (order.Spawn spawning ∷ orders) silent = no_starts orders silent
no_starts (order.Kill run signal all ∷ orders) silent = no_starts orders silent
no_starts (order.Stdin run bytes ∷ orders) silent = no_starts orders silent
no_starts (order.Append name bytes ∷ orders) silent = no_starts orders silent
no_starts (order.Shift from to ∷ orders) silent = no_starts orders silent
no_starts (order.Fresh name ∷ orders) silent = no_starts orders silent
no_starts (order.ReadFile name start length ∷ orders) silent = no_starts orders silent
no_starts (order.ClearFile name ∷ orders) silent = no_starts orders silent
no_starts (order.Names pattern ∷ orders) silent = no_starts orders silent
no_starts (order.Size name ∷ orders) silent = no_starts orders silent
no_starts (order.Dropped pool serial poolserial ∷ orders) silent = no_starts orders silent
no_starts (order.Send link bytes ∷ orders) silent = no_starts orders silent
no_starts (order.More link ∷ orders) silent = no_starts orders silent
no_starts (order.Close link ∷ orders) silent = no_starts orders silent
no_starts (order.Halt ∷ orders) silent = no_starts orders silent

no_spawns : (orders : List Order) → filter is_apart orders ≡ [] → spawns_told orders ≡ []
no_spawns [] none = refl
no_spawns (order.Spawn spawning ∷ orders) none = cc
no_spawns (order.Send link bytes ∷ orders) none = cc
no_spawns (order.More link ∷ orders) none = cc
no_spawns (order.Close link ∷ orders) none = cc
no_spawns (order.State group name from to ∷ orders) none = no_spawns orders none
no_spawns (order.Kill run signal all ∷ orders) none = no_spawns orders none
no_spawns (order.Stdin run bytes ∷ orders) none = no_spawns orders none
no_spawns (order.Append name bytes ∷ orders) none = no_spawns orders none
no_spawns (order.Shift from to ∷ orders) none = no_spawns orders none
no_spawns (order.Fresh name ∷ orders) none = no_spawns orders none
no_spawns (order.ReadFile name start length ∷ orders) none = no_spawns orders none
no_spawns (order.ClearFile name ∷ orders) none = no_spawns orders none
no_spawns (order.Names pattern ∷ orders) none = no_spawns orders none
no_spawns (order.Size name ∷ orders) none = no_spawns orders none
no_spawns (order.Dropped pool serial poolserial ∷ orders) none = no_spawns orders none
no_spawns (order.Halt ∷ orders) none = no_spawns orders none

-- orders that were added are the same, however they were found
same_rest : (given one other : List Order) → given ++ one ≡ given ++ other → one ≡ other
same_rest given one other same =
    sym (drop-append_seam given one) ∙ ap (drop (length given)) same ∙ drop-append_seam given other

-- ---- from one world to a later one

-- these processes were reported to be STARTING, and these spawned
record Tells (w v : World) (started spawned : Names) : Type 0 where
  more : List Order
  added : v.given ≡ w.given ++ more
  starts_are : starts_told more ≡ started
  spawns_are : spawns_told more ≡ spawned
  run : v.next_run ≡ w.next_run + length spawned

tells_on : (u v w : World) (s1 p1 s2 p2 : Names) → Tells u v s1 p1 → Tells v w s2 p2 → Tells u w (s1 ++ s2) (p1 ++ p2)
tells_on u v w s1 p1 s2 p2 a b = record {
  more = a.more ++ b.more;
  added = b.added ∙ ap (λ (given : List Order). given ++ b.more) a.added ∙ append_assoc u.given a.more b.more;
  starts_are = told_on starting_told a.more b.more ∙ ap (λ (names : Names). names ++ starts_told b.more) a.starts_are
      ∙ ap (λ (names : Names). s1 ++ names) b.starts_are;
  spawns_are = told_on spawn_told a.more b.more ∙ ap (λ (names : Names). names ++ spawns_told b.more) a.spawns_are
      ∙ ap (λ (names : Names). p1 ++ names) b.spawns_are;
  run = b.run ∙ ap (λ (n : ℕ). n + length p2) a.run ∙ sum u.next_run (length p1) (length p2)
      ∙ ap (λ (n : ℕ). u.next_run + n) (sym (length-append p1 p2));
} where
  sum : (a b c : ℕ) → (a + b) + c ≡ a + (b + c)
  sum a b c = omega arith

-- while a number is left for a run, these are the same
record Spawns (w v : World) : Type 0 where
  started : Names
  spawned : Names
  tells : Tells w v started spawned
  each : v.next_run ≤ 4294967295 → started ≡ spawned

follow : (u v w : World) → Spawns u v → Spawns v w → Spawns u w
follow u v w a b = record {
  started = a.started ++ b.started;
  spawned = a.spawned ++ b.spawned;
  tells = tells_on u v w a.started a.spawned b.started b.spawned a.tells b.tells;
  each = λ left.
      ap (λ (names : Names). names ++ b.started) (a.each (before left))
      ∙ ap (λ (names : Names). a.spawned ++ names) (b.each left);
} where
  before : w.next_run ≤ 4294967295 → v.next_run ≤ 4294967295
  before left = smaller w.next_run v.next_run (length b.spawned) b.tells.run left where
    smaller : (last mid more : ℕ) → last ≡ mid + more → last ≤ 4294967295 → mid ≤ 4294967295
    smaller last mid more is left = omega arith

-- neither is told
none_told : (w v : World) → Tells w v [] [] → Spawns w v
none_told w v tells = record { started = []; spawned = []; tells = tells; each = λ left. refl }

orders_told : (w v : World) (more : List Order) → v.given ≡ w.given ++ more → starts_told more ≡ [] → spawns_told more ≡ [] → v.next_run ≡ w.next_run
    → Tells w v [] []
orders_told w v more added starts spawns run =
    record { more = more; added = added; starts_are = starts; spawns_are = spawns; run = run ∙ more_none w.next_run } where
      more_none : (n : ℕ) → n ≡ n + 0
      more_none n = omega arith

quiet : (w v : World) → v.given ≡ w.given → v.next_run ≡ w.next_run → Spawns w v
quiet w v given run = none_told w v (orders_told w v [] (given ∙ sym (append-nil w.given)) refl refl run)

some_told : (w v : World) (more : List Order) → v.given ≡ w.given ++ more → starts_told more ≡ [] → spawns_told more ≡ [] → v.next_run ≡ w.next_run
    → Spawns w v
some_told w v more added starts spawns run = none_told w v (orders_told w v more added starts spawns run)

-- neither a child is reported, nor a process spawned
both_silent : (w v : World) → Adds w v → Silent w v → Tells w v [] []
both_silent w v a s =
    orders_told w v a.more a.added (no_starts a.more a.silent)
    (ap spawns_told (same_rest w.given a.more s.more (sym a.added ∙ s.added)) ∙ no_spawns s.more s.none) s.run

noted_so : (line : Option Line) (w : World) → Tells w (notes_if line w) [] []
noted_so line w = both_silent w (notes_if line w) (noted line w) (noted_silently line w)

killed_told : (w : World) (c : ℕ) (signal : Signal) (all : Bool) → IsSilent (kill_at w.children c signal all)
killed_told w c signal all = by_child (slice_get w.children.all c) where
  by_run : (run : Option Run) → IsSilent (kill run signal all)
  by_run None = silent_none
  by_run (Some run) = λ group name state. refl

  by_child : (child : Option Child) → IsSilent (kill_of child signal all)
  by_child None = silent_none
  by_child (Some child) = by_run child.run

killed_so : (c : ℕ) (signal : Signal) (all : Bool) (w : World) → Spawns w (kills c signal all w)
killed_so c signal all w =
    some_told w (kills c signal all w) (kill_at w.children c signal all) refl
    (no_starts (kill_at w.children c signal all) (killed_told w c signal all))
    (no_spawns (kill_at w.children c signal all) (no_kill w.children c signal all)) refl

-- ---- a child takes its step

-- what is known of an answer
record Known (stimulus : Child → Option Stimulus) (crew : Crew) (c : ℕ) (answer : Answer) : Type 0 where
  pair : GroupSpec × Spec
  at : slice_get (pairs_of crew.roster) c ≡ Some pair
  spawns : SpawnsIt answer
  never : NeverStarts stimulus → AsksNone answer

known_by : (pair : Option (GroupSpec × Spec)) (child : Option Child) (stimulus : Child → Option Stimulus) (mood : Mood) (moment : ℕ)
    (crew : Crew) (c : ℕ) (answer : Answer)
    → slice_get (pairs_of crew.roster) c ≡ pair
    → said_to stimulus (member_of pair child) mood moment ≡ Some answer → Known stimulus crew c answer
known_by None child stimulus mood moment crew c answer at is = cc
known_by (Some pair) None stimulus mood moment crew c answer at is = cc
known_by (Some pair) (Some child) stimulus mood moment crew c answer at is = by_stimulus (stimulus child) refl is where
  by_stimulus : (s : Option Stimulus) → stimulus child ≡ s → said s pair.1 child mood moment ≡ Some answer → Known stimulus crew c answer
  by_stimulus None same is = cc
  by_stimulus (Some s) same is =
      let answered : happens pair.1 child s mood moment ≡ answer = same_Some (happens pair.1 child s mood moment) answer is in
      record {
        pair = pair;
        at = at;
        spawns = subst SpawnsIt answered (row_spawns s child.state pair.1 child mood moment);
        never = λ nothing_starts.
            subst AsksNone answered
            (row_asks_none s child.state pair.1 child mood moment (ap may_start (sym same) ∙ nothing_starts child));
      }

known : (stimulus : Child → Option Stimulus) (c : ℕ) (w : World) (answer : Answer) → says stimulus c w ≡ Some answer → Known stimulus w.children c answer
known stimulus c w answer is =
    known_by (slice_get (pairs_of w.children.roster) c) (slice_get w.children.all c) stimulus w.course.mood w.moment w.children c answer refl is

-- its step reports a start where it asks for a spawn; the roster is as it was
record Stepped (w v : World) (started : Names) : Type 0 where
  tells : Tells w v started []
  kept : v.children.roster ≡ w.children.roster

stepped : (how : Option How) (stimulus : Child → Option Stimulus) (c : ℕ) (w : World) (answer : Answer) (k : Known stimulus w.children c answer)
    → Stepped w (moves how c (Some answer) w) (spawn_names answer.step.deed k.pair.0.name k.pair.1.name)
stepped how stimulus c w answer k =
    let later = changed c (Some answer) w in
    let v = moves how c (Some answer) w in
    let t = told_edges (Unit {0}) (List ℕ × List ℕ) (λ i. starts_told) (λ i. told_on starting_told) (λ i. no_starts) how c
    (pid_at w.children c) answer.step.edges later in
    let s : Silent w v = moved how c (Some answer) w in
    let reported : starts_told (reports_at w.children c answer.step.edges) ≡ spawn_names answer.step.deed k.pair.0.name k.pair.1.name =
    ap (λ (pair : Option (GroupSpec × Spec)). starts_told (reports_of pair answer.step.edges)) k.at
    ∙ k.spawns k.pair.0.name k.pair.1.name in
    record {
      tells = record {
        more = t.more;
        added = t.added;
        starts_are = t.same tt ∙ reported;
        spawns_are = ap spawns_told (same_rest w.given t.more s.more (sym t.added ∙ s.added)) ∙ no_spawns s.more s.none;
        run = s.run ∙ more_none w.next_run;
      };
      kept = ap (λ (crew : Crew). crew.roster) t.crew;
    } where
      more_none : (n : ℕ) → n ≡ n + 0
      more_none n = omega arith

came_so : (how : Option How) (stimulus : Child → Option Stimulus) (c : ℕ) (w : World) → NeverStarts stimulus → Spawns w (comes how stimulus c w)
came_so how stimulus c w never = by_answer (says stimulus c w) refl where
  by_answer : (answer : Option Answer) → says stimulus c w ≡ answer → Spawns w (moves how c answer w)
  by_answer None is = quiet w w refl refl
  by_answer (Some answer) is =
      let k = known stimulus c w answer is in
      let v = moves how c (Some answer) w in
      let s : Stepped w v (spawn_names answer.step.deed k.pair.0.name k.pair.1.name) = stepped how stimulus c w answer k in
      none_told w v (subst (λ (names : Names). Tells w v names []) (k.never never k.pair.0.name k.pair.1.name) s.tells)

answering : Answering Spawns
answering = record {
  same = λ w. quiet w w refl refl;
  follow = follow;
  came = came_so;
  booked = λ runs w. quiet w (record w { runs = runs }) refl refl;
  logged = λ log piece w. none_told w (logs log piece w) (both_silent w (logs log piece w) (logged log piece w) (added_log log piece w));
  written = λ streams w. quiet w (record w { streams = streams }) refl refl;
}

-- ---- what is done after it

-- a spawn is ordered, or no number is left for its run
begun_so : (w u : World) (c : ℕ) (pair : GroupSpec × Spec) (failing : World → World)
    → ((v : World) → Spawns v (failing v))
    → slice_get (pairs_of u.children.roster) c ≡ Some pair
    → Tells w u ((pair.0.name, pair.1.name) ∷ []) []
    → Spawns w (if nat_le u.next_run 4294967295 then spawn_begun_as (spawn_at u.children c u.next_run) u else failing u)
begun_so w u c pair failing kept at told = by_number (nat_le u.next_run 4294967295) refl where
  names : Names
  names = (pair.0.name, pair.1.name) ∷ []

  ordered : Tells u (orders_spawn (spawn pair.0.name pair.1 u.next_run) u) [] names
  ordered = record {
    more = order.Spawn (spawn pair.0.name pair.1 u.next_run) ∷ [];
    added = refl;
    starts_are = refl;
    spawns_are = refl;
    run = refl;
  }

  by_number : (b : Bool) → nat_le u.next_run 4294967295 ≡ b
      → Spawns w (if b then spawn_begun_as (spawn_at u.children c u.next_run) u else failing u)
  by_number true left =
      subst (λ (found : Option (GroupSpec × Spec)). Spawns w (spawn_begun_as (spawn_of found u.next_run) u)) (sym at) (record {
        started = names;
        spawned = names;
        tells = tells_on w u (orders_spawn (spawn pair.0.name pair.1 u.next_run) u) names [] [] names told ordered;
        each = λ within. refl;
      })
  by_number false left =
      let f = kept u in record {
        started = names ++ f.started;
        spawned = f.spawned;
        tells = tells_on w u (failing u) names [] f.started f.spawned told f.tells;
        each = λ within. absurd (none_left (failing u).next_run (length f.spawned) f.tells.run within left);
      } where
        none_left : (last more : ℕ) → last ≡ u.next_run + more → last ≤ 4294967295 → nat_le u.next_run 4294967295 ≡ false → ⊥
        none_left last more is within left = false≢true (sym left ∙ le-leb u.next_run 4294967295 (omega arith))

fails_so : (c : ℕ) (w : World) → Spawns w (fails c w)
fails_so c w = kept_answered Spawns answering c (record { 0 = 0 }) (Refused (codes "failed")) w

start_fails_so : (link : LinkId) (c : ℕ) (w : World) → Spawns w (start_fails link c w)
start_fails_so link c w = follow w (fails c w) (start_fails link c w) (fails_so c w) (quiet (fails c w) (start_fails link c w) refl refl)

-- the pair of a place is as it was before a step and its line
pair_after : (w u : World) (c : ℕ) (pair : GroupSpec × Spec) → u.children.roster ≡ w.children.roster
    → slice_get (pairs_of w.children.roster) c ≡ Some pair → slice_get (pairs_of u.children.roster) c ≡ Some pair
pair_after w u c pair kept at = ap (λ (groups : List GroupSpec). slice_get (pairs_of groups) c) kept ∙ at

met_so : (news : News) (c : ℕ) (w : World) → Spawns w (met news c w)
met_so news c w = by_answer (says (stimulus_of news) c w) refl where
  behind : Option Answer → World
  behind answer =
      let v = moves (how_of news) c answer w in notes_if (killing_at news (deed_of (step_of answer)) v.children c) v

  by_deed : (answer : Answer) (k : Known (stimulus_of news) w.children c answer) (deed : Option ChildDeed) → answer.step.deed ≡ deed
      → Spawns w (acts deed c (notes_if (killing_at news deed (moves (how_of news) c (Some answer) w).children c) (moves (how_of news) c (Some answer) w)))
  by_deed answer k deed is =
      let v = moves (how_of news) c (Some answer) w in
      let line = killing_at news deed v.children c in
      let u = notes_if line v in
      let s = stepped (how_of news) (stimulus_of news) c w answer k in
      let before : Tells w u (spawn_names deed k.pair.0.name k.pair.1.name) [] =
      tells_none w v u (spawn_names deed k.pair.0.name k.pair.1.name)
      (subst (λ (d : Option ChildDeed). Tells w v (spawn_names d k.pair.0.name k.pair.1.name) []) is s.tells) (noted_so line v) in
      let kept : u.children.roster ≡ w.children.roster = ap (λ (crew : Crew). crew.roster) (noted line v).crew ∙ s.kept in
      by_kind deed u k.pair (pair_after w u c k.pair kept k.at) before where
        tells_none : (w v u : World) (names : Names) → Tells w v names [] → Tells v u [] [] → Tells w u names []
        tells_none w v u names a b =
            subst (λ (all : Names). Tells w u all []) (append-nil names) (tells_on w v u names [] [] [] a b)

        by_kind : (deed : Option ChildDeed) (u : World) (pair : GroupSpec × Spec) → slice_get (pairs_of u.children.roster) c ≡ Some pair
            → Tells w u (spawn_names deed pair.0.name pair.1.name) [] → Spawns w (acts deed c u)
        by_kind None u pair at before = none_told w u before
        by_kind (Some (Kill signal all)) u pair at before =
            follow w u (kills c signal all u) (none_told w u before) (killed_so c signal all u)
        by_kind (Some Spawn) u pair at before = begun_so w u c pair (fails c) (fails_so c) at before

  by_answer : (answer : Option Answer) → says (stimulus_of news) c w ≡ answer → Spawns w (acts (deed_of (step_of answer)) c (behind answer))
  by_answer None is = none_told w (behind None) (noted_so (killing_at news None w.children c) w)
  by_answer (Some answer) is = by_deed answer (known (stimulus_of news) c w answer is) answer.step.deed refl

start_met_so : (link : LinkId) (c : ℕ) (w : World) → Spawns w (start_met link c w)
start_met_so link c w = by_answer (says (stimulus_of news_is.Start) c w) refl where
  by_kind : (deed : Option ChildDeed) (v : World) (pair : GroupSpec × Spec) → slice_get (pairs_of v.children.roster) c ≡ Some pair
      → Tells w v (spawn_names deed pair.0.name pair.1.name) [] → Spawns w (start_acts link deed c v)
  by_kind None v pair at before = none_told w v before
  by_kind (Some (Kill signal all)) v pair at before = none_told w v before
  by_kind (Some Spawn) v pair at before = begun_so w v c pair (start_fails link c) (start_fails_so link c) at before

  by_answer : (answer : Option Answer) → says (stimulus_of news_is.Start) c w ≡ answer
      → Spawns w (start_acts link (deed_of (step_of answer)) c (moves None c answer w))
  by_answer None is = quiet w w refl refl
  by_answer (Some answer) is =
      let k = known (stimulus_of news_is.Start) c w answer is in
      let v = moves None c (Some answer) w in
      let s = stepped None (stimulus_of news_is.Start) c w answer k in
      by_kind answer.step.deed v k.pair (pair_after w v c k.pair s.kept k.at) s.tells

-- ---- links and calls

link_starts : (entry : LinkEntry) (book : List LinkRecord) → starts_told (entry_orders entry book) ≡ []
link_starts entry book =
    each_link_order (λ (orders : List Order). starts_told orders ≡ []) refl
    (λ link bytes rest none. none) (λ link rest none. none) (λ link rest none. none) entry.deed entry.bytes book

link_spawns : (entry : LinkEntry) (book : List LinkRecord) → spawns_told (entry_orders entry book) ≡ []
link_spawns entry book =
    each_link_order (λ (orders : List Order). spawns_told orders ≡ []) refl
    (λ link bytes rest none. none) (λ link rest none. none) (λ link rest none. none) entry.deed entry.bytes book

linked_so : (entry : LinkEntry) (w : World) → Spawns w (does_with_link entry w)
linked_so entry w =
    some_told w (does_with_link entry w) (entry_orders entry w.links) refl (link_starts entry w.links) (link_spawns entry w.links) refl

abbrev replying : Replying Spawns
replying = record {
  may = λ deed. true;
  same = λ w. quiet w w refl refl;
  follow = follow;
  linked = λ entry w ok. linked_so entry w;
  called = λ calls w. quiet w (record w { calls = calls }) refl refl;
}

-- ---- each small step

spawns_steps : Steps Spawns
spawns_steps = record {
  may = λ deed. true;
  same = λ w. quiet w w refl refl;
  follow = follow;
  rewound = λ at w. quiet w _ refl refl;
  came = came_so;
  meeting = met_so;
  starting = start_met_so;
  killed = killed_so;
  steered = λ course w same. quiet w (record w { course = course }) refl refl;
  ended = λ w. some_told w _ (order.Halt ∷ []) refl refl refl refl;
  offered = λ kind fact w. none_told w (offers kind fact w) (both_silent w (offers kind fact w) (offered kind fact w) (offered_silently kind fact w));
  clocked = λ clock w. quiet w (record w { clock = clock }) refl refl;
  booked = λ runs w. quiet w (record w { runs = runs }) refl refl;
  done = λ c w. quiet w _ refl refl;
  returned = λ c w. none_told w (gives_back c w) (both_silent w (gives_back c w) (returned c w) (returned_silently c w));
  sent = λ run c w.
      some_told w (sends run c w) (hand_orders w.config.identifier run (id_of c) w.pools) refl
      (no_starts (hand_orders w.config.identifier run (id_of c) w.pools) (silent_hand w.config.identifier run (id_of c) w.pools))
      (no_spawns (hand_orders w.config.identifier run (id_of c) w.pools) (no_hand w.config.identifier run (id_of c) w.pools.each)) refl;
  logged = answering.logged;
  written = λ streams w. quiet w (record w { streams = streams }) refl refl;
  linked = λ entry w other ok. linked_so entry w;
  read = λ file start length w. some_told w _ (order.ReadFile file start length ∷ []) refl refl refl refl;
  called = λ deed w. quiet w (record w { calls = call_done deed w.calls }) refl refl;
  answered = λ link reply w ok may. kept_answers Spawns replying link reply w ok;
  whole = kept_ends Spawns replying;
  replied = kept_replies Spawns replying;
  told = λ run bytes w. some_told w _ (order.Stdin run bytes ∷ []) refl refl refl refl;
  wiped = λ file w. some_told w _ (order.ClearFile file ∷ []) refl refl refl refl;
  emptied = λ file w. quiet w _ refl refl;
}

-- ---- all inputs

pub each_spawned : (config : Config) (sizes : List (List ℕ × ℕ)) (host : Host) (inputs : List Input)
    → EachStartIsSpawned (deeds (opening config sizes host) inputs)
unfolding spawns_steps
each_spawned config sizes host inputs =
    let m = opening config sizes host in
    let spawns : Spawns (now m) (now (after m inputs)) = kept_after Spawns spawns_steps (λ deed. refl) (λ w. quiet w _ refl refl) m inputs tt in
    let given : spawns.tells.more ≡ deeds m inputs = sym spawns.tells.added ∙ all_given config sizes host inputs in
    subst EachStartIsSpawned given
    (λ few. spawns.tells.starts_are ∙ spawns.each (number_left (now (after m inputs)).next_run (length spawns.spawned) spawns.tells.run
    (subst (λ (names : Names). length names < 4294967295) spawns.tells.spawns_are few)) ∙ sym spawns.tells.spawns_are) where
      number_left : (last more : ℕ) → last ≡ 1 + more → more < 4294967295 → last ≤ 4294967295
      number_left last more is few = omega arith
