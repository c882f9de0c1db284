-- What a turn reports of a child: its stretches are short.
use Rattle.std.proofs.Common.{◌≡◌, ◌≤◌, ◌+◌, ℕ, zero, suc, List, [], ◌∷◌, ◌++◌, map, Bool, true, false, ◌&&◌, Option, Some, None, append-nil, append_assoc, refl, subst, sym, ap, ◌∙◌}
use Rattle.std.specs.Prelude.{length, nat_eq, replicate, slice_get, slice_set}
use Rattle.std.specs.Str.{bytes_eq}
use Rattle.std.proofs.lemmas.Bool.{eqb-true, eqb-false, false≢true}
use Rattle.std.proofs.lemmas.List.{map-append}
use Rattle.std.proofs.lemmas.Option.{same_Some}
use Rattle.std.proofs.lemmas.Slice.Eq.{bytes_eq-Decides}
use Rattle.sv_base.specs.Roster.{is_roster}
use Rattle.sv_base.specs.declared.config.Config.{Config}
use Rattle.sv_base.specs.declared.config.Host.{Host}
use Rattle.sv_base.specs.declared.ids.Run.{Run}
use Rattle.sv_base.specs.declared.signal.Signal.{Signal}
use Rattle.sv_base.specs.declared.spec.GroupSpec.{GroupSpec}
use Rattle.sv_base.specs.declared.spec.Spec.{Spec}
use Rattle.sv_base.specs.declared.state.How.{How}
use Rattle.sv_base.specs.declared.state.Mood.{Mood}
use Rattle.sv_base.specs.declared.state.State.{State}
use Rattle.sv_base.specs.declared.state.State.TheVariants.{Stopped, Running}
use Rattle.sv_child.specs.ChildTable.{Stimulus, happens}
use Rattle.sv_child.specs.Diagram.{IsWalk}
use Rattle.sv_child.specs.Moves.{Answer, new_child}
use Rattle.sv_child.specs.declared.child.Child.{Child}
use Rattle.sv_child.specs.declared.step.Edge.{Edge}
use Rattle.sv_children.proofs.Apart.{only_in_roster}
use Rattle.sv_children.proofs.Places.{set_elsewhere, set_here}
use Rattle.sv_children.proofs.Walks.{both_not, same_bytes}
use Rattle.sv_children.specs.Crew.{Crew, member_of}
use Rattle.sv_children.specs.News.{moved, said, said_to}
use Rattle.sv_children.specs.Orders.{kill, kill_at, kill_of, reports, reports_at}
use Rattle.sv_children.specs.Reported.{edge_told, edges_told, state_of}
use Rattle.sv_children.specs.Rewound.{all_rewound}
use Rattle.sv_core.specs.Deeds.{after, deeds}
use Rattle.sv_core.specs.Events.{offers}
use Rattle.sv_core.specs.HandingOut.{sends}
use Rattle.sv_core.specs.Listening.{gives_back, id_of, is_done_with}
use Rattle.sv_core.specs.Logging.{logs}
use Rattle.sv_core.specs.MachineState.{now, opening}
use Rattle.sv_core.specs.Moves.{changed, kills, moves, orders_spawn, says}
use Rattle.sv_core.specs.World.{World, gives}
use Rattle.sv_core_laws.proofs.LinkOrders.{each_link_order}
use Rattle.sv_core_laws.proofs.PlainSteps.{PlainSteps, plainly}
use Rattle.sv_core_laws.proofs.Reported.{Adds, adds_nothing, all_given, logged, offered, returned}
use Rattle.sv_core_laws.proofs.Told.{IsSilent, silent_hand, silent_none}
use Rattle.sv_core_laws.proofs.ToldEdges.{told_edges}
use Rattle.sv_core_laws.proofs.Tries.{AreFew, Leads, begun, count_by, leads_on, row_leads, short, tried}
use Rattle.sv_core_laws.proofs.Walk.{kept_after}
use Rattle.sv_core_laws.specs.LinkHistory.{LinkEntry, entry_orders}
use Rattle.sv_core_laws.specs.Stretch.{AllTryFewTimes, ChildrenTryFewTimes, TryFewTimes}
use Rattle.sv_children.specs.EdgeFacts.{pid_at}
use Rattle.sv_groups.specs.StartOrder.{pairs_of, processes}
use Rattle.sv_links.specs.LinkBook.{LinkRecord}
use Rattle.sv_out.specs.declared.input.Input.{Input}
use Rattle.sv_out.specs.declared.order.Order.{Order}
use Rattle.sv_out.specs.declared.order.Order.TheVariants as order
use Rattle.sv_pool.specs.Listeners.{hand_orders}

-- ---- the edges among what is told

abbrev pub edges_in : List (Option Edge) → List Edge
edges_in [] = []
edges_in (None ∷ edges) = edges_in edges
edges_in (Some edge ∷ edges) = edge ∷ edges_in edges

abbrev told : List Edge → List (Option Edge)
told edges = map (λ (edge : Edge). Some edge) edges

in_both : (one other : List (Option Edge)) → edges_in (one ++ other) ≡ edges_in one ++ edges_in other
in_both [] other = refl
in_both (None ∷ one) other = in_both one other
in_both (Some edge ∷ one) other = ap (λ (edges : List Edge). edge ∷ edges) (in_both one other)

few_in : (most n : ℕ) (edges : List (Option Edge)) → AreFew most n edges → AreFew most n (told (edges_in edges))
few_in most n [] few = tt
few_in most n (None ∷ edges) few = few_in most n edges few
few_in most n (Some edge ∷ edges) few = (few.0, few_in most (count_by edge.to n) edges few.1)

few_out : (most n : ℕ) (edges : List (Option Edge)) → AreFew most n (told (edges_in edges)) → AreFew most n edges
few_out most n [] few = tt
few_out most n (None ∷ edges) few = few_out most n edges few
few_out most n (Some edge ∷ edges) few = (few.0, few_out most (count_by edge.to n) edges few.1)

begun_in : (n : ℕ) (edges : List (Option Edge)) → begun n edges ≡ begun n (told (edges_in edges))
begun_in n [] = refl
begun_in n (None ∷ edges) = begun_in n edges
begun_in n (Some edge ∷ edges) = begun_in (count_by edge.to n) edges

-- only the edges count
leads_same : (retries : ℕ) (from to : State) (tries later : ℕ) (one other : List (Option Edge)) → edges_in one ≡ edges_in other
    → Leads retries from tries one to later → Leads retries from tries other to later
leads_same retries from to tries later one other same leads fits =
    let these = leads fits in (
      these.0,
      few_out (retries + 1) (tried from tries) other
          (subst (λ (edges : List Edge). AreFew (retries + 1) (tried from tries) (told edges)) same
          (few_in (retries + 1) (tried from tries) one these.1)),
      these.2 ∙ begun_in (tried from tries) one ∙ ap (λ (edges : List Edge). begun (tried from tries) (told edges)) same
          ∙ sym (begun_in (tried from tries) other),
    )

leads_nowhere : (retries : ℕ) (state : State) (tries : ℕ) (edges : List (Option Edge)) → edges_in edges ≡ [] → Leads retries state tries edges state tries
leads_nowhere retries state tries edges none =
    leads_same retries state state tries tries [] edges (sym none) (λ fits. (fits, tt, refl))

abbrev is_up : State → Bool
is_up Running = true
is_up state = false

-- orders over which every state stays tell no edge
none_told : (edges : List (Option Edge)) → ((state : State) → IsWalk state edges state) → edges_in edges ≡ []
none_told [] walk = refl
none_told (None ∷ edges) walk = none_told edges walk
none_told (Some edge ∷ edges) walk = absurd (false≢true (ap is_up (sym (walk Stopped).0 ∙ (walk Running).0)))

silent_told : (group name : List ℕ) (orders : List Order) → IsSilent orders → edges_in (edges_told group name orders) ≡ []
silent_told group name orders silent = none_told (edges_told group name orders) (silent group name)

told_own : (group name : List ℕ) (edges : List (Option Edge)) → edges_in (edges_told group name (reports group name edges)) ≡ edges_in edges
told_own group name [] = refl
told_own group name (None ∷ edges) = told_own group name edges
told_own group name (Some edge ∷ edges) =
    rw (same_bytes group, same_bytes name) (ap (λ (rest : List Edge). edge ∷ rest) (told_own group name edges))

told_other : (own_group own_name group name : List ℕ) (edges : List (Option Edge)) → (own_group ≡ group → own_name ≡ name → ⊥)
    → edges_in (edges_told group name (reports own_group own_name edges)) ≡ []
told_other own_group own_name group name [] other = refl
told_other own_group own_name group name (None ∷ edges) other = told_other own_group own_name group name edges other
told_other own_group own_name group name (Some edge ∷ edges) other =
    let test : (bytes_eq own_group group && bytes_eq own_name name) ≡ false =
    both_not (bytes_eq own_group group) (bytes_eq own_name name)
    (λ same_group same_name. other ((bytes_eq-Decides own_group group).0 same_group) ((bytes_eq-Decides own_name name).0 same_name)) in
    rw test (told_other own_group own_name group name edges other)

-- ---- the children of a crew

abbrev tries_of : Option Child → ℕ
tries_of None = 0
tries_of (Some child) = child.tries

-- from what a child is to what it is later
abbrev LeadsChild : ℕ → Option Child → List (Option Edge) → Option Child → Type 0
LeadsChild retries from edges to = Leads retries (state_of from) (tries_of from) edges (state_of to) (tries_of to)

-- what is known of a child to which the table said something
record Known (crew : Crew) (c : ℕ) (answer : Answer) : Type 0 where
  pair : GroupSpec × Spec
  child : Child
  at_pair : slice_get (pairs_of crew.roster) c ≡ Some pair
  at_child : slice_get crew.all c ≡ Some child
  leads : pair.1.startretries ≤ 1000000 → LeadsChild pair.1.startretries (Some child) answer.step.edges (Some answer.child)

known_by : (pair : Option (GroupSpec × Spec)) (child : Option Child) (stimulus : Child → Option Stimulus) (mood : Mood) (moment : ℕ)
    (crew : Crew) (c : ℕ) (answer : Answer)
    → slice_get (pairs_of crew.roster) c ≡ pair → slice_get crew.all c ≡ child
    → said_to stimulus (member_of pair child) mood moment ≡ Some answer → Known crew c answer
known_by None child stimulus mood moment crew c answer is_pair is_child is = cc
known_by (Some pair) None stimulus mood moment crew c answer is_pair is_child is = cc
known_by (Some pair) (Some child) stimulus mood moment crew c answer is_pair is_child is = by_stimulus (stimulus child) is where
  by_stimulus : (s : Option Stimulus) → said s pair.1 child mood moment ≡ Some answer → Known crew c answer
  by_stimulus None is = cc
  by_stimulus (Some s) is =
      let same : happens pair.1 child s mood moment ≡ answer = same_Some (happens pair.1 child s mood moment) answer is in
      record {
        pair = pair;
        child = child;
        at_pair = is_pair;
        at_child = is_child;
        leads = λ few.
            subst (λ (a : Answer). LeadsChild pair.1.startretries (Some child) a.step.edges (Some a.child)) same
            (row_leads s child.state pair.1 child mood moment refl few);
      }

moved_known : (crew : Crew) (c place : ℕ) (answer : Answer) (p : GroupSpec × Spec) → Known crew c answer
    → is_roster crew.roster ≡ true → slice_get (pairs_of crew.roster) place ≡ Some p → p.1.startretries ≤ 1000000
    → LeadsChild p.1.startretries (slice_get crew.all place) (edges_told p.0.name p.1.name (reports_at crew c answer.step.edges))
    (slice_get (moved c (Some answer) crew).all place)
moved_known crew c place answer p k roster is few = rw k.at_pair (by_place (nat_eq c place) refl) where
  Led : ℕ → GroupSpec × Spec → Type 0
  Led at q =
      LeadsChild q.1.startretries (slice_get crew.all at) (edges_told q.0.name q.1.name (reports k.pair.0.name k.pair.1.name answer.step.edges))
      (slice_get (slice_set crew.all c answer.child) at)

  own : k.pair.1.startretries ≤ 1000000 → Led c k.pair
  own few_here =
      rw (k.at_child, set_here crew.all c k.child answer.child k.at_child)
      (leads_same k.pair.1.startretries k.child.state answer.child.state k.child.tries answer.child.tries answer.step.edges
      (edges_told k.pair.0.name k.pair.1.name (reports k.pair.0.name k.pair.1.name answer.step.edges))
      (sym (told_own k.pair.0.name k.pair.1.name answer.step.edges)) (k.leads few_here))

  here : slice_get (pairs_of crew.roster) c ≡ Some p → Led c p
  here at =
      let same : k.pair ≡ p = same_Some k.pair p (sym k.at_pair ∙ at) in
      subst (λ (q : GroupSpec × Spec). q.1.startretries ≤ 1000000 → Led c q) same own few

  by_place : (b : Bool) → nat_eq c place ≡ b → Led place p
  by_place true e = subst (λ (at : ℕ). slice_get (pairs_of crew.roster) at ≡ Some p → Led at p) (eqb-true c place e) here is
  by_place false e =
      rw (set_elsewhere crew.all c place answer.child (eqb-false c place e))
      (leads_nowhere p.1.startretries (state_of (slice_get crew.all place)) (tries_of (slice_get crew.all place))
      (edges_told p.0.name p.1.name (reports k.pair.0.name k.pair.1.name answer.step.edges))
      (told_other k.pair.0.name k.pair.1.name p.0.name p.1.name answer.step.edges
      (λ group name. eqb-false c place e (only_in_roster crew.roster place c p k.pair roster is k.at_pair group name))))

abbrev state_tries : List Child → ℕ → State × ℕ
state_tries children place = (state_of (slice_get children place), tries_of (slice_get children place))

rewound_same : (at : ℕ) (specs : List Spec) (cs : List Child) (place : ℕ) → state_tries (all_rewound at specs cs) place ≡ state_tries cs place
rewound_same at [] [] place = refl
rewound_same at (s ∷ ss) [] place = refl
rewound_same at [] (c ∷ cs) place = refl
rewound_same at (s ∷ ss) (c ∷ cs) zero = refl
rewound_same at (s ∷ ss) (c ∷ cs) (suc place) = rewound_same at ss cs place

new_tries : (n place : ℕ) → state_tries (replicate n new_child) place ≡ (Stopped, 0)
new_tries zero place = refl
new_tries (suc n) zero = refl
new_tries (suc n) (suc place) = new_tries n place

-- ---- from one world to a later one

-- the same roster, more orders, and the edges that these report of a child lead from what it was to what it is
record Tries (w v : World) : Type 0 where
  kept : v.children.roster ≡ w.children.roster
  more : List Order
  added : v.given ≡ w.given ++ more
  leads : (place : ℕ) (p : GroupSpec × Spec) → is_roster w.children.roster ≡ true
      → slice_get (pairs_of w.children.roster) place ≡ Some p → p.1.startretries ≤ 1000000
      → LeadsChild p.1.startretries (slice_get w.children.all place) (edges_told p.0.name p.1.name more) (slice_get v.children.all place)

follow : (u v w : World) → Tries u v → Tries v w → Tries u w
follow u v w a b = record {
  kept = b.kept ∙ a.kept;
  more = a.more ++ b.more;
  added = b.added ∙ ap (λ (given : List Order). given ++ b.more) a.added ∙ append_assoc u.given a.more b.more;
  leads = λ place p roster is few.
      subst (λ (edges : List (Option Edge)). LeadsChild p.1.startretries (slice_get u.children.all place) edges (slice_get w.children.all place))
      (sym (map-append (edge_told p.0.name p.1.name) a.more b.more))
      (leads_on p.1.startretries (state_of (slice_get u.children.all place)) (state_of (slice_get v.children.all place))
      (state_of (slice_get w.children.all place)) (tries_of (slice_get u.children.all place)) (tries_of (slice_get v.children.all place))
      (tries_of (slice_get w.children.all place)) (edges_told p.0.name p.1.name a.more) (edges_told p.0.name p.1.name b.more)
      (a.leads place p roster is few)
      (b.leads place p (ap is_roster a.kept ∙ roster) (ap (λ (gs : List GroupSpec). slice_get (pairs_of gs) place) a.kept ∙ is) few));
}

-- nothing is reported, and the children are the same
adds_tries : (w v : World) → Adds w v → Tries w v
adds_tries w v a = record {
  kept = ap (λ (crew : Crew). crew.roster) a.crew;
  more = a.more;
  added = a.added;
  leads = λ place p roster is few.
      subst (λ (crew : Crew). LeadsChild p.1.startretries (slice_get w.children.all place) (edges_told p.0.name p.1.name a.more) (slice_get crew.all place))
      (sym a.crew)
      (leads_nowhere p.1.startretries (state_of (slice_get w.children.all place)) (tries_of (slice_get w.children.all place))
      (edges_told p.0.name p.1.name a.more) (silent_told p.0.name p.1.name a.more a.silent));
}

quiet : (w v : World) → v.children ≡ w.children → v.given ≡ w.given → Tries w v
quiet w v crew given = adds_tries w v (adds_nothing w v crew given)

one_order : (w v : World) (o : Order) → v.children ≡ w.children → v.given ≡ w.given ++ o ∷ [] → IsSilent (o ∷ []) → Tries w v
one_order w v o crew added silent = adds_tries w v (record { crew = crew; more = o ∷ []; added = added; silent = silent })

in_orders : (group name : List ℕ) (one other : List Order)
    → edges_in (edges_told group name (one ++ other)) ≡ edges_in (edges_told group name one) ++ edges_in (edges_told group name other)
in_orders group name one other =
    ap edges_in (map-append (edge_told group name) one other) ∙ in_both (edges_told group name one) (edges_told group name other)

-- the edges that orders tell of a child, by the names of its group and of itself
abbrev told_of : List ℕ × List ℕ → List Order → List Edge
told_of names orders = edges_in (edges_told names.0 names.1 orders)

-- the table says something to a child, or nothing
moved_so : (how : Option How) (stimulus : Child → Option Stimulus) (c : ℕ) (w : World) (answer : Option Answer) → says stimulus c w ≡ answer
    → Tries w (moves how c answer w)
moved_so how stimulus c w None is = quiet w w refl refl
moved_so how stimulus c w (Some answer) is =
    let later = changed c (Some answer) w in
    let t = told_edges (List ℕ × List ℕ) Edge told_of (λ names. in_orders names.0 names.1) (λ names. silent_told names.0 names.1) how c
    (pid_at w.children c) answer.step.edges later in
    let known : Known w.children c answer =
    known_by (slice_get (pairs_of w.children.roster) c) (slice_get w.children.all c) stimulus w.course.mood w.moment w.children c answer refl refl is in
    record {
      kept = ap (λ (crew : Crew). crew.roster) t.crew;
      more = t.more;
      added = t.added;
      leads = λ place p roster at few.
          subst (λ (crew : Crew). LeadsChild p.1.startretries (slice_get w.children.all place) (edges_told p.0.name p.1.name t.more) (slice_get crew.all place))
          (sym t.crew)
          (leads_same p.1.startretries (state_of (slice_get w.children.all place)) (state_of (slice_get later.children.all place))
          (tries_of (slice_get w.children.all place)) (tries_of (slice_get later.children.all place))
          (edges_told p.0.name p.1.name (reports_at w.children c answer.step.edges)) (edges_told p.0.name p.1.name t.more)
          (sym (t.same (p.0.name, p.1.name))) (moved_known w.children c place answer p known roster at few));
    }

killed_so : (w : World) (c : ℕ) (signal : Signal) (group : Bool) → IsSilent (kill_at w.children c signal group)
killed_so w c signal group = by_child (slice_get w.children.all c) where
  by_run : (run : Option Run) → IsSilent (kill run signal group)
  by_run None = silent_none
  by_run (Some run) = λ its_group name state. refl

  by_child : (child : Option Child) → IsSilent (kill_of child signal group)
  by_child None = silent_none
  by_child (Some child) = by_run child.run

silent_link : (entry : LinkEntry) (book : List LinkRecord) → IsSilent (entry_orders entry book)
silent_link entry book = λ group name state.
    each_link_order (λ (orders : List Order). IsWalk state (edges_told group name orders) state) refl
    (λ link bytes rest silent. silent) (λ link rest silent. silent) (λ link rest silent. silent) entry.deed entry.bytes book

tries_steps : PlainSteps Tries
tries_steps = record {
  may = λ deed. true;
  same = λ w. quiet w w refl refl;
  follow = follow;
  rewound = λ at w. record {
    kept = refl;
    more = [];
    added = sym (append-nil w.given);
    leads = λ place p roster is few.
        subst (λ (to : State × ℕ). Leads p.1.startretries (state_of (slice_get w.children.all place)) (tries_of (slice_get w.children.all place)) [] to.0 to.1)
        (sym (rewound_same at (processes w.children.roster) w.children.all place)) (λ fits. (fits, tt, refl));
  };
  came = λ how stimulus c w. moved_so how stimulus c w (says stimulus c w) refl;
  killed = λ c signal group w.
      adds_tries w (kills c signal group w)
      (record { crew = refl; more = kill_at w.children c signal group; added = refl; silent = killed_so w c signal group });
  ordered = λ spawning w. one_order w (orders_spawn spawning w) (order.Spawn spawning) refl refl (λ group name state. refl);
  steered = λ course w same. quiet w (record w { course = course }) refl refl;
  ended = λ w. one_order w (record w { given = w.given ++ order.Halt ∷ [] }) order.Halt refl refl (λ group name state. refl);
  offered = λ kind fact w. adds_tries w (offers kind fact w) (offered kind fact w);
  clocked = λ clock w. quiet w (record w { clock = clock }) refl refl;
  booked = λ runs w. quiet w (record w { runs = runs }) refl refl;
  done = λ c w. quiet w (is_done_with c w) refl refl;
  returned = λ c w. adds_tries w (gives_back c w) (returned c w);
  sent = λ run c w.
      adds_tries w (sends run c w) (record {
        crew = refl;
        more = hand_orders w.config.identifier run (id_of c) w.pools;
        added = refl;
        silent = silent_hand w.config.identifier run (id_of c) w.pools;
      });
  logged = λ log piece w. adds_tries w (logs log piece w) (logged log piece w);
  written = λ streams w. quiet w (record w { streams = streams }) refl refl;
  linked = λ entry w ok.
      adds_tries w _ (record { crew = refl; more = entry_orders entry w.links; added = refl; silent = silent_link entry w.links });
  read = λ file start length w. one_order w (gives (order.ReadFile file start length) w) (order.ReadFile file start length) refl refl (λ group name state. refl);
  called = λ calls w. quiet w (record w { calls = calls }) refl refl;
  told = λ run bytes w. one_order w (gives (order.Stdin run bytes) w) (order.Stdin run bytes) refl refl (λ group name state. refl);
  wiped = λ file w. one_order w (gives (order.ClearFile file) w) (order.ClearFile file) refl refl (λ group name state. refl);
  emptied = λ file w. quiet w _ refl refl;
}

-- ---- the numbers of retries

in_group : (group : GroupSpec) (specs : List Spec) (rest : List (GroupSpec × Spec)) → TryFewTimes specs
    → ((place : ℕ) (p : GroupSpec × Spec) → slice_get rest place ≡ Some p → p.1.startretries ≤ 1000000)
    → (place : ℕ) (p : GroupSpec × Spec) → slice_get (map (λ (m : Spec). (group, m)) specs ++ rest) place ≡ Some p → p.1.startretries ≤ 1000000
in_group group [] rest few others place p is = others place p is
in_group group (spec ∷ specs) rest few others zero p is =
    subst (λ (q : GroupSpec × Spec). q.1.startretries ≤ 1000000) (same_Some (group, spec) p is) few.0
in_group group (spec ∷ specs) rest few others (suc place) p is = in_group group specs rest few.1 others place p is

each_tries : (groups : List GroupSpec) → AllTryFewTimes groups → (place : ℕ) (p : GroupSpec × Spec) → slice_get (pairs_of groups) place ≡ Some p
    → p.1.startretries ≤ 1000000
each_tries [] few place p is = cc
each_tries (group ∷ groups) few place p is = in_group group group.members (pairs_of groups) few.0 (each_tries groups few.1) place p is

-- ---- all inputs

pub few_times : (config : Config) (sizes : List (List ℕ × ℕ)) (host : Host) (inputs : List Input) → is_roster config.groups ≡ true
    → AllTryFewTimes config.groups → ChildrenTryFewTimes config (deeds (opening config sizes host) inputs)
unfolding tries_steps
few_times config sizes host inputs roster few place group spec is =
    let m = opening config sizes host in
    let tries : Tries (now m) (now (after m inputs)) = kept_after Tries (plainly Tries tries_steps) (λ deed. refl) (λ w. quiet w _ refl refl) m inputs tt in
    let given : tries.more ≡ deeds m inputs = sym tries.added ∙ all_given config sizes host inputs in
    let led : Leads spec.startretries Stopped 0 (edges_told group.name spec.name tries.more) _ _ =
    subst (λ (from : State × ℕ). Leads spec.startretries from.0 from.1 (edges_told group.name spec.name tries.more)
    (state_of (slice_get (now (after m inputs)).children.all place)) (tries_of (slice_get (now (after m inputs)).children.all place)))
    (new_tries (length (processes config.groups)) place) (tries.leads place (group, spec) roster is (each_tries config.groups few place (group, spec) is)) in
    short spec.startretries (edges_told group.name spec.name (deeds m inputs))
    (subst (λ (orders : List Order). AreFew (spec.startretries + 1) 0 (edges_told group.name spec.name orders)) given (led refl).1)
