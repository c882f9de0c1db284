-- What a turn reports: orders are only added, and those of one child are a walk through the diagram.
use Rattle.std.proofs.Common.{◌≡◌, ℕ, List, [], ◌∷◌, ◌++◌, Bool, true, false, Option, Some, None, append-nil, append_assoc, refl, subst, sym, ap, ◌∙◌, if◌then◌else◌}
use Rattle.std.specs.Prelude.{drop, length, slice_get}
use Rattle.std.proofs.Math.Seq.{drop-append_seam}
use Rattle.std.proofs.lemmas.List.{map-append}
use Rattle.sv_base.specs.declared.config.Config.{Config}
use Rattle.sv_base.specs.declared.config.Host.{Host}
use Rattle.sv_base.specs.Roster.{is_roster}
use Rattle.sv_base.specs.declared.spec.GroupSpec.{GroupSpec}
use Rattle.sv_base.specs.declared.spec.LogSpec.{LogSpec}
use Rattle.sv_base.specs.declared.kind.Kind.{Kind}
use Rattle.sv_base.specs.declared.spec.Spec.{Spec}
use Rattle.sv_base.specs.declared.state.How.{How}
use Rattle.sv_base.specs.declared.state.State.{State}
use Rattle.sv_child.proofs.Walks.{walk_append}
use Rattle.sv_child.specs.ChildTable.{Stimulus}
use Rattle.sv_child.specs.Diagram.{IsWalk}
use Rattle.sv_child.specs.Moves.{Answer}
use Rattle.sv_child.specs.declared.child.Child.{Child}
use Rattle.sv_child.specs.declared.step.Edge.{Edge}
use Rattle.sv_children.proofs.Walks.{moved_walk, state_new, state_rewound, told_kill}
use Rattle.sv_children.specs.Crew.{Crew}
use Rattle.sv_children.specs.Orders.{kill_at, reports_at, reports_of}
use Rattle.sv_children.specs.Reported.{edge_told, edges_told, state_at}
use Rattle.sv_core_laws.proofs.PlainSteps.{PlainSteps, plainly}
use Rattle.sv_core_laws.proofs.Steps.{Steps, Onward}
use Rattle.sv_core_laws.proofs.Walk.{kept_next, kept_after}
use Rattle.sv_core.specs.Deeds.{after, deeds}
use Rattle.sv_core.specs.MachineState.{Model, accepts, hand, next, now, opening, orders}
use Rattle.sv_core_laws.proofs.LinkOrders.{each_link_order}
use Rattle.sv_core_laws.proofs.Told.{AreDrops, IsSilent, is_drop, offer_drops, parted, rejection_drops, reports_more, reports_skip, silent_both, silent_drop, silent_hand, silent_log, silent_none}
use Rattle.sv_core.specs.Events.{offers, offers_if}
use Rattle.sv_core.specs.HandingOut.{sends}
use Rattle.sv_core.specs.Listening.{gives_back, id_of, is_done_with}
use Rattle.sv_core_laws.specs.LinkHistory.{LinkEntry, entry_orders}
use Rattle.sv_core.specs.Logging.{drop_line, logs, logs_if, notes_if, tells_drop, tells_drops}
use Rattle.sv_core.specs.Moves.{changed, goes_edges, moves, says}
use Rattle.sv_core_laws.specs.Path.{ChildrenWalk}
use Rattle.sv_core.specs.World.{World}
use Rattle.sv_events.specs.declared.fact.Fact.{Fact}
use Rattle.sv_children.specs.EdgeFacts.{fact_at, kind_of, pid_at}
use Rattle.sv_logs.specs.Logging.{log_orders}
use Rattle.sv_groups.specs.StartOrder.{pairs_of, processes}
use Rattle.sv_children.specs.Lines.EdgeLines.{line_at}
use Rattle.sv_children.specs.Lines.Written.{written}
use Rattle.sv_children.specs.declared.lines.line.Line.{Line}
use Rattle.sv_links.specs.LinkBook.{LinkRecord}
use Rattle.sv_out.specs.declared.input.Input.{Input}
use Rattle.sv_out.specs.declared.order.Order.{Order}
use Rattle.sv_out.specs.declared.order.Order.TheVariants as order
use Rattle.sv_pool.specs.Listeners.{hand_orders, rejection_reports, rejects}
use Rattle.sv_pool.specs.Offers.{offer_reports, offered as pools_after}

-- from one world to a later one: the same roster, more orders, and what these report of a child leads from its state in
-- the one to its state in the other
pub record Goes (w v : World) : Type 0 where
  pub kept : v.children.roster ≡ w.children.roster
  pub more : List Order
  pub added : v.given ≡ w.given ++ more
  pub walk : (place : ℕ) (p : GroupSpec × Spec) → is_roster w.children.roster ≡ true
      → slice_get (pairs_of w.children.roster) place ≡ Some p
      → IsWalk (state_at w.children place) (edges_told p.0.name p.1.name more) (state_at v.children place)

-- ---- each small step

pub same : (w : World) → Goes w w
same w = record { kept = refl; more = []; added = sym (append-nil w.given); walk = λ place p roster is. refl }

pub follow : (u v w : World) → Goes u v → Goes v w → Goes u w
follow u v w a b = record {
  kept = b.kept ∙ a.kept;
  more = a.more ++ b.more;
  added = b.added ∙ ap (λ given. given ++ b.more) a.added ∙ append_assoc u.given a.more b.more;
  walk = λ place p roster is.
      subst (λ edges. IsWalk (state_at u.children place) edges (state_at w.children place)) (sym (map-append (edge_told p.0.name p.1.name) a.more b.more))
      (walk_append (state_at u.children place) (state_at v.children place) (state_at w.children place)
      (edges_told p.0.name p.1.name a.more) (edges_told p.0.name p.1.name b.more) (a.walk place p roster is)
      (b.walk place p (ap is_roster a.kept ∙ roster) (ap (λ (gs : List GroupSpec). slice_get (pairs_of gs) place) a.kept ∙ is)));
}

-- what is offered changes the orders alone, and reports no child
pub record Adds (w v : World) : Type 0 where
  pub crew : v.children ≡ w.children
  pub more : List Order
  pub added : v.given ≡ w.given ++ more
  pub silent : IsSilent more

pub adds_goes : (w v : World) → Adds w v → Goes w v
adds_goes w v a = record {
  kept = ap (λ (crew : Crew). crew.roster) a.crew;
  more = a.more;
  added = a.added;
  walk = λ place p roster is.
      subst (λ (crew : Crew). IsWalk (state_at w.children place) (edges_told p.0.name p.1.name a.more) (state_at crew place)) (sym a.crew)
      (a.silent p.0.name p.1.name (state_at w.children place));
}

pub adds_nothing : (w v : World) → v.children ≡ w.children → v.given ≡ w.given → Adds w v
adds_nothing w v crew given =
    record { crew = crew; more = []; added = given ∙ sym (append-nil w.given); silent = silent_none }

pub adds_follow : (u v w : World) → Adds u v → Adds v w → Adds u w
adds_follow u v w a b = record {
  crew = b.crew ∙ a.crew;
  more = a.more ++ b.more;
  added = b.added ∙ ap (λ (given : List Order). given ++ b.more) a.added ∙ append_assoc u.given a.more b.more;
  silent = silent_both a.more b.more a.silent b.silent;
}

pub logged : (log : LogSpec) (piece : List ℕ) (w : World) → Adds w (logs log piece w)
logged log piece w =
    record { crew = refl; more = log_orders log piece w.sizes; added = refl; silent = silent_log log piece w.sizes }

logged_if : (log : LogSpec) (bytes : Option (List ℕ)) (w : World) → Adds w (logs_if log bytes w)
logged_if log None w = adds_nothing w w refl refl
logged_if log (Some bytes) w = logged log bytes w

pub noted : (line : Option Line) (w : World) → Adds w (notes_if line w)
noted None w = adds_nothing w w refl refl
noted (Some line) w = logged_if w.config.main (written w.config.level w.moment line) w

drop_told : (report : Order) (w : World) → is_drop report ≡ true → Adds w (tells_drop report w)
drop_told report w is =
    let told = record w { given = w.given ++ report ∷ [] } in
    adds_follow w told (tells_drop report w) (record { crew = refl; more = report ∷ []; added = refl; silent = silent_drop report is })
    (noted (drop_line report) told)

drops_told : (reports : List Order) (w : World) → AreDrops reports → Adds w (tells_drops reports w)
drops_told [] w are = adds_nothing w w refl refl
drops_told (report ∷ reports) w are =
    let v = tells_drop report w in
    adds_follow w v (tells_drops reports v) (drop_told report w are.0) (drops_told reports v are.1)

pub offered : (kind : Kind) (fact : Fact) (w : World) → Adds w (offers kind fact w)
offered kind fact w =
    let v = record w { pools = pools_after kind fact w.pools } in
    adds_follow w v (offers kind fact w) (adds_nothing w v refl refl)
    (drops_told (offer_reports kind fact w.pools) v (offer_drops kind fact w.pools))

pub returned : (c : ℕ) (w : World) → Adds w (gives_back c w)
returned c w =
    let v = record w { pools = rejects (id_of c) w.pools } in
    adds_follow w v (gives_back c w) (adds_nothing w v refl refl)
    (drops_told (rejection_reports (id_of c) w.pools) v (rejection_drops (id_of c) w.pools))

pub offered_if : (kind : Kind) (fact : Option Fact) (w : World) → Adds w (offers_if kind fact w)
offered_if kind None w = adds_nothing w w refl refl
offered_if kind (Some fact) w = offered kind fact w

-- the reports of a child's edges, with those of what their events drop between them
record Tells (c : ℕ) (edges : List (Option Edge)) (w v : World) : Type 0 where
  pub crew : v.children ≡ w.children
  more : List Order
  added : v.given ≡ w.given ++ more
  walk : (group name : List ℕ) (from to : State) → IsWalk from (edges_told group name (reports_at w.children c edges)) to
      → IsWalk from (edges_told group name more) to

pub no_reports : (crew : Crew) (c : ℕ) → reports_at crew c [] ≡ []
no_reports crew c = by_pair (slice_get (pairs_of crew.roster) c) where
  by_pair : (pair : Option (GroupSpec × Spec)) → reports_of pair [] ≡ []
  by_pair None = refl
  by_pair (Some pair) = refl

joined_walk : (group name : List ℕ) (from between to : State) (one other : List Order) → IsWalk from (edges_told group name one) between
    → IsWalk between (edges_told group name other) to → IsWalk from (edges_told group name (one ++ other)) to
joined_walk group name from between to one other first second =
    subst (λ told. IsWalk from told to) (sym (map-append (edge_told group name) one other))
    (walk_append from between to (edges_told group name one) (edges_told group name other) first second)

told_edges : (how : Option How) (c pid : ℕ) (edges : List (Option Edge)) (w : World) → Tells c edges w (goes_edges how c pid edges w)
told_edges how c pid [] w = record {
  crew = refl;
  more = [];
  added = sym (append-nil w.given);
  walk = λ group name from to walk. subst (λ orders. IsWalk from (edges_told group name orders) to) (no_reports w.children c) walk;
}
told_edges how c pid (None ∷ edges) w =
    let rest = told_edges how c pid edges w in
    record {
      crew = rest.crew;
      more = rest.more;
      added = rest.added;
      walk = λ group name from to walk.
          rest.walk group name from to
          (subst (λ orders. IsWalk from (edges_told group name orders) to) (reports_skip w.children c edges) walk);
    }
told_edges how c pid (Some edge ∷ edges) w =
    let own = reports_at w.children c (Some edge ∷ []) in
    let told = record w { given = w.given ++ own } in
    let fact = fact_at w.children c pid edge in
    let line = line_at w.children c how edge in
    let lined = notes_if line told in
    let v = offers_if (kind_of edge.to) fact lined in
    let a = adds_follow told lined v (noted line told) (offered_if (kind_of edge.to) fact lined) in
    let rest = told_edges how c pid edges v in
    record {
      crew = rest.crew ∙ a.crew;
      more = own ++ (a.more ++ rest.more);
      added = rest.added ∙ ap (λ given. given ++ rest.more) a.added
          ∙ append_assoc (w.given ++ own) a.more rest.more ∙ append_assoc w.given own (a.more ++ rest.more);
      walk = λ group name from to walk.
          let both = subst (λ orders. IsWalk from (edges_told group name orders) to) (reports_more w.children c edge edges) walk in
          let two = parted from (edges_told group name own) (edges_told group name (reports_at w.children c edges)) to
          (subst (λ told. IsWalk from told to) (map-append (edge_told group name) own (reports_at w.children c edges)) both) in
          let last = rest.walk group name two.between to
          (subst (λ (crew : Crew). IsWalk two.between (edges_told group name (reports_at crew c edges)) to) (sym a.crew) two.second) in
          joined_walk group name from two.between to own (a.more ++ rest.more) two.first
          (joined_walk group name two.between two.between to a.more rest.more (a.silent group name two.between) last);
    }

-- the table says something to a child, or nothing
pub moved : (how : Option How) (stimulus : Child → Option Stimulus) (c : ℕ) (w : World) (answer : Option Answer) → says stimulus c w ≡ answer
    → Goes w (moves how c answer w)
moved how stimulus c w None is = same w
moved how stimulus c w (Some answer) is =
    let after = changed c (Some answer) w in
    let t = told_edges how c (pid_at w.children c) answer.step.edges after in
    record {
      kept = ap (λ (crew : Crew). crew.roster) t.crew;
      more = t.more;
      added = t.added;
      walk = λ place p roster at.
          t.walk p.0.name p.1.name (state_at w.children place) _
          (subst (λ (crew : Crew). IsWalk (state_at w.children place) (edges_told p.0.name p.1.name (reports_at w.children c answer.step.edges))
          (state_at crew place)) (sym t.crew)
          (moved_walk stimulus w.course.mood w.moment w.children c place answer p is roster at));
    }

pub silent_link : (entry : LinkEntry) (book : List LinkRecord) → IsSilent (entry_orders entry book)
silent_link entry book = λ group name state.
    each_link_order (λ (orders : List Order). IsWalk state (edges_told group name orders) state) refl
    (λ link bytes rest silent. silent) (λ link rest silent. silent) (λ link rest silent. silent) entry.deed entry.bytes book

unfoldable pub goes_plainly : PlainSteps Goes
goes_plainly = record {
  may = λ deed. true;
  same = same;
  follow = follow;
  rewound = λ at w. record {
    kept = refl;
    more = [];
    added = sym (append-nil w.given);
    walk = λ place p roster is. sym (state_rewound at (processes w.children.roster) w.children.all place);
  };
  came = λ how stimulus c w. moved how stimulus c w (says stimulus c w) refl;
  killed = λ c signal group w. record {
    kept = refl;
    more = kill_at w.children c signal group;
    added = refl;
    walk = λ place p roster is. told_kill w.children c signal group p.0.name p.1.name (state_at w.children place);
  };
  ordered = λ spawning w. record {
    kept = refl;
    more = order.Spawn spawning ∷ [];
    added = refl;
    walk = λ place p roster is. refl;
  };
  steered = λ course w same. record { kept = refl; more = []; added = sym (append-nil w.given); walk = λ place p roster is. refl };
  ended = λ w. record { kept = refl; more = order.Halt ∷ []; added = refl; walk = λ place p roster is. refl };
  linked = λ entry w ok. record {
    kept = refl;
    more = entry_orders entry w.links;
    added = refl;
    walk = λ place p roster is. silent_link entry w.links p.0.name p.1.name (state_at w.children place);
  };
  read = λ file start length w. record { kept = refl; more = order.ReadFile file start length ∷ []; added = refl; walk = λ place p roster is. refl };
  called = λ calls w. record { kept = refl; more = []; added = sym (append-nil w.given); walk = λ place p roster is. refl };
  told = λ run bytes w. record { kept = refl; more = order.Stdin run bytes ∷ []; added = refl; walk = λ place p roster is. refl };
  wiped = λ file w. record { kept = refl; more = order.ClearFile file ∷ []; added = refl; walk = λ place p roster is. refl };
  emptied = λ file w. record { kept = refl; more = []; added = sym (append-nil w.given); walk = λ place p roster is. refl };
  offered = λ kind fact w. adds_goes w (offers kind fact w) (offered kind fact w);
  clocked = λ clock w. adds_goes w (record w { clock = clock }) (adds_nothing w (record w { clock = clock }) refl refl);
  booked = λ runs w. adds_goes w (record w { runs = runs }) (adds_nothing w (record w { runs = runs }) refl refl);
  done = λ c w. adds_goes w (is_done_with c w) (adds_nothing w (is_done_with c w) refl refl);
  returned = λ c w. adds_goes w (gives_back c w) (returned c w);
  sent = λ run c w. adds_goes w (sends run c w) (record {
    crew = refl;
    more = hand_orders w.config.identifier run (id_of c) w.pools;
    added = refl;
    silent = silent_hand w.config.identifier run (id_of c) w.pools;
  });
  logged = λ log piece w. adds_goes w (logs log piece w) (logged log piece w);
  written = λ streams w. adds_goes w (record w { streams = streams }) (adds_nothing w (record w { streams = streams }) refl refl);
}

pub goes_halted : (w : World) → Goes w (record w { course = record w.course { halted = true } })
goes_halted w = record { kept = refl; more = []; added = sym (append-nil w.given); walk = λ place p roster is. refl }

abbrev pub goes_steps : Steps Goes
goes_steps = plainly Goes goes_plainly

-- ---- all inputs

orders_added : (given later more : List Order) → later ≡ given ++ more → given ++ drop (length given) later ≡ later
orders_added given later more added =
    ap (λ rest. given ++ rest) (ap (drop (length given)) added ∙ drop-append_seam given more) ∙ sym added

-- what was given in the end is what was given before, and the deeds
joined : (m : Model) (inputs : List Input) → Onward Goes (hand m) → (now (after m inputs)).given ≡ (now m).given ++ deeds m inputs
unfolding goes_plainly
joined m [] goes = sym (append-nil (now m).given)
joined m (i ∷ is) goes = by_test (accepts m i) refl (λ onward. joined (next m i) is onward) (joined m is goes) where
  by_test : (b : Bool) → accepts m i ≡ b
      → (Onward Goes (hand (next m i)) → (now (after (next m i) is)).given ≡ (now (next m i)).given ++ deeds (next m i) is)
      → (now (after m is)).given ≡ (now m).given ++ deeds m is
      → (now (if b then after (next m i) is else after m is)).given ≡ (now m).given ++ (if b then orders m i ++ deeds (next m i) is else deeds m is)
  by_test true accepted rest left =
      let step = kept_next Goes goes_steps (λ deed. refl) goes_halted m i accepted goes in
      rest step.1
      ∙ ap (λ given. given ++ deeds (next m i) is) (sym (orders_added (now m).given (now (next m i)).given step.0.more step.0.added))
      ∙ append_assoc (now m).given (orders m i) (deeds (next m i) is)
  by_test false accepted rest left = left

pub all_given : (config : Config) (sizes : List (List ℕ × ℕ)) (host : Host) (inputs : List Input)
    → (now (after (opening config sizes host) inputs)).given ≡ deeds (opening config sizes host) inputs
all_given config sizes host inputs = joined (opening config sizes host) inputs tt

pub path : (config : Config) (sizes : List (List ℕ × ℕ)) (host : Host) (inputs : List Input) → is_roster config.groups ≡ true
    → ChildrenWalk config (after (opening config sizes host) inputs) (deeds (opening config sizes host) inputs)
unfolding goes_plainly
path config sizes host inputs roster = λ place group spec is.
    let goes : Goes (now (opening config sizes host)) (now (after (opening config sizes host) inputs)) =
    kept_after Goes goes_steps (λ deed. refl) goes_halted (opening config sizes host) inputs tt in
    let told : goes.more ≡ deeds (opening config sizes host) inputs = sym goes.added ∙ all_given config sizes host inputs in
    let walk = goes.walk place (group, spec) roster is in
    subst (λ from. IsWalk from (edges_told group.name spec.name (deeds (opening config sizes host) inputs)) (state_at (now (after (opening config sizes host) inputs)).children place))
    (state_new (length (processes config.groups)) place)
    (subst (λ given. IsWalk (state_at (now (opening config sizes host)).children place) (edges_told group.name spec.name given) (state_at (now (after (opening config sizes host) inputs)).children place)) told walk)
