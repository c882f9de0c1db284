-- What a turn does to the event pools: they go on by what happens to them, and no other order drops or writes an event.
use Rattle.std.proofs.Common.{◌≡◌, ℕ, List, [], ◌∷◌, ◌++◌, filter, map, Bool, true, false, Option, Some, None, append-nil, append_assoc, refl, sym, ap, ◌∙◌, if◌then◌else◌}
use Rattle.std.specs.Prelude.{slice_get}
use Rattle.std.specs.List.{flat_map}
use Rattle.std.specs.Option.{option_map, option_to_list}
use Rattle.std.proofs.lemmas.List.Elements.{filter-append}
use Rattle.sv_base.specs.Roster.{is_roster}
use Rattle.sv_base.specs.declared.config.Config.{Config}
use Rattle.sv_base.specs.declared.config.FileOrder.{FileOrder}
use Rattle.sv_base.specs.declared.config.FileOrder.TheVariants as file
use Rattle.sv_base.specs.declared.config.Host.{Host}
use Rattle.sv_base.specs.declared.ids.Run.{Run}
use Rattle.sv_base.specs.declared.kind.Kind.{Kind}
use Rattle.sv_base.specs.declared.signal.Signal.{Signal}
use Rattle.sv_base.specs.declared.spec.GroupSpec.{GroupSpec}
use Rattle.sv_base.specs.declared.spec.LogSpec.{LogSpec}
use Rattle.sv_base.specs.declared.spec.Spec.{Spec}
use Rattle.sv_base.specs.declared.state.How.{How}
use Rattle.sv_child.specs.Moves.{Answer}
use Rattle.sv_child.specs.declared.child.Child.{Child}
use Rattle.sv_child.specs.declared.step.Edge.{Edge}
use Rattle.sv_child.specs.declared.step.Step.{Step}
use Rattle.sv_children.specs.Crew.{Crew}
use Rattle.sv_children.specs.News.{step_of}
use Rattle.sv_children.specs.Orders.{kill, kill_at, kill_of, reports_at, reports_of}
use Rattle.sv_core_laws.proofs.Accounts.{all_dropped, entries_happened, entries_told, found_after, happenings, happenings_ordered, fresh_at, in_order, only_of_roster, some_at}
use Rattle.sv_core_laws.proofs.Reported.{all_given}
use Rattle.sv_core_laws.proofs.LinkOrders.{each_link_order}
use Rattle.sv_core_laws.proofs.PlainSteps.{PlainSteps, plainly}
use Rattle.sv_core_laws.proofs.Walk.{kept_after}
use Rattle.sv_core_laws.proofs.Told.{AreDrops, is_drop, offer_drops, rejection_drops}
use Rattle.sv_core_laws.specs.Account.{Entry, Happening, HoldSome, PoolsAreAccountedFor, PoolsHaveAHistory, all_entered, all_ordered, drop_told, drops_told, entered, entry_ordered, happened, is_of_pools, ordered}
use Rattle.sv_core_laws.specs.Account.Entry.{Happens, Writes}
use Rattle.sv_core_laws.specs.Account.Happening.{Offered, Handed, Acknowledged, Rejected}
use Rattle.sv_core.specs.Deeds.{after, deeds}
use Rattle.sv_core.specs.Events.{offers, offers_if}
use Rattle.sv_core.specs.HandingOut.{sends}
use Rattle.sv_core.specs.Listening.{gives_back, id_of, is_done_with}
use Rattle.sv_core_laws.specs.LinkHistory.{LinkEntry, entry_orders}
use Rattle.sv_core.specs.Logging.{drop_line, logs, logs_if, notes_if, tells_drop, tells_drops}
use Rattle.sv_core.specs.MachineState.{now, opening}
use Rattle.sv_core.specs.Moves.{changed, goes_edge, goes_edge_if, goes_edges, moves, reported, says}
use Rattle.sv_core.specs.World.{World}
use Rattle.sv_events.specs.declared.fact.Fact.{Fact}
use Rattle.sv_children.specs.EdgeFacts.{fact_at, kind_of, pid_at}
use Rattle.sv_logs.specs.Logging.{log_orders, order_of, orders_if, plan_as}
use Rattle.sv_logs.specs.Sizes.{Sizes, size_in}
use Rattle.sv_groups.specs.StartOrder.{pairs_of}
use Rattle.sv_children.specs.Lines.EdgeLines.{line_at}
use Rattle.sv_children.specs.Lines.Written.{written}
use Rattle.sv_children.specs.declared.lines.line.Line.{Line}
use Rattle.sv_logs.specs.Rotation.{orders_of}
use Rattle.sv_links.specs.LinkBook.{LinkRecord}
use Rattle.sv_out.specs.declared.input.Input.{Input}
use Rattle.sv_out.specs.declared.order.Order.{Order}
use Rattle.sv_out.specs.declared.order.Order.TheVariants as order
use Rattle.sv_pool.specs.PoolLists.{dropped_for_room}
use Rattle.sv_pool.specs.declared.taken.Dropped.{Dropped}
use Rattle.sv_pool.specs.declared.taken.Taken.{Taken}
use Rattle.sv_pool.specs.EventPools as all_pools
use Rattle.sv_pool.specs.EventPools.{EventPool, EventPools}
use Rattle.sv_pool.specs.Listeners.{front_written, is_holding, may_get, orders_to, rejection_reports, rejects, reports_of_rejection, written as order_written}
use Rattle.sv_pool.specs.Offers.{drop_report, event_of, offer_reports, offered as pools_after, reports_of_offer, room_reports, takes}

-- from one world to a later one: what happened to the pools meanwhile, and which orders tell of it
pub record Deals (w v : World) : Type 0 where
  pub server : v.config.identifier ≡ w.config.identifier
  pub all : List Entry
  pub pools : v.pools ≡ all_entered all w.pools
  pub more : List Order
  pub added : v.given ≡ w.given ++ more
  pub told : filter is_of_pools more ≡ all_ordered w.config.identifier all w.pools

happened_on : (one other : List Entry) (ps : EventPools) → all_entered (one ++ other) ps ≡ all_entered other (all_entered one ps)
happened_on [] other ps = refl
happened_on (e ∷ one) other ps = happened_on one other (entered e ps)

ordered_on : (server : List ℕ) (one other : List Entry) (ps : EventPools)
    → all_ordered server (one ++ other) ps ≡ all_ordered server one ps ++ all_ordered server other (all_entered one ps)
ordered_on server [] other ps = refl
ordered_on server (e ∷ one) other ps =
    ap (λ (rest : List Order). entry_ordered server e ps ++ rest) (ordered_on server one other (entered e ps))
    ∙ sym (append_assoc (entry_ordered server e ps) (all_ordered server one (entered e ps)) (all_ordered server other (all_entered one (entered e ps))))

same : (w : World) → Deals w w
same w = record { server = refl; all = []; pools = refl; more = []; added = sym (append-nil w.given); told = refl }

follow : (u v w : World) → Deals u v → Deals v w → Deals u w
follow u v w a b = record {
  server = b.server ∙ a.server;
  all = a.all ++ b.all;
  pools = b.pools ∙ ap (all_entered b.all) a.pools ∙ sym (happened_on a.all b.all u.pools);
  more = a.more ++ b.more;
  added = b.added ∙ ap (λ (given : List Order). given ++ b.more) a.added ∙ append_assoc u.given a.more b.more;
  told = filter-append is_of_pools a.more b.more
      ∙ ap (λ (orders : List Order). orders ++ filter is_of_pools b.more) a.told
      ∙ ap (λ (orders : List Order). all_ordered u.config.identifier a.all u.pools ++ orders) b.told
      ∙ ap (λ (server : List ℕ). all_ordered u.config.identifier a.all u.pools ++ all_ordered server b.all v.pools) a.server
      ∙ ap (λ (ps : EventPools). all_ordered u.config.identifier a.all u.pools ++ all_ordered u.config.identifier b.all ps) a.pools
      ∙ sym (ordered_on u.config.identifier a.all b.all u.pools);
}

-- these orders are all of pools
abbrev pub AreOfPools : List Order → Type 0
AreOfPools orders = filter is_of_pools orders ≡ orders

of_both : (one other : List Order) → AreOfPools one → AreOfPools other → AreOfPools (one ++ other)
of_both one other a b =
    filter-append is_of_pools one other
    ∙ ap (λ (orders : List Order). orders ++ filter is_of_pools other) a
    ∙ ap (λ (orders : List Order). one ++ orders) b

of_if : (b : Bool) (orders : List Order) → AreOfPools orders → AreOfPools (if b then orders else [])
of_if true orders of = of
of_if false orders of = refl

of_all : (f : EventPool → List Order) (ps : List EventPool) → ((p : EventPool) → AreOfPools (f p)) → AreOfPools (flat_map f ps)
of_all f [] each = refl
of_all f (p ∷ ps) each = of_both (f p) (flat_map f ps) (each p) (of_all f ps each)

of_drop : (group : List ℕ) (dropped : Option Dropped) → AreOfPools (option_to_list (option_map (drop_report group) dropped))
of_drop group None = refl
of_drop group (Some dropped) = refl

of_room : (p : EventPool) → AreOfPools (room_reports p)
of_room p = of_drop p.group (dropped_for_room p.lists)

of_front : (server : List ℕ) (run : Run) (group : List ℕ) (front : Option Taken)
    → AreOfPools (option_to_list (option_map (order_written server run group) front))
of_front server run group None = refl
of_front server run group (Some taken) = refl

-- what happens to the pools orders nothing else
of_happening : (server : List ℕ) (h : Happening) (ps : EventPools) → AreOfPools (ordered server h ps)
of_happening server (Offered kind fact) ps =
    of_all (reports_of_offer (event_of kind fact ps.drawn)) ps.each (λ p. of_if (takes (event_of kind fact ps.drawn) p) (room_reports p) (of_room p))
of_happening server (Handed run place) ps =
    of_all (orders_to server run place) ps.each
    (λ p. of_if (may_get place p) (front_written server run p) (of_front server run p.group (slice_get p.lists.waiting 0)))
of_happening server (Acknowledged place) ps = refl
of_happening server (Rejected place) ps =
    of_all (reports_of_rejection place) ps.each (λ p. of_if (is_holding place p) (room_reports p) (of_room p))

-- one thing happens
once : (h : Happening) (w v : World) → v.config.identifier ≡ w.config.identifier → v.pools ≡ happened h w.pools
    → v.given ≡ w.given ++ ordered w.config.identifier h w.pools → Deals w v
once h w v server pools given = record {
  server = server;
  all = Happens h ∷ [];
  pools = pools;
  more = ordered w.config.identifier h w.pools;
  added = given;
  told = of_happening w.config.identifier h w.pools ∙ sym (append-nil (ordered w.config.identifier h w.pools));
}

-- nothing happens to the pools
unmoved : (w v : World) (more : List Order) → v.config.identifier ≡ w.config.identifier → v.pools ≡ w.pools → v.given ≡ w.given ++ more
    → filter is_of_pools more ≡ [] → Deals w v
unmoved w v more server pools added none = record { server = server; all = []; pools = pools; more = more; added = added; told = none }

-- ---- logs

no_pools_file : (f : FileOrder) → filter is_of_pools (order_of f ∷ []) ≡ []
no_pools_file (file.Append name bytes) = refl
no_pools_file (file.Shift from to) = refl
no_pools_file (file.Fresh name) = refl

no_pools_files : (fs : List FileOrder) → filter is_of_pools (map order_of fs) ≡ []
no_pools_files [] = refl
no_pools_files (f ∷ fs) =
    filter-append is_of_pools (order_of f ∷ []) (map order_of fs)
    ∙ ap (λ (orders : List Order). orders ++ filter is_of_pools (map order_of fs)) (no_pools_file f)
    ∙ no_pools_files fs

no_pools_log : (log : LogSpec) (piece : List ℕ) (sizes : Sizes) → filter is_of_pools (log_orders log piece sizes) ≡ []
no_pools_log log piece sizes = by_file log.file where
  by_file : (name : Option (List ℕ)) → filter is_of_pools (orders_if name log piece sizes) ≡ []
  by_file None = refl
  by_file (Some name) = no_pools_files (orders_of (plan_as name (size_in name sizes) log) piece)

logged : (log : LogSpec) (piece : List ℕ) (w : World) → Deals w (logs log piece w)
logged log piece w = unmoved w (logs log piece w) (log_orders log piece w.sizes) refl refl refl (no_pools_log log piece w.sizes)

-- ---- reports, each with its line of the main log

-- from one world to a later one with the same pools: these orders of pools were given, among others
record Reports (reports : List Order) (w v : World) : Type 0 where
  server : v.config.identifier ≡ w.config.identifier
  pools : v.pools ≡ w.pools
  more : List Order
  added : v.given ≡ w.given ++ more
  told : filter is_of_pools more ≡ reports

reports_none : (w : World) → Reports [] w w
reports_none w = record { server = refl; pools = refl; more = []; added = sym (append-nil w.given); told = refl }

reports_both : (one other : List Order) (u v w : World) → Reports one u v → Reports other v w → Reports (one ++ other) u w
reports_both one other u v w a b = record {
  server = b.server ∙ a.server;
  pools = b.pools ∙ a.pools;
  more = a.more ++ b.more;
  added = b.added ∙ ap (λ (given : List Order). given ++ b.more) a.added ∙ append_assoc u.given a.more b.more;
  told = filter-append is_of_pools a.more b.more
      ∙ ap (λ (orders : List Order). orders ++ filter is_of_pools b.more) a.told
      ∙ ap (λ (orders : List Order). one ++ orders) b.told;
}

reports_log : (log : LogSpec) (bytes : Option (List ℕ)) (w : World) → Reports [] w (logs_if log bytes w)
reports_log log None w = reports_none w
reports_log log (Some bytes) w = record {
  server = refl;
  pools = refl;
  more = log_orders log bytes w.sizes;
  added = refl;
  told = no_pools_log log bytes w.sizes;
}

reports_line : (line : Option Line) (w : World) → Reports [] w (notes_if line w)
reports_line None w = reports_none w
reports_line (Some line) w = reports_log w.config.main (written w.config.level w.moment line) w

one_drop : (o : Order) → is_drop o ≡ true → filter is_of_pools (o ∷ []) ≡ o ∷ []
one_drop (order.Dropped pool serial poolserial) is = refl
one_drop (order.State group name from to) is = cc
one_drop (order.Spawn spawning) is = cc
one_drop (order.Kill run signal group) is = cc
one_drop (order.Stdin run bytes) is = cc
one_drop (order.Append name bytes) is = cc
one_drop (order.Shift from to) is = cc
one_drop (order.Fresh name) is = cc
one_drop (order.ReadFile name start length) is = cc
one_drop (order.ClearFile name) is = cc
one_drop (order.Names pattern) is = cc
one_drop (order.Size name) is = cc
one_drop (order.Send link bytes) is = cc
one_drop (order.More link) is = cc
one_drop (order.Close link) is = cc
one_drop order.Halt is = cc

reports_drop : (o : Order) (w : World) → is_drop o ≡ true → Reports (o ∷ []) w (tells_drop o w)
reports_drop o w is =
    let told = record w { given = w.given ++ o ∷ [] } in
    reports_both (o ∷ []) [] w told (tells_drop o w)
    (record { server = refl; pools = refl; more = o ∷ []; added = refl; told = one_drop o is })
    (reports_line (drop_line o) told)

reports_drops : (os : List Order) (w : World) → AreDrops os → Reports os w (tells_drops os w)
reports_drops [] w are = reports_none w
reports_drops (o ∷ os) w are =
    let v = tells_drop o w in
    reports_both (o ∷ []) os w v (tells_drops os v) (reports_drop o w are.0) (reports_drops os v are.1)

-- what happened to the pools is told so
deals_told : (h : Happening) (w v : World) → (u : World) → u.config.identifier ≡ w.config.identifier → u.pools ≡ happened h w.pools
    → u.given ≡ w.given → Reports (ordered w.config.identifier h w.pools) u v → Deals w v
deals_told h w v u server pools given t = record {
  server = t.server ∙ server;
  all = Happens h ∷ [];
  pools = t.pools ∙ pools;
  more = t.more;
  added = t.added ∙ ap (λ (orders : List Order). orders ++ t.more) given;
  told = t.told ∙ sym (append-nil (ordered w.config.identifier h w.pools));
}

offered : (kind : Kind) (fact : Fact) (w : World) → Deals w (offers kind fact w)
offered kind fact w =
    let u = record w { pools = pools_after kind fact w.pools } in
    deals_told (Offered kind fact) w (offers kind fact w) u refl refl refl
    (reports_drops (offer_reports kind fact w.pools) u (offer_drops kind fact w.pools))

returned : (c : ℕ) (w : World) → Deals w (gives_back c w)
returned c w =
    let u = record w { pools = rejects (id_of c) w.pools } in
    deals_told (Rejected (id_of c)) w (gives_back c w) u refl refl refl
    (reports_drops (rejection_reports (id_of c) w.pools) u (rejection_drops (id_of c) w.pools))

noted : (line : Option Line) (w : World) → Deals w (notes_if line w)
noted line w =
    let t = reports_line line w in
    unmoved w (notes_if line w) t.more t.server t.pools t.added t.told

offered_if : (kind : Kind) (fact : Option Fact) (w : World) → Deals w (offers_if kind fact w)
offered_if kind None w = same w
offered_if kind (Some fact) w = offered kind fact w

no_pools_report : (crew : Crew) (c : ℕ) (edge : Edge) → filter is_of_pools (reports_at crew c (Some edge ∷ [])) ≡ []
no_pools_report crew c edge = by_pair (slice_get (pairs_of crew.roster) c) where
  by_pair : (pair : Option (GroupSpec × Spec)) → filter is_of_pools (reports_of pair (Some edge ∷ [])) ≡ []
  by_pair None = refl
  by_pair (Some pair) = refl

edge_gone : (how : Option How) (c pid : ℕ) (edge : Option Edge) (w : World) → Deals w (goes_edge_if how c pid edge w)
edge_gone how c pid None w = same w
edge_gone how c pid (Some edge) w =
    let own = reports_at w.children c (Some edge ∷ []) in
    let told = record w { given = w.given ++ own } in
    let line = line_at w.children c how edge in
    let lined = notes_if line told in
    follow w told (goes_edge how c pid edge w) (unmoved w told own refl refl refl (no_pools_report w.children c edge))
    (follow told lined (goes_edge how c pid edge w) (noted line told)
    (offered_if (kind_of edge.to) (fact_at w.children c pid edge) lined))

edges_gone : (how : Option How) (c pid : ℕ) (edges : List (Option Edge)) (w : World) → Deals w (goes_edges how c pid edges w)
edges_gone how c pid [] w = same w
edges_gone how c pid (edge ∷ edges) w =
    let v = goes_edge_if how c pid edge w in
    follow w v (goes_edges how c pid edges v) (edge_gone how c pid edge w) (edges_gone how c pid edges v)

step_gone : (how : Option How) (c pid : ℕ) (step : Option Step) (w : World) → Deals w (reported how c pid step w)
step_gone how c pid None w = same w
step_gone how c pid (Some step) w = edges_gone how c pid step.edges w

moved : (how : Option How) (c : ℕ) (answer : Option Answer) (w : World) → Deals w (moves how c answer w)
moved how c answer w =
    let v = changed c answer w in
    follow w v (moves how c answer w) (unmoved w v [] refl refl (sym (append-nil w.given)) refl)
    (step_gone how c (pid_at w.children c) (step_of answer) v)

no_pools_kill : (crew : Crew) (c : ℕ) (signal : Signal) (group : Bool) → filter is_of_pools (kill_at crew c signal group) ≡ []
no_pools_kill crew c signal group = by_child (slice_get crew.all c) where
  by_run : (run : Option Run) → filter is_of_pools (kill run signal group) ≡ []
  by_run None = refl
  by_run (Some run) = refl

  by_child : (child : Option Child) → filter is_of_pools (kill_of child signal group) ≡ []
  by_child None = refl
  by_child (Some child) = by_run child.run

no_pools_link : (entry : LinkEntry) (book : List LinkRecord) → filter is_of_pools (entry_orders entry book) ≡ []
no_pools_link entry book =
    each_link_order (λ (orders : List Order). filter is_of_pools orders ≡ []) refl
    (λ link bytes rest none. none) (λ link rest none. none) (λ link rest none. none) entry.deed entry.bytes book

halted : (w : World) → Deals w (record w { course = record w.course { halted = true } })
halted w = record { server = refl; all = []; pools = refl; more = []; added = sym (append-nil w.given); told = refl }

pub deals_steps : PlainSteps Deals
deals_steps = record {
  may = λ deed. true;
  same = same;
  follow = follow;
  rewound = λ at w. record { server = refl; all = []; pools = refl; more = []; added = sym (append-nil w.given); told = refl };
  came = λ how stimulus c w. moved how c (says stimulus c w) w;
  killed = λ c signal group w. record {
    server = refl;
    all = [];
    pools = refl;
    more = kill_at w.children c signal group;
    added = refl;
    told = no_pools_kill w.children c signal group;
  };
  ordered = λ spawning w. record { server = refl; all = []; pools = refl; more = order.Spawn spawning ∷ []; added = refl; told = refl };
  steered = λ course w same. record { server = refl; all = []; pools = refl; more = []; added = sym (append-nil w.given); told = refl };
  ended = λ w. record { server = refl; all = []; pools = refl; more = order.Halt ∷ []; added = refl; told = refl };
  linked = λ entry w ok. record { server = refl; all = []; pools = refl; more = entry_orders entry w.links; added = refl; told = no_pools_link entry w.links };
  read = λ file start length w. record { server = refl; all = []; pools = refl; more = order.ReadFile file start length ∷ []; added = refl; told = refl };
  called = λ calls w. record { server = refl; all = []; pools = refl; more = []; added = sym (append-nil w.given); told = refl };
  told = λ run bytes w. record {
    server = refl;
    all = Writes run bytes ∷ [];
    pools = refl;
    more = order.Stdin run bytes ∷ [];
    added = refl;
    told = refl;
  };
  wiped = λ file w. record { server = refl; all = []; pools = refl; more = order.ClearFile file ∷ []; added = refl; told = refl };
  emptied = λ file w. record { server = refl; all = []; pools = refl; more = []; added = sym (append-nil w.given); told = refl };
  offered = offered;
  clocked = λ clock w. record { server = refl; all = []; pools = refl; more = []; added = sym (append-nil w.given); told = refl };
  booked = λ runs w. record { server = refl; all = []; pools = refl; more = []; added = sym (append-nil w.given); told = refl };
  done = λ c w. once (Acknowledged (id_of c)) w (is_done_with c w) refl refl (sym (append-nil w.given));
  returned = returned;
  sent = λ run c w. once (Handed run (id_of c)) w (sends run c w) refl refl refl;
  logged = logged;
  written = λ streams w. record { server = refl; all = []; pools = refl; more = []; added = sym (append-nil w.given); told = refl };
}

-- ---- all inputs

pub history : (config : Config) (sizes : List (List ℕ × ℕ)) (host : Host) (inputs : List Input)
    → PoolsHaveAHistory config (after (opening config sizes host) inputs) (deeds (opening config sizes host) inputs)
unfolding deals_steps
history config sizes host inputs =
    let m = opening config sizes host in
    let deals : Deals (now m) (now (after m inputs)) = kept_after Deals (plainly Deals deals_steps) (λ deed. refl) halted m inputs tt in
    record {
      all = deals.all;
      pools = deals.pools;
      orders = ap (filter is_of_pools) (sym (all_given config sizes host inputs) ∙ deals.added) ∙ deals.told;
    }

-- what else is ordered reports no drop
drops_of_pools : (group : List ℕ) (orders : List Order) → drops_told group (filter is_of_pools orders) ≡ drops_told group orders
drops_of_pools group [] = refl
drops_of_pools group (order.Dropped its serial poolserial ∷ orders) =
    ap (λ (drops : List Dropped). drop_told group (order.Dropped its serial poolserial) ++ drops) (drops_of_pools group orders)
drops_of_pools group (order.Stdin run bytes ∷ orders) = drops_of_pools group orders
drops_of_pools group (order.State its name from to ∷ orders) = drops_of_pools group orders
drops_of_pools group (order.Spawn spawning ∷ orders) = drops_of_pools group orders
drops_of_pools group (order.Kill run signal whole ∷ orders) = drops_of_pools group orders
drops_of_pools group (order.Append file bytes ∷ orders) = drops_of_pools group orders
drops_of_pools group (order.Shift from to ∷ orders) = drops_of_pools group orders
drops_of_pools group (order.Fresh file ∷ orders) = drops_of_pools group orders
drops_of_pools group (order.ReadFile file start length ∷ orders) = drops_of_pools group orders
drops_of_pools group (order.ClearFile file ∷ orders) = drops_of_pools group orders
drops_of_pools group (order.Names pattern ∷ orders) = drops_of_pools group orders
drops_of_pools group (order.Size file ∷ orders) = drops_of_pools group orders
drops_of_pools group (order.Send link bytes ∷ orders) = drops_of_pools group orders
drops_of_pools group (order.More link ∷ orders) = drops_of_pools group orders
drops_of_pools group (order.Close link ∷ orders) = drops_of_pools group orders
drops_of_pools group (order.Halt ∷ orders) = drops_of_pools group orders

pub accounted : (config : Config) (sizes : List (List ℕ × ℕ)) (host : Host) (inputs : List Input)
    → is_roster config.groups ≡ true → HoldSome config.groups
    → PoolsAreAccountedFor config (after (opening config sizes host) inputs) (deeds (opening config sizes host) inputs)
accounted config sizes host inputs roster some = λ place p is.
    let m = opening config sizes host in
    let was = history config sizes host inputs in
    let ps = all_pools.opening config.groups in
    let hs = happenings was.all in
    let found = found_after config.identifier hs ps place p is (only_of_roster config.groups place p roster is) in
    let fresh = fresh_at 0 config.groups place p is in
    let told : drops_told p.group (happenings_ordered config.identifier hs ps) ≡ drops_told p.group (deeds m inputs) =
    sym (entries_told config.identifier p.group was.all ps) ∙ ap (drops_told p.group) (sym was.orders) ∙ drops_of_pools p.group (deeds m inputs) in
    record {
      pool = found.pool;
      is = ap (λ (pools : EventPools). slice_get pools.each place) (was.pools ∙ entries_happened was.all ps) ∙ found.is;
      group = found.goes.group;
      listeners = found.goes.listeners;
      places = λ few. in_order p found.pool (drops_told p.group (happenings_ordered config.identifier hs ps)) fresh (some_at 0 config.groups place p some is) found.goes few;
      dropped = all_dropped p found.pool (drops_told p.group (happenings_ordered config.identifier hs ps)) fresh found.goes ∙ told;
    }
