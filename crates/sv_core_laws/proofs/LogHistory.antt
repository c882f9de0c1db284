-- What a turn does to log files: pieces are logged, and no other order is about them.
use Rattle.std.proofs.Common.{◌≡◌, ℕ, List, [], ◌∷◌, ◌++◌, filter, map, Bool, true, false, Option, Some, None, append-nil, append_assoc, refl, sym, ap, ◌∙◌, if◌then◌else◌}
use Rattle.std.specs.Prelude.{slice_get}
use Rattle.std.specs.List.{flat_map}
use Rattle.std.specs.Option.{option_map, option_to_list}
use Rattle.std.proofs.lemmas.List.Elements.{filter-append}
use Rattle.sv_base.specs.declared.config.Config.{Config}
use Rattle.sv_base.specs.declared.config.FileOrder.{FileOrder}
use Rattle.sv_base.specs.declared.config.FileOrder.TheVariants as file
use Rattle.sv_base.specs.declared.config.Host.{Host}
use Rattle.sv_base.specs.declared.ids.Run.{Run}
use Rattle.sv_base.specs.declared.kind.Kind.{Kind}
use Rattle.sv_base.specs.declared.signal.Signal.{Signal}
use Rattle.sv_base.specs.declared.spec.GroupSpec.{GroupSpec}
use Rattle.sv_base.specs.declared.spec.LogSpec.{LogSpec}
use Rattle.sv_base.specs.declared.spec.Spec.{Spec}
use Rattle.sv_base.specs.declared.state.How.{How}
use Rattle.sv_child.specs.Moves.{Answer}
use Rattle.sv_child.specs.declared.child.Child.{Child}
use Rattle.sv_child.specs.declared.step.Edge.{Edge}
use Rattle.sv_child.specs.declared.step.Step.{Step}
use Rattle.sv_children.specs.Crew.{Crew}
use Rattle.sv_children.specs.News.{step_of}
use Rattle.sv_children.specs.Orders.{kill, kill_at, kill_of, reports_at, reports_of}
use Rattle.sv_core_laws.proofs.Reported.{all_given}
use Rattle.sv_core_laws.proofs.LinkOrders.{each_link_order}
use Rattle.sv_core_laws.proofs.PlainSteps.{PlainSteps, plainly}
use Rattle.sv_core_laws.proofs.Walk.{kept_after}
use Rattle.sv_core_laws.proofs.Told.{AreDrops, is_drop, offer_drops, rejection_drops}
use Rattle.sv_core.specs.Deeds.{after, deeds}
use Rattle.sv_core.specs.Events.{offers, offers_if}
use Rattle.sv_core.specs.Listening.{gives_back, id_of}
use Rattle.sv_core_laws.specs.LinkHistory.{LinkEntry, entry_orders}
use Rattle.sv_core_laws.specs.LogHistory.{LogsHaveAHistory, is_of_logs}
use Rattle.sv_core.specs.Logging.{drop_line, logs, logs_if, notes_if, tells_drop, tells_drops}
use Rattle.sv_core.specs.MachineState.{now, opening}
use Rattle.sv_core.specs.Moves.{changed, goes_edge, goes_edge_if, goes_edges, moves, reported, says}
use Rattle.sv_core.specs.World.{World}
use Rattle.sv_events.specs.declared.fact.Fact.{Fact}
use Rattle.sv_children.specs.EdgeFacts.{fact_at, kind_of, pid_at}
use Rattle.sv_logs.specs.LogDeeds.{LogDeed, all_orders, all_sizes, deed_orders, sizes_after}
use Rattle.sv_logs.specs.LogDeeds.LogDeed.{Adds, Empties}
use Rattle.sv_logs.specs.Logging.{log_orders, order_of, orders_if, plan_as}
use Rattle.sv_logs.specs.Sizes.{Sizes, size_in}
use Rattle.sv_groups.specs.StartOrder.{pairs_of}
use Rattle.sv_children.specs.Lines.EdgeLines.{line_at}
use Rattle.sv_children.specs.Lines.Written.{written}
use Rattle.sv_children.specs.declared.lines.line.Line.{Line}
use Rattle.sv_logs.specs.Rotation.{orders_of}
use Rattle.sv_links.specs.LinkBook.{LinkRecord}
use Rattle.sv_out.specs.declared.input.Input.{Input}
use Rattle.sv_out.specs.declared.order.Order.{Order}
use Rattle.sv_out.specs.declared.order.Order.TheVariants as order
use Rattle.sv_pool.specs.declared.taken.Taken.{Taken}
use Rattle.sv_pool.specs.EventPools.{EventPool}
use Rattle.sv_pool.specs.Listeners.{front_written, hand_orders, may_get, orders_to, rejection_reports, rejects, written as order_written}
use Rattle.sv_pool.specs.Offers.{offer_reports, offered as pools_after}

-- from one world to a later one: what was logged meanwhile, and which orders tell of it
pub record Keeps (w v : World) : Type 0 where
  pub all : List LogDeed
  pub sizes : v.sizes ≡ all_sizes all w.sizes
  pub more : List Order
  pub added : v.given ≡ w.given ++ more
  pub told : filter is_of_logs more ≡ all_orders all w.sizes

logged_on : (one other : List LogDeed) (sizes : Sizes) → all_sizes (one ++ other) sizes ≡ all_sizes other (all_sizes one sizes)
logged_on [] other sizes = refl
logged_on (deed ∷ one) other sizes = logged_on one other (sizes_after deed sizes)

orders_on : (one other : List LogDeed) (sizes : Sizes)
    → all_orders (one ++ other) sizes ≡ all_orders one sizes ++ all_orders other (all_sizes one sizes)
orders_on [] other sizes = refl
orders_on (deed ∷ one) other sizes =
    ap (λ (rest : List Order). deed_orders deed sizes ++ rest) (orders_on one other (sizes_after deed sizes))
    ∙ sym (append_assoc (deed_orders deed sizes) (all_orders one (sizes_after deed sizes)) (all_orders other (all_sizes one (sizes_after deed sizes))))

-- nothing is logged
quiet : (w v : World) (more : List Order) → v.sizes ≡ w.sizes → v.given ≡ w.given ++ more → filter is_of_logs more ≡ [] → Keeps w v
quiet w v more sizes added none = record { all = []; sizes = sizes; more = more; added = added; told = none }

still : (w v : World) → v.sizes ≡ w.sizes → v.given ≡ w.given → Keeps w v
still w v sizes given = quiet w v [] sizes (given ∙ sym (append-nil w.given)) refl

same : (w : World) → Keeps w w
same w = still w w refl refl

follow : (u v w : World) → Keeps u v → Keeps v w → Keeps u w
follow u v w a b = record {
  all = a.all ++ b.all;
  sizes = b.sizes ∙ ap (all_sizes b.all) a.sizes ∙ sym (logged_on a.all b.all u.sizes);
  more = a.more ++ b.more;
  added = b.added ∙ ap (λ (given : List Order). given ++ b.more) a.added ∙ append_assoc u.given a.more b.more;
  told = filter-append is_of_logs a.more b.more
      ∙ ap (λ (orders : List Order). orders ++ filter is_of_logs b.more) a.told
      ∙ ap (λ (orders : List Order). all_orders a.all u.sizes ++ orders) b.told
      ∙ ap (λ (sizes : Sizes). all_orders a.all u.sizes ++ all_orders b.all sizes) a.sizes
      ∙ sym (orders_on a.all b.all u.sizes);
}

-- ---- a piece is logged

file_kept : (f : FileOrder) (orders : List Order) → filter is_of_logs (order_of f ∷ orders) ≡ order_of f ∷ filter is_of_logs orders
file_kept (file.Append name bytes) orders = refl
file_kept (file.Shift from to) orders = refl
file_kept (file.Fresh name) orders = refl

files_kept : (fs : List FileOrder) → filter is_of_logs (map order_of fs) ≡ map order_of fs
files_kept [] = refl
files_kept (f ∷ fs) = file_kept f (map order_of fs) ∙ ap (λ (orders : List Order). order_of f ∷ orders) (files_kept fs)

log_kept : (log : LogSpec) (piece : List ℕ) (sizes : Sizes) → filter is_of_logs (log_orders log piece sizes) ≡ log_orders log piece sizes
log_kept log piece sizes = by_file log.file where
  by_file : (name : Option (List ℕ)) → filter is_of_logs (orders_if name log piece sizes) ≡ orders_if name log piece sizes
  by_file None = refl
  by_file (Some name) = files_kept (orders_of (plan_as name (size_in name sizes) log) piece)

added_log : (log : LogSpec) (piece : List ℕ) (w : World) → Keeps w (logs log piece w)
added_log log piece w = record {
  all = Adds log piece ∷ [];
  sizes = refl;
  more = log_orders log piece w.sizes;
  added = refl;
  told = log_kept log piece w.sizes ∙ sym (append-nil (log_orders log piece w.sizes));
}

added_if : (log : LogSpec) (bytes : Option (List ℕ)) (w : World) → Keeps w (logs_if log bytes w)
added_if log None w = same w
added_if log (Some bytes) w = added_log log bytes w

noted : (line : Option Line) (w : World) → Keeps w (notes_if line w)
noted None w = same w
noted (Some line) w = added_if w.config.main (written w.config.level w.moment line) w

-- ---- orders that are not about logs

no_drop : (o : Order) → is_drop o ≡ true → filter is_of_logs (o ∷ []) ≡ []
no_drop (order.Dropped pool serial poolserial) is = refl
no_drop (order.State group name from to) is = cc
no_drop (order.Spawn spawning) is = cc
no_drop (order.Kill run signal group) is = cc
no_drop (order.Stdin run bytes) is = cc
no_drop (order.Append name bytes) is = cc
no_drop (order.Shift from to) is = cc
no_drop (order.Fresh name) is = cc
no_drop (order.ReadFile name start length) is = cc
no_drop (order.ClearFile name) is = cc
no_drop (order.Names pattern) is = cc
no_drop (order.Size name) is = cc
no_drop (order.Send link bytes) is = cc
no_drop (order.More link) is = cc
no_drop (order.Close link) is = cc
no_drop order.Halt is = cc

told_drop : (o : Order) (w : World) → is_drop o ≡ true → Keeps w (tells_drop o w)
told_drop o w is =
    let told = record w { given = w.given ++ o ∷ [] } in
    follow w told (tells_drop o w) (quiet w told (o ∷ []) refl refl (no_drop o is)) (noted (drop_line o) told)

told_drops : (os : List Order) (w : World) → AreDrops os → Keeps w (tells_drops os w)
told_drops [] w are = same w
told_drops (o ∷ os) w are =
    let v = tells_drop o w in
    follow w v (tells_drops os v) (told_drop o w are.0) (told_drops os v are.1)

offered : (kind : Kind) (fact : Fact) (w : World) → Keeps w (offers kind fact w)
offered kind fact w =
    let u = record w { pools = pools_after kind fact w.pools } in
    follow w u (offers kind fact w) (still w u refl refl)
    (told_drops (offer_reports kind fact w.pools) u (offer_drops kind fact w.pools))

offered_if : (kind : Kind) (fact : Option Fact) (w : World) → Keeps w (offers_if kind fact w)
offered_if kind None w = same w
offered_if kind (Some fact) w = offered kind fact w

returned : (c : ℕ) (w : World) → Keeps w (gives_back c w)
returned c w =
    let u = record w { pools = rejects (id_of c) w.pools } in
    follow w u (gives_back c w) (still w u refl refl)
    (told_drops (rejection_reports (id_of c) w.pools) u (rejection_drops (id_of c) w.pools))

no_report : (crew : Crew) (c : ℕ) (edge : Edge) → filter is_of_logs (reports_at crew c (Some edge ∷ [])) ≡ []
no_report crew c edge = by_pair (slice_get (pairs_of crew.roster) c) where
  by_pair : (pair : Option (GroupSpec × Spec)) → filter is_of_logs (reports_of pair (Some edge ∷ [])) ≡ []
  by_pair None = refl
  by_pair (Some pair) = refl

edge_gone : (how : Option How) (c pid : ℕ) (edge : Option Edge) (w : World) → Keeps w (goes_edge_if how c pid edge w)
edge_gone how c pid None w = same w
edge_gone how c pid (Some edge) w =
    let own = reports_at w.children c (Some edge ∷ []) in
    let told = record w { given = w.given ++ own } in
    let line = line_at w.children c how edge in
    let lined = notes_if line told in
    follow w told (goes_edge how c pid edge w) (quiet w told own refl refl (no_report w.children c edge))
    (follow told lined (goes_edge how c pid edge w) (noted line told)
    (offered_if (kind_of edge.to) (fact_at w.children c pid edge) lined))

edges_gone : (how : Option How) (c pid : ℕ) (edges : List (Option Edge)) (w : World) → Keeps w (goes_edges how c pid edges w)
edges_gone how c pid [] w = same w
edges_gone how c pid (edge ∷ edges) w =
    let v = goes_edge_if how c pid edge w in
    follow w v (goes_edges how c pid edges v) (edge_gone how c pid edge w) (edges_gone how c pid edges v)

step_gone : (how : Option How) (c pid : ℕ) (step : Option Step) (w : World) → Keeps w (reported how c pid step w)
step_gone how c pid None w = same w
step_gone how c pid (Some step) w = edges_gone how c pid step.edges w

moved : (how : Option How) (c : ℕ) (answer : Option Answer) (w : World) → Keeps w (moves how c answer w)
moved how c answer w =
    let v = changed c answer w in
    follow w v (moves how c answer w) (still w v refl refl) (step_gone how c (pid_at w.children c) (step_of answer) v)

no_kill : (crew : Crew) (c : ℕ) (signal : Signal) (group : Bool) → filter is_of_logs (kill_at crew c signal group) ≡ []
no_kill crew c signal group = by_child (slice_get crew.all c) where
  by_run : (run : Option Run) → filter is_of_logs (kill run signal group) ≡ []
  by_run None = refl
  by_run (Some run) = refl

  by_child : (child : Option Child) → filter is_of_logs (kill_of child signal group) ≡ []
  by_child None = refl
  by_child (Some child) = by_run child.run

none_if : (b : Bool) (orders : List Order) → filter is_of_logs orders ≡ [] → filter is_of_logs (if b then orders else []) ≡ []
none_if true orders none = none
none_if false orders none = refl

no_front : (server : List ℕ) (run : Run) (group : List ℕ) (front : Option Taken)
    → filter is_of_logs (option_to_list (option_map (order_written server run group) front)) ≡ []
no_front server run group None = refl
no_front server run group (Some taken) = refl

no_hand : (server : List ℕ) (run : Run) (place : ℕ) (ps : List EventPool) → filter is_of_logs (flat_map (orders_to server run place) ps) ≡ []
no_hand server run place [] = refl
no_hand server run place (p ∷ ps) =
    filter-append is_of_logs (orders_to server run place p) (flat_map (orders_to server run place) ps)
    ∙ ap (λ (orders : List Order). orders ++ filter is_of_logs (flat_map (orders_to server run place) ps))
    (none_if (may_get place p) (front_written server run p) (no_front server run p.group (slice_get p.lists.waiting 0)))
    ∙ no_hand server run place ps

no_link : (entry : LinkEntry) (book : List LinkRecord) → filter is_of_logs (entry_orders entry book) ≡ []
no_link entry book =
    each_link_order (λ (orders : List Order). filter is_of_logs orders ≡ []) refl
    (λ link bytes rest none. none) (λ link rest none. none) (λ link rest none. none) entry.deed entry.bytes book

halted : (w : World) → Keeps w (record w { course = record w.course { halted = true } })
halted w = record { all = []; sizes = refl; more = []; added = sym (append-nil w.given); told = refl }

pub keeps_steps : PlainSteps Keeps
keeps_steps = record {
  may = λ deed. true;
  same = same;
  follow = follow;
  rewound = λ at w. record { all = []; sizes = refl; more = []; added = sym (append-nil w.given); told = refl };
  came = λ how stimulus c w. moved how c (says stimulus c w) w;
  killed = λ c signal group w. record {
    all = [];
    sizes = refl;
    more = kill_at w.children c signal group;
    added = refl;
    told = no_kill w.children c signal group;
  };
  ordered = λ spawning w. record { all = []; sizes = refl; more = order.Spawn spawning ∷ []; added = refl; told = refl };
  steered = λ course w same. record { all = []; sizes = refl; more = []; added = sym (append-nil w.given); told = refl };
  ended = λ w. record { all = []; sizes = refl; more = order.Halt ∷ []; added = refl; told = refl };
  linked = λ entry w ok. record { all = []; sizes = refl; more = entry_orders entry w.links; added = refl; told = no_link entry w.links };
  read = λ file start length w. record { all = []; sizes = refl; more = order.ReadFile file start length ∷ []; added = refl; told = refl };
  called = λ calls w. record { all = []; sizes = refl; more = []; added = sym (append-nil w.given); told = refl };
  told = λ run bytes w. record { all = []; sizes = refl; more = order.Stdin run bytes ∷ []; added = refl; told = refl };
  wiped = λ file w. record { all = []; sizes = refl; more = order.ClearFile file ∷ []; added = refl; told = refl };
  emptied = λ file w. record { all = Empties file ∷ []; sizes = refl; more = []; added = sym (append-nil w.given); told = refl };
  offered = offered;
  clocked = λ clock w. record { all = []; sizes = refl; more = []; added = sym (append-nil w.given); told = refl };
  booked = λ runs w. record { all = []; sizes = refl; more = []; added = sym (append-nil w.given); told = refl };
  done = λ c w. record { all = []; sizes = refl; more = []; added = sym (append-nil w.given); told = refl };
  returned = returned;
  sent = λ run c w. record {
    all = [];
    sizes = refl;
    more = hand_orders w.config.identifier run (id_of c) w.pools;
    added = refl;
    told = no_hand w.config.identifier run (id_of c) w.pools.each;
  };
  logged = added_log;
  written = λ streams w. record { all = []; sizes = refl; more = []; added = sym (append-nil w.given); told = refl };
}

-- ---- all inputs

pub history : (config : Config) (sizes : List (List ℕ × ℕ)) (host : Host) (inputs : List Input)
    → LogsHaveAHistory config sizes (after (opening config sizes host) inputs) (deeds (opening config sizes host) inputs)
unfolding keeps_steps
history config sizes host inputs =
    let m = opening config sizes host in
    let keeps : Keeps (now m) (now (after m inputs)) = kept_after Keeps (plainly Keeps keeps_steps) (λ deed. refl) halted m inputs tt in
    record {
      all = keeps.all;
      sizes = keeps.sizes;
      orders = ap (filter is_of_logs) (sym (all_given config sizes host inputs) ∙ keeps.added) ∙ keeps.told;
    }
