-- Orders that are to no link, and what leaves the links and their calls as they are.
use Rattle.std.proofs.Common.{◌≡◌, ℕ, List, [], ◌∷◌, ◌++◌, filter, map, Bool, true, false, Option, Some, None, append-nil, append_assoc, refl, sym, ap, ◌∙◌, if◌then◌else◌}
use Rattle.std.specs.Prelude.{slice_get}
use Rattle.std.specs.List.{flat_map}
use Rattle.std.specs.Option.{option_map, option_to_list}
use Rattle.std.proofs.lemmas.List.Elements.{filter-append}
use Rattle.sv_base.specs.declared.config.FileOrder.TheVariants as file
use Rattle.sv_base.specs.declared.config.FileOrder.{FileOrder}
use Rattle.sv_base.specs.declared.ids.Run.{Run}
use Rattle.sv_base.specs.declared.kind.Kind.{Kind}
use Rattle.sv_base.specs.declared.signal.Signal.{Signal}
use Rattle.sv_base.specs.declared.spec.GroupSpec.{GroupSpec}
use Rattle.sv_base.specs.declared.spec.LogSpec.{LogSpec}
use Rattle.sv_base.specs.declared.spec.Spec.{Spec}
use Rattle.sv_base.specs.declared.state.How.{How}
use Rattle.sv_child.specs.Moves.{Answer}
use Rattle.sv_child.specs.declared.child.Child.{Child}
use Rattle.sv_child.specs.declared.step.Edge.{Edge}
use Rattle.sv_child.specs.declared.step.Step.{Step}
use Rattle.sv_children.specs.Crew.{Crew}
use Rattle.sv_children.specs.News.{step_of}
use Rattle.sv_children.specs.Orders.{kill, kill_at, kill_of, reports_at, reports_of}
use Rattle.sv_core_laws.proofs.Told.{AreDrops, is_drop, offer_drops, rejection_drops}
use Rattle.sv_core.specs.Events.{offers, offers_if}
use Rattle.sv_core_laws.specs.LinkHistory.{is_to_link}
use Rattle.sv_core.specs.Listening.{gives_back, id_of}
use Rattle.sv_core.specs.Logging.{drop_line, logs, logs_if, notes_if, tells_drop, tells_drops}
use Rattle.sv_core.specs.Moves.{changed, goes_edge, goes_edge_if, goes_edges, moves, reported}
use Rattle.sv_core.specs.World.{World}
use Rattle.sv_events.specs.declared.fact.Fact.{Fact}
use Rattle.sv_children.specs.EdgeFacts.{fact_at, kind_of, pid_at}
use Rattle.sv_logs.specs.Logging.{log_orders, order_of, orders_if, plan_as}
use Rattle.sv_logs.specs.Sizes.{Sizes, size_in}
use Rattle.sv_groups.specs.StartOrder.{pairs_of}
use Rattle.sv_children.specs.Lines.EdgeLines.{line_at}
use Rattle.sv_children.specs.Lines.Written.{written}
use Rattle.sv_children.specs.declared.lines.line.Line.{Line}
use Rattle.sv_logs.specs.Rotation.{orders_of}
use Rattle.sv_out.specs.declared.order.Order.TheVariants as order
use Rattle.sv_out.specs.declared.order.Order.{Order}
use Rattle.sv_pool.specs.declared.taken.Taken.{Taken}
use Rattle.sv_pool.specs.EventPools.{EventPool}
use Rattle.sv_pool.specs.Listeners.{front_written, may_get, orders_to, rejection_reports, rejects, written as order_written}
use Rattle.sv_pool.specs.Offers.{offer_reports, offered as pools_after}
use Rattle.sv_core.specs.Listening.{loses_of, loses_stdin}
use Rattle.sv_pool.specs.Listeners.{holds}
use Rattle.sv_runs.specs.RunBook.{living, lost, stdin_lost}

-- an order to a link, or a spawn
abbrev pub is_apart : Order → Bool
is_apart (order.Send link bytes) = true
is_apart (order.More link) = true
is_apart (order.Close link) = true
is_apart (order.Spawn spawning) = true
is_apart other = false

-- from one world to a later one: links, calls and the number of the next run are as they were, the daemon has halted or not as before, and no order that was given meanwhile is
-- to a link, or a spawn
pub record Silent (w v : World) : Type 0 where
  pub links : v.links ≡ w.links
  pub calls : v.calls ≡ w.calls
  pub run : v.next_run ≡ w.next_run
  pub halted : v.course.halted ≡ w.course.halted
  pub more : List Order
  pub added : v.given ≡ w.given ++ more
  pub none : filter is_apart more ≡ []

silently : (w v : World) (more : List Order) → v.links ≡ w.links → v.calls ≡ w.calls → v.next_run ≡ w.next_run
    → v.course.halted ≡ w.course.halted → v.given ≡ w.given ++ more → filter is_apart more ≡ [] → Silent w v
silently w v more links calls run halted added none =
    record { links = links; calls = calls; run = run; halted = halted; more = more; added = added; none = none }

pub still : (w v : World) → v.links ≡ w.links → v.calls ≡ w.calls → v.next_run ≡ w.next_run → v.course.halted ≡ w.course.halted
    → v.given ≡ w.given → Silent w v
still w v links calls run halted given = silently w v [] links calls run halted (given ∙ sym (append-nil w.given)) refl

pub same : (w : World) → Silent w w
same w = still w w refl refl refl refl refl

follow : (u v w : World) → Silent u v → Silent v w → Silent u w
follow u v w a b = record {
  links = b.links ∙ a.links;
  calls = b.calls ∙ a.calls;
  run = b.run ∙ a.run;
  halted = b.halted ∙ a.halted;
  more = a.more ++ b.more;
  added = b.added ∙ ap (λ (given : List Order). given ++ b.more) a.added ∙ append_assoc u.given a.more b.more;
  none = filter-append is_apart a.more b.more
      ∙ ap (λ (orders : List Order). orders ++ filter is_apart b.more) a.none
      ∙ b.none;
}

-- ---- a piece is logged

no_file : (f : FileOrder) (orders : List Order) → filter is_apart orders ≡ [] → filter is_apart (order_of f ∷ orders) ≡ []
no_file (file.Append name bytes) orders none = none
no_file (file.Shift from to) orders none = none
no_file (file.Fresh name) orders none = none

no_files : (fs : List FileOrder) → filter is_apart (map order_of fs) ≡ []
no_files [] = refl
no_files (f ∷ fs) = no_file f (map order_of fs) (no_files fs)

no_log : (log : LogSpec) (piece : List ℕ) (sizes : Sizes) → filter is_apart (log_orders log piece sizes) ≡ []
no_log log piece sizes = by_file log.file where
  by_file : (name : Option (List ℕ)) → filter is_apart (orders_if name log piece sizes) ≡ []
  by_file None = refl
  by_file (Some name) = no_files (orders_of (plan_as name (size_in name sizes) log) piece)

pub added_log : (log : LogSpec) (piece : List ℕ) (w : World) → Silent w (logs log piece w)
added_log log piece w = silently w (logs log piece w) (log_orders log piece w.sizes) refl refl refl refl refl (no_log log piece w.sizes)

added_if : (log : LogSpec) (bytes : Option (List ℕ)) (w : World) → Silent w (logs_if log bytes w)
added_if log None w = same w
added_if log (Some bytes) w = added_log log bytes w

pub noted : (line : Option Line) (w : World) → Silent w (notes_if line w)
noted None w = same w
noted (Some line) w = added_if w.config.main (written w.config.level w.moment line) w

-- ---- orders that are to no link

no_drop : (o : Order) → is_drop o ≡ true → filter is_apart (o ∷ []) ≡ []
no_drop (order.Dropped pool serial poolserial) is = refl
no_drop (order.State group name from to) is = cc
no_drop (order.Spawn spawning) is = cc
no_drop (order.Kill run signal group) is = cc
no_drop (order.Stdin run bytes) is = cc
no_drop (order.Append name bytes) is = cc
no_drop (order.Shift from to) is = cc
no_drop (order.Fresh name) is = cc
no_drop (order.ReadFile name start length) is = cc
no_drop (order.ClearFile name) is = cc
no_drop (order.Names pattern) is = cc
no_drop (order.Size name) is = cc
no_drop (order.Send link bytes) is = cc
no_drop (order.More link) is = cc
no_drop (order.Close link) is = cc
no_drop order.Halt is = cc

drop_told : (o : Order) (w : World) → is_drop o ≡ true → Silent w (tells_drop o w)
drop_told o w is =
    let told = record w { given = w.given ++ o ∷ [] } in
    follow w told (tells_drop o w) (silently w told (o ∷ []) refl refl refl refl refl (no_drop o is)) (noted (drop_line o) told)

drops_told : (os : List Order) (w : World) → AreDrops os → Silent w (tells_drops os w)
drops_told [] w are = same w
drops_told (o ∷ os) w are =
    let v = tells_drop o w in
    follow w v (tells_drops os v) (drop_told o w are.0) (drops_told os v are.1)

pub offered : (kind : Kind) (fact : Fact) (w : World) → Silent w (offers kind fact w)
offered kind fact w =
    let u = record w { pools = pools_after kind fact w.pools } in
    follow w u (offers kind fact w) (still w u refl refl refl refl refl)
    (drops_told (offer_reports kind fact w.pools) u (offer_drops kind fact w.pools))

offered_if : (kind : Kind) (fact : Option Fact) (w : World) → Silent w (offers_if kind fact w)
offered_if kind None w = same w
offered_if kind (Some fact) w = offered kind fact w

pub returned : (c : ℕ) (w : World) → Silent w (gives_back c w)
returned c w =
    let u = record w { pools = rejects (id_of c) w.pools } in
    follow w u (gives_back c w) (still w u refl refl refl refl refl)
    (drops_told (rejection_reports (id_of c) w.pools) u (rejection_drops (id_of c) w.pools))

no_report : (crew : Crew) (c : ℕ) (edge : Edge) → filter is_apart (reports_at crew c (Some edge ∷ [])) ≡ []
no_report crew c edge = by_pair (slice_get (pairs_of crew.roster) c) where
  by_pair : (pair : Option (GroupSpec × Spec)) → filter is_apart (reports_of pair (Some edge ∷ [])) ≡ []
  by_pair None = refl
  by_pair (Some pair) = refl

edge_gone : (how : Option How) (c pid : ℕ) (edge : Option Edge) (w : World) → Silent w (goes_edge_if how c pid edge w)
edge_gone how c pid None w = same w
edge_gone how c pid (Some edge) w =
    let own = reports_at w.children c (Some edge ∷ []) in
    let told = record w { given = w.given ++ own } in
    let line = line_at w.children c how edge in
    let lined = notes_if line told in
    follow w told (goes_edge how c pid edge w) (silently w told own refl refl refl refl refl (no_report w.children c edge))
    (follow told lined (goes_edge how c pid edge w) (noted line told)
    (offered_if (kind_of edge.to) (fact_at w.children c pid edge) lined))

edges_gone : (how : Option How) (c pid : ℕ) (edges : List (Option Edge)) (w : World) → Silent w (goes_edges how c pid edges w)
edges_gone how c pid [] w = same w
edges_gone how c pid (edge ∷ edges) w =
    let v = goes_edge_if how c pid edge w in
    follow w v (goes_edges how c pid edges v) (edge_gone how c pid edge w) (edges_gone how c pid edges v)

step_gone : (how : Option How) (c pid : ℕ) (step : Option Step) (w : World) → Silent w (reported how c pid step w)
step_gone how c pid None w = same w
step_gone how c pid (Some step) w = edges_gone how c pid step.edges w

pub moved : (how : Option How) (c : ℕ) (answer : Option Answer) (w : World) → Silent w (moves how c answer w)
moved how c answer w =
    let v = changed c answer w in
    follow w v (moves how c answer w) (still w v refl refl refl refl refl) (step_gone how c (pid_at w.children c) (step_of answer) v)

pub no_kill : (crew : Crew) (c : ℕ) (signal : Signal) (group : Bool) → filter is_apart (kill_at crew c signal group) ≡ []
no_kill crew c signal group = by_child (slice_get crew.all c) where
  by_run : (run : Option Run) → filter is_apart (kill run signal group) ≡ []
  by_run None = refl
  by_run (Some run) = refl

  by_child : (child : Option Child) → filter is_apart (kill_of child signal group) ≡ []
  by_child None = refl
  by_child (Some child) = by_run child.run

none_if : (b : Bool) (orders : List Order) → filter is_apart orders ≡ [] → filter is_apart (if b then orders else []) ≡ []
none_if true orders none = none
none_if false orders none = refl

no_front : (server : List ℕ) (run : Run) (group : List ℕ) (front : Option Taken)
    → filter is_apart (option_to_list (option_map (order_written server run group) front)) ≡ []
no_front server run group None = refl
no_front server run group (Some taken) = refl

pub no_hand : (server : List ℕ) (run : Run) (place : ℕ) (ps : List EventPool) → filter is_apart (flat_map (orders_to server run place) ps) ≡ []
no_hand server run place [] = refl
no_hand server run place (p ∷ ps) =
    filter-append is_apart (orders_to server run place p) (flat_map (orders_to server run place) ps)
    ∙ ap (λ (orders : List Order). orders ++ filter is_apart (flat_map (orders_to server run place) ps))
    (none_if (may_get place p) (front_written server run p) (no_front server run p.group (slice_get p.lists.waiting 0)))
    ∙ no_hand server run place ps

-- so none is to a link
pub none_to_link : (orders : List Order) → filter is_apart orders ≡ [] → filter is_to_link orders ≡ []
none_to_link [] none = refl
none_to_link (order.Send link bytes ∷ orders) none = cc
none_to_link (order.More link ∷ orders) none = cc
none_to_link (order.Close link ∷ orders) none = cc
none_to_link (order.Spawn spawning ∷ orders) none = cc
none_to_link (order.State group name from to ∷ orders) none = none_to_link orders none
none_to_link (order.Kill run signal group ∷ orders) none = none_to_link orders none
none_to_link (order.Stdin run bytes ∷ orders) none = none_to_link orders none
none_to_link (order.Append name bytes ∷ orders) none = none_to_link orders none
none_to_link (order.Shift from to ∷ orders) none = none_to_link orders none
none_to_link (order.Fresh name ∷ orders) none = none_to_link orders none
none_to_link (order.ReadFile name start length ∷ orders) none = none_to_link orders none
none_to_link (order.ClearFile name ∷ orders) none = none_to_link orders none
none_to_link (order.Names pattern ∷ orders) none = none_to_link orders none
none_to_link (order.Size name ∷ orders) none = none_to_link orders none
none_to_link (order.Dropped pool serial poolserial ∷ orders) none = none_to_link orders none
none_to_link (order.Halt ∷ orders) none = none_to_link orders none

-- an order of a run that failed
lost_of : (child : Option ℕ) (run : Run) (w : World) → Silent w (loses_of child run w)
lost_of None run w = same w
lost_of (Some c) run w = by_holder (holds (id_of c) w.pools) where
  by_holder : (b : Bool) → Silent w (if b then gives_back c (record w { runs = lost run w.runs }) else w)
  by_holder true =
      let u = record w { runs = lost run w.runs } in
      follow w u (gives_back c u) (still w u refl refl refl refl refl) (returned c u)
  by_holder false = same w

pub lost_stdin : (run : Run) (w : World) → Silent w (loses_stdin run w)
lost_stdin run w =
    let u = record w { runs = stdin_lost run w.runs } in
    follow w u (loses_stdin run w) (still w u refl refl refl refl refl) (lost_of (living run w.runs) run u)
