-- What a step of a turn leaves as it was in a world without links in which the daemon runs, and how many spawns it
-- gives.
use Rattle.std.proofs.Common.{arith, ◌≡◌, ◌+◌, ◌-◌, ℕ, zero, suc, List, [], ◌∷◌, ◌++◌, Bool, true, false, Option, Some, None, filter, length, length-append, refl, ap, ◌∙◌, if◌then◌else◌}
use Rattle.std.specs.Prelude.{slice_get}
use Rattle.std.proofs.lemmas.List.{length-set}
use Rattle.std.proofs.lemmas.List.Elements.{filter-append}
use Rattle.sv_base.specs.declared.ids.Run.{Run}
use Rattle.sv_base.specs.declared.kind.Kind.{Kind}
use Rattle.sv_base.specs.declared.kind.Kind.TheVariants as kind
use Rattle.sv_base.specs.declared.signal.Signal.{Signal}
use Rattle.sv_base.specs.declared.spec.LogSpec.{LogSpec}
use Rattle.sv_base.specs.declared.spec.Spec.{Spec}
use Rattle.sv_base.specs.declared.state.How.{How}
use Rattle.sv_child.specs.Moves.{Answer}
use Rattle.sv_child.specs.declared.child.Child.{Child}
use Rattle.sv_child.specs.declared.step.ChildDeed.{ChildDeed}
use Rattle.sv_child.specs.declared.step.ChildDeed.TheVariants.{Spawn, Kill}
use Rattle.sv_child.specs.declared.step.Edge.{Edge}
use Rattle.sv_child.specs.declared.step.Step.{Step}
use Rattle.sv_children.specs.Crew.{Crew}
use Rattle.sv_children.specs.News.{children_after, deed_of, step_of, stimulus_of}
use Rattle.sv_children.specs.Orders.{kill_at, reports_at}
use Rattle.sv_children.specs.Rewound.{all_rewound}
use Rattle.sv_children.specs.declared.news.News.TheVariants as news_is
use Rattle.sv_core.specs.Events.{announces, offers, offers_if, offers_tick, ticks}
use Rattle.sv_core.specs.HandingOut.{hands_from, hands_out, hands_to, ready_of, sends, sends_to}
use Rattle.sv_core.specs.Listening.{exits, exits_of, gives_back, id_of}
use Rattle.sv_core.specs.Logging.{drop_line, logs, logs_if, notes_if, tells_drop, tells_drops}
use Rattle.sv_core.specs.Moves.{answered, changed, comes, goes_edge, goes_edge_if, goes_edges, kills, moves, orders_spawn, reported, says}
use Rattle.sv_core.specs.Stops.{signals, stops, stops_all, stops_from}
use Rattle.sv_core.specs.Turn.{rewinds}
use Rattle.sv_core.specs.World.{World}
use Rattle.sv_core.specs.declared.course.Course.{Course}
use Rattle.sv_core.specs.declared.part.Reply.{Reply}
use Rattle.sv_core_laws.proofs.Answering.{Answering, kept_answered}
use Rattle.sv_core_laws.proofs.Silent.{Silent, added_log, is_apart, moved, no_hand, no_kill, noted, offered, returned, still}
use Rattle.sv_events.specs.TickSlice.{tick}
use Rattle.sv_events.specs.declared.fact.Fact.{Fact}
use Rattle.sv_events.specs.declared.fact.Fact.TheVariants as fact
use Rattle.sv_children.specs.EdgeFacts.{fact_at, kind_of, pid_at}
use Rattle.sv_generated.specs.Counted.{is_spawn, spawns}
use Rattle.sv_groups.specs.StartOrder.{processes}
use Rattle.sv_groups.specs.declared.order.Span.{Span}
use Rattle.sv_children.specs.Lines.EdgeLines.{line_at}
use Rattle.sv_children.specs.Lines.Written.{written}
use Rattle.sv_children.specs.declared.lines.line.Line.{Line}
use Rattle.sv_out.specs.declared.order.Order.{Order}
use Rattle.sv_out.specs.declared.order.Order.TheVariants as order
use Rattle.sv_out.specs.declared.order.SpawnOrder.{SpawnOrder}
use Rattle.sv_pool.specs.Listeners.{hand_orders, rejection_reports, rejects}
use Rattle.sv_pool.specs.Offers.{offer_reports, offered as pools_after}
use Rattle.sv_runs.specs.RunBook.{RunBook, living, process_ended}

-- from one world to a later one: so many runs were issued, each by a spawn; the links, what the daemon is about, the
-- roster and the count of children are as they were
pub record Goes (more : ℕ) (w v : World) : Type 0 where
  pub links : v.links ≡ w.links
  pub mood : v.course.mood ≡ w.course.mood
  pub halted : v.course.halted ≡ w.course.halted
  pub roster : v.children.roster ≡ w.children.roster
  pub many : length v.children.all ≡ length w.children.all
  pub run : v.next_run ≡ w.next_run + more
  pub spawned : spawns v.given ≡ spawns w.given + more

none_more : (a b : ℕ) → a ≡ b → a ≡ b + 0
none_more a b same = omega arith

pub same : (w : World) → Goes 0 w w
same w = record {
  links = refl;
  mood = refl;
  halted = refl;
  roster = refl;
  many = refl;
  run = none_more w.next_run w.next_run refl;
  spawned = none_more (spawns w.given) (spawns w.given) refl;
}

pub follow : (more : ℕ) (u v w : World) → Goes 0 u v → Goes more v w → Goes more u w
follow more u v w a b = record {
  links = b.links ∙ a.links;
  mood = b.mood ∙ a.mood;
  halted = b.halted ∙ a.halted;
  roster = b.roster ∙ a.roster;
  many = b.many ∙ a.many;
  run = sum u.next_run v.next_run w.next_run more a.run b.run;
  spawned = sum (spawns u.given) (spawns v.given) (spawns w.given) more a.spawned b.spawned;
} where
  sum : (x y z more : ℕ) → y ≡ x + 0 → z ≡ y + more → z ≡ x + more
  sum x y z more one other = omega arith

pub spawns_both : (one other : List Order) → spawns (one ++ other) ≡ spawns one + spawns other
spawns_both one other =
    ap length (filter-append is_spawn one other) ∙ length-append (filter is_spawn one) (filter is_spawn other)

no_spawns : (orders : List Order) → filter is_apart orders ≡ [] → spawns orders ≡ 0
no_spawns [] none = refl
no_spawns (order.Spawn spawning ∷ orders) none = cc
no_spawns (order.Send link bytes ∷ orders) none = cc
no_spawns (order.More link ∷ orders) none = cc
no_spawns (order.Close link ∷ orders) none = cc
no_spawns (order.State group name from to ∷ orders) none = no_spawns orders none
no_spawns (order.Kill run signal all ∷ orders) none = no_spawns orders none
no_spawns (order.Stdin run bytes ∷ orders) none = no_spawns orders none
no_spawns (order.Append name bytes ∷ orders) none = no_spawns orders none
no_spawns (order.Shift from to ∷ orders) none = no_spawns orders none
no_spawns (order.Fresh name ∷ orders) none = no_spawns orders none
no_spawns (order.ReadFile name start length ∷ orders) none = no_spawns orders none
no_spawns (order.ClearFile name ∷ orders) none = no_spawns orders none
no_spawns (order.Names pattern ∷ orders) none = no_spawns orders none
no_spawns (order.Size name ∷ orders) none = no_spawns orders none
no_spawns (order.Dropped pool serial poolserial ∷ orders) none = no_spawns orders none
no_spawns (order.Halt ∷ orders) none = no_spawns orders none

none_spawned : (older more given : List Order) → given ≡ older ++ more → filter is_apart more ≡ []
    → spawns given ≡ spawns older + 0
none_spawned older more given added none =
    ap spawns added ∙ spawns_both older more ∙ ap (λ (n : ℕ). spawns older + n) (no_spawns more none)

-- ---- what leaves the children and what the daemon is about

record Stays (w v : World) : Type 0 where
  crew : v.children ≡ w.children
  course : v.course ≡ w.course

stays : (w : World) → Stays w w
stays w = record { crew = refl; course = refl }

stays_on : (u v w : World) → Stays u v → Stays v w → Stays u w
stays_on u v w a b = record { crew = b.crew ∙ a.crew; course = b.course ∙ a.course }

log_stays : (log : LogSpec) (bytes : Option (List ℕ)) (w : World) → Stays w (logs_if log bytes w)
log_stays log None w = stays w
log_stays log (Some bytes) w = record { crew = refl; course = refl }

note_stays : (line : Option Line) (w : World) → Stays w (notes_if line w)
note_stays None w = stays w
note_stays (Some line) w = log_stays w.config.main (written w.config.level w.moment line) w

drops_stay : (reports : List Order) (w : World) → Stays w (tells_drops reports w)
drops_stay [] w = stays w
drops_stay (report ∷ reports) w =
    let told = record w { given = w.given ++ report ∷ [] } in
    let v = tells_drop report w in
    let noted = note_stays (drop_line report) told in
    stays_on w v (tells_drops reports v) (record { crew = noted.crew; course = noted.course }) (drops_stay reports v)

offer_stays : (kind : Kind) (fact : Fact) (w : World) → Stays w (offers kind fact w)
offer_stays kind fact w =
    let u = record w { pools = pools_after kind fact w.pools } in
    let told = drops_stay (offer_reports kind fact w.pools) u in
    record { crew = told.crew; course = told.course }

offer_if_stays : (kind : Kind) (fact : Option Fact) (w : World) → Stays w (offers_if kind fact w)
offer_if_stays kind None w = stays w
offer_if_stays kind (Some fact) w = offer_stays kind fact w

return_stays : (c : ℕ) (w : World) → Stays w (gives_back c w)
return_stays c w =
    let u = record w { pools = rejects (id_of c) w.pools } in
    let told = drops_stay (rejection_reports (id_of c) w.pools) u in
    record { crew = told.crew; course = told.course }

edge_stays : (how : Option How) (c pid : ℕ) (edge : Option Edge) (w : World) → Stays w (goes_edge_if how c pid edge w)
edge_stays how c pid None w = stays w
edge_stays how c pid (Some edge) w =
    let told = record w { given = w.given ++ reports_at w.children c (Some edge ∷ []) } in
    let lined = notes_if (line_at w.children c how edge) told in
    let noted = note_stays (line_at w.children c how edge) told in
    stays_on w lined (goes_edge how c pid edge w) (record { crew = noted.crew; course = noted.course })
    (offer_if_stays (kind_of edge.to) (fact_at w.children c pid edge) lined)

edges_stay : (how : Option How) (c pid : ℕ) (edges : List (Option Edge)) (w : World)
    → Stays w (goes_edges how c pid edges w)
edges_stay how c pid [] w = stays w
edges_stay how c pid (edge ∷ edges) w =
    let v = goes_edge_if how c pid edge w in
    stays_on w v (goes_edges how c pid edges v) (edge_stays how c pid edge w) (edges_stay how c pid edges v)

step_stays : (how : Option How) (c pid : ℕ) (step : Option Step) (w : World) → Stays w (reported how c pid step w)
step_stays how c pid None w = stays w
step_stays how c pid (Some step) w = edges_stay how c pid step.edges w

-- no spawn is given, and the children and what the daemon is about stay
silently : (w v : World) → Silent w v → Stays w v → Goes 0 w v
silently w v silent stays = record {
  links = silent.links;
  mood = ap (λ (course : Course). course.mood) stays.course;
  halted = ap (λ (course : Course). course.halted) stays.course;
  roster = ap (λ (crew : Crew). crew.roster) stays.crew;
  many = ap (λ (crew : Crew). length crew.all) stays.crew;
  run = none_more v.next_run w.next_run silent.run;
  spawned = none_spawned w.given silent.more v.given silent.added silent.none;
}

pub note_goes : (line : Option Line) (w : World) → Goes 0 w (notes_if line w)
note_goes line w = silently w (notes_if line w) (noted line w) (note_stays line w)

offer_goes : (kind : Kind) (fact : Fact) (w : World) → Goes 0 w (offers kind fact w)
offer_goes kind fact w = silently w (offers kind fact w) (offered kind fact w) (offer_stays kind fact w)

-- ---- children

same_many : (c : ℕ) (answer : Option Answer) (all : List Child) → length (children_after c answer all) ≡ length all
same_many c None all = refl
same_many c (Some answer) all = length-set all c answer.child

pub move_goes : (how : Option How) (c : ℕ) (answer : Option Answer) (w : World) → Goes 0 w (moves how c answer w)
move_goes how c answer w =
    let u = changed c answer w in
    let v = moves how c answer w in
    let silent = moved how c answer w in
    let stays = step_stays how c (pid_at w.children c) (step_of answer) u in record {
      links = silent.links;
      mood = ap (λ (course : Course). course.mood) stays.course;
      halted = ap (λ (course : Course). course.halted) stays.course;
      roster = ap (λ (crew : Crew). crew.roster) stays.crew;
      many = ap (λ (crew : Crew). length crew.all) stays.crew ∙ same_many c answer w.children.all;
      run = none_more v.next_run w.next_run silent.run;
      spawned = none_spawned w.given silent.more v.given silent.added silent.none;
    }

pub kill_goes : (c : ℕ) (signal : Signal) (group : Bool) (w : World) → Goes 0 w (kills c signal group w)
kill_goes c signal group w = record {
  links = refl;
  mood = refl;
  halted = refl;
  roster = refl;
  many = refl;
  run = none_more w.next_run w.next_run refl;
  spawned = none_spawned w.given (kill_at w.children c signal group) (w.given ++ kill_at w.children c signal group) refl
      (no_kill w.children c signal group);
}

pub spawn_goes : (spawning : SpawnOrder) (w : World) → Goes 1 w (orders_spawn spawning w)
spawn_goes spawning w = record {
  links = refl;
  mood = refl;
  halted = refl;
  roster = refl;
  many = refl;
  run = refl;
  spawned = spawns_both w.given (order.Spawn spawning ∷ []);
}

book_goes : (runs : RunBook) (w : World) → Goes 0 w (record w { runs = runs })
book_goes runs w =
    silently w (record w { runs = runs }) (still w (record w { runs = runs }) refl refl refl refl refl)
    (record { crew = refl; course = refl })

answering : Answering (Goes 0)
answering = record {
  same = same;
  follow = follow 0;
  came = λ how stimulus c w never. move_goes how c (says stimulus c w) w;
  booked = book_goes;
  logged = λ log piece w. silently w (logs log piece w) (added_log log piece w) (record { crew = refl; course = refl });
  written = λ streams w.
      silently w (record w { streams = streams }) (still w (record w { streams = streams }) refl refl refl refl refl)
      (record { crew = refl; course = refl });
}

pub answer_goes : (c : ℕ) (run : Run) (reply : Reply) (w : World) → Goes 0 w (answered c run reply w)
answer_goes = kept_answered (Goes 0) answering

-- ---- steps of a turn that ask nothing

pub announce_goes : (w : World) → Goes 0 w (announces w)
announce_goes w = by_test w.course.announced where
  by_test : (b : Bool) → Goes 0 w (if b
      then w
      else offers kind.SupervisorStateChangeRunning fact.Supervisor (record w {
        course = record w.course { announced = true };
      }))
  by_test true = same w
  by_test false =
      let u = record w { course = record w.course { announced = true } } in
      let offer = offer_goes kind.SupervisorStateChangeRunning fact.Supervisor u in record {
        links = offer.links;
        mood = offer.mood;
        halted = offer.halted;
        roster = offer.roster;
        many = offer.many;
        run = offer.run;
        spawned = offer.spawned;
      }

many_rewound : (at : ℕ) (specs : List Spec) (all : List Child) → length (all_rewound at specs all) ≡ length all
many_rewound at specs [] = refl
many_rewound at [] (c ∷ all) = refl
many_rewound at (spec ∷ specs) (c ∷ all) = ap suc (many_rewound at specs all)

pub rewind_goes : (at : ℕ) (w : World) → Goes 0 w (rewinds at w)
rewind_goes at w = record {
  links = refl;
  mood = refl;
  halted = refl;
  roster = refl;
  many = many_rewound at (processes w.children.roster) w.children.all;
  run = none_more w.next_run w.next_run refl;
  spawned = none_more (spawns w.given) (spawns w.given) refl;
}

exit_of_goes : (child : Option ℕ) (run : Run) (how : How) (w : World) → Goes 0 w (exits_of child run how w)
exit_of_goes None run how w = same w
exit_of_goes (Some c) run how w =
    let v = comes (Some how) (stimulus_of (news_is.Exit run how)) c w in
    let u = record v { runs = process_ended run v.runs } in
    follow 0 w v (gives_back c u) (move_goes (Some how) c (says (stimulus_of (news_is.Exit run how)) c w) w)
    (follow 0 v u (gives_back c u) (book_goes (process_ended run v.runs) v)
    (silently u (gives_back c u) (returned c u) (return_stays c u)))

pub exit_goes : (run : Run) (how : How) (w : World) → Goes 0 w (exits run how w)
exit_goes run how w = exit_of_goes (living run w.runs) run how w

signal_goes : (deed : Option ChildDeed) (c : ℕ) (w : World) → Goes 0 w (signals deed c w)
signal_goes (Some (Kill signal group)) c w = kill_goes c signal group w
signal_goes (Some Spawn) c w = same w
signal_goes None c w = same w

stop_goes : (c : ℕ) (w : World) → Goes 0 w (stops c w)
stop_goes c w =
    let answer = says (stimulus_of news_is.Stop) c w in
    let v = moves None c answer w in
    follow 0 w v (stops c w) (move_goes None c answer w) (signal_goes (deed_of (step_of answer)) c v)

stops_go : (from left : ℕ) (w : World) → Goes 0 w (stops_from from left w)
stops_go from zero w = same w
stops_go from (suc left) w =
    let v = stops (from + left) w in
    follow 0 w v (stops_from from left v) (stop_goes (from + left) w) (stops_go from left v)

pub all_stops_go : (span : Span) (w : World) → Goes 0 w (stops_all span w)
all_stops_go span w = stops_go span.from (span.to - span.from) w

tick_goes : (kind : Kind) (when : Option ℕ) (w : World) → Goes 0 w (offers_tick kind when w)
tick_goes kind None w = same w
tick_goes kind (Some when) w = offer_goes kind (fact.Tick when) w

pub ticks_go : (w : World) → Goes 0 w (ticks w)
ticks_go w =
    let old = w.clock in
    let new = w.moment in
    let a = record w { clock = new } in
    let b = offers_tick kind.Tick5 (tick 5 old new) a in
    let d = offers_tick kind.Tick60 (tick 60 old new) b in
    follow 0 w a (ticks w) (silently w a (still w a refl refl refl refl refl) (record { crew = refl; course = refl }))
    (follow 0 a b (ticks w) (tick_goes kind.Tick5 (tick 5 old new) a)
    (follow 0 b d (ticks w) (tick_goes kind.Tick60 (tick 60 old new) b)
    (tick_goes kind.Tick3600 (tick 3600 old new) d)))

hand_goes : (run : Option Run) (c : ℕ) (w : World) → Goes 0 w (sends_to run c w)
hand_goes None c w = same w
hand_goes (Some run) c w = record {
  links = refl;
  mood = refl;
  halted = refl;
  roster = refl;
  many = refl;
  run = none_more w.next_run w.next_run refl;
  spawned = none_spawned w.given (hand_orders w.config.identifier run (id_of c) w.pools) (sends run c w).given refl
      (no_hand w.config.identifier run (id_of c) w.pools.each);
}

hands_go : (left c : ℕ) (w : World) → Goes 0 w (hands_from left c w)
hands_go zero c w = same w
hands_go (suc left) c w =
    follow 0 w (hands_to c w) (hands_from left (c + 1) (hands_to c w))
    (hand_goes (ready_of (slice_get w.children.all c) w.runs) c w) (hands_go left (c + 1) (hands_to c w))

pub all_hands_go : (w : World) → Goes 0 w (hands_out w)
all_hands_go w = hands_go (length w.children.all - 0) 0 w
