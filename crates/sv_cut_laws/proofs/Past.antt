-- Orders that were given before change nothing of what a step does, and the links only what is done with links.
use Rattle.std.proofs.Common.{◌≡◌, ℕ, zero, suc, ◌+◌, ◌++◌, List, [], ◌∷◌, Bool, true, false, ◌||◌, Option, Some, None, if◌then◌else◌, ◌∙◌, refl, ap, append_assoc}
use Rattle.std.specs.Prelude.{◌-◌, length, codes, slice_get}
use Rattle.std.specs.Str.{bytes_eq}
use Rattle.sv_base.specs.declared.ids.Run.{Run}
use Rattle.sv_base.specs.declared.kind.Kind.{Kind}
use Rattle.sv_base.specs.declared.kind.Kind.TheVariants as kind
use Rattle.sv_base.specs.declared.signal.Signal.{Signal}
use Rattle.sv_base.specs.declared.spec.LogSpec.{LogSpec}
use Rattle.sv_base.specs.declared.state.How.{How}
use Rattle.sv_base.specs.declared.state.Mood.TheVariants as mood_is
use Rattle.sv_base.specs.declared.state.Stream.{Stream}
use Rattle.sv_base.specs.declared.state.Stream.TheVariants.{Out, Err}
use Rattle.sv_child.specs.ChildTable.{Stimulus}
use Rattle.sv_child.specs.Moves.{Answer, is_running}
use Rattle.sv_child.specs.declared.child.Child.{Child}
use Rattle.sv_child.specs.declared.step.ChildDeed.{ChildDeed}
use Rattle.sv_child.specs.declared.step.ChildDeed.TheVariants.{Spawn, Kill}
use Rattle.sv_child.specs.declared.step.Edge.{Edge}
use Rattle.sv_child.specs.declared.step.Step.{Step}
use Rattle.sv_children.specs.Crew.{Member, member_at}
use Rattle.sv_children.specs.News.{deed_of, step_of, stimulus_of, stimulus_told}
use Rattle.sv_children.specs.Orders.{kill_at, reports_at}
use Rattle.sv_children.specs.declared.news.News.TheVariants as news_is
use Rattle.sv_core.specs.Events.{announces, offers, offers_change, offers_if, offers_tick, ticks}
use Rattle.sv_core.specs.HandingOut.{hands_from, hands_out, hands_to, ready_of, sends, sends_to}
use Rattle.sv_core.specs.Listening.{exits, exits_of, gives_back, hears, id_of, is_done_with, loses_of, loses_stdin, tells, tells_all, tells_by}
use Rattle.sv_core.specs.Logging.{drop_line, logs, logs_if, notes_if, tells_drop, tells_drops}
use Rattle.sv_core.specs.Moves.{answered, begins_as, begins_output_of, begins_run, changed, comes, fails, goes_edge, goes_edge_if, goes_edges, is_listener_of, kills, moves, orders_spawn, reported, says, started_as, told_of}
use Rattle.sv_core.specs.Output.{ends_pipe, hears_on, log_fact, log_kind, log_of, logs_of, message_fact, message_kind, says_on, takes_all, takes_part, takes_parts}
use Rattle.sv_core.specs.Shutdown.{begins_shutdown, drops_group, follows_plan, has_come_to_rest, heeds, in_mood, is_ending, moves_on, tells_group}
use Rattle.sv_core.specs.Stops.{signals, stops, stops_all, stops_from}
use Rattle.sv_core.specs.World.{World}
use Rattle.sv_core.specs.declared.part.Reply.{Reply}
use Rattle.sv_core.specs.declared.part.Reply.TheVariants.{Refused}
use Rattle.sv_events.specs.TickSlice.{tick}
use Rattle.sv_events.specs.declared.fact.Fact.{Fact}
use Rattle.sv_events.specs.declared.fact.Fact.TheVariants as fact
use Rattle.sv_children.specs.EdgeFacts.{fact_at, kind_of, pid_at}
use Rattle.sv_logs.specs.Logging.{log_orders, logged}
use Rattle.sv_groups.specs.StartOrder.{span_of}
use Rattle.sv_groups.specs.declared.order.Span.{Span}
use Rattle.sv_children.specs.Lines.EdgeLines.{line_at, spawned_at}
use Rattle.sv_children.specs.Lines.Written.{written}
use Rattle.sv_children.specs.declared.lines.line.Line.{Line}
use Rattle.sv_links.specs.LinkBook.{LinkRecord}
use Rattle.sv_out.specs.declared.order.Order.{Order}
use Rattle.sv_out.specs.declared.order.Order.TheVariants as order
use Rattle.sv_out.specs.declared.order.SpawnOrder.{SpawnOrder}
use Rattle.sv_pipes.specs.declared.parts.Part.{Part as Heard}
use Rattle.sv_pipes.specs.declared.parts.Part.TheVariants as part
use Rattle.sv_pipes.specs.declared.tokens.Token.{Token}
use Rattle.sv_pipes.specs.declared.tokens.Token.TheVariants as token
use Rattle.sv_pool.specs.Listeners.{hand_orders, handed, holds, is_handed, rejection_reports, rejects}
use Rattle.sv_pool.specs.Offers.{offer_reports, offered}
use Rattle.sv_runs.specs.RunBook.{begun, heard, living, lost, new_tokens, pipe_ended, process_ended, sent, stdin_lost, teller}
use Rattle.sv_runs.specs.Streams.StreamBook as output
use Rattle.sv_runs.specs.declared.streams.owner.Owner.{Owner}

-- the same world, where these orders were given before all others, and the links are others
abbrev pub past : List Order → (List LinkRecord → List LinkRecord) → World → World
past a l w = record w { links = l w.links; given = a ++ w.given }

module _ (a : List Order) (l : List LinkRecord → List LinkRecord) where
  -- orders are added
  pub adds_past : (w : World) (x : List Order)
      → record (past a l w) { given = (a ++ w.given) ++ x } ≡ past a l (record w { given = w.given ++ x })
  adds_past w x =
      ap (λ (given : List Order). record w { links = l w.links; given = given }) (append_assoc a w.given x)

  pub by_test : (b : Bool) (one other one_past other_past : World) → one_past ≡ past a l one → other_past ≡ past a l other
      → (if b then one_past else other_past) ≡ past a l (if b then one else other)
  by_test true one other one_past other_past first second = first
  by_test false one other one_past other_past first second = second

  -- ---- logs and events

  pub logs_past : (log : LogSpec) (piece : List ℕ) (w : World) → logs log piece (past a l w) ≡ past a l (logs log piece w)
  logs_past log piece w = adds_past (record w { sizes = logged log piece w.sizes }) (log_orders log piece w.sizes)

  logs_if_past : (log : LogSpec) (bytes : Option (List ℕ)) (w : World)
      → logs_if log bytes (past a l w) ≡ past a l (logs_if log bytes w)
  logs_if_past log None w = refl
  logs_if_past log (Some bytes) w = logs_past log bytes w

  pub notes_past : (line : Option Line) (w : World) → notes_if line (past a l w) ≡ past a l (notes_if line w)
  notes_past None w = refl
  notes_past (Some line) w = logs_if_past w.config.main (written w.config.level w.moment line) w

  drop_past : (o : Order) (w : World) → tells_drop o (past a l w) ≡ past a l (tells_drop o w)
  drop_past o w =
      ap (notes_if (drop_line o)) (adds_past w (o ∷ []))
      ∙ notes_past (drop_line o) (record w { given = w.given ++ o ∷ [] })

  pub drops_past : (os : List Order) (w : World) → tells_drops os (past a l w) ≡ past a l (tells_drops os w)
  drops_past [] w = refl
  drops_past (o ∷ os) w = ap (tells_drops os) (drop_past o w) ∙ drops_past os (tells_drop o w)

  pub offers_past : (kind : Kind) (fact : Fact) (w : World) → offers kind fact (past a l w) ≡ past a l (offers kind fact w)
  offers_past kind fact w = drops_past (offer_reports kind fact w.pools) (record w { pools = offered kind fact w.pools })

  pub offers_if_past : (kind : Kind) (fact : Option Fact) (w : World)
      → offers_if kind fact (past a l w) ≡ past a l (offers_if kind fact w)
  offers_if_past kind None w = refl
  offers_if_past kind (Some fact) w = offers_past kind fact w

  tick_past : (kind : Kind) (when : Option ℕ) (w : World) → offers_tick kind when (past a l w) ≡ past a l (offers_tick kind when w)
  tick_past kind None w = refl
  tick_past kind (Some when) w = offers_past kind (fact.Tick when) w

  pub announces_past : (w : World) → announces (past a l w) ≡ past a l (announces w)
  announces_past w =
      let told = record w { course = record w.course { announced = true } } in
      by_test w.course.announced w (offers_change kind.SupervisorStateChangeRunning told) (past a l w)
      (offers_change kind.SupervisorStateChangeRunning (past a l told)) refl
      (offers_past kind.SupervisorStateChangeRunning fact.Supervisor told)

  pub ticks_past : (w : World) → ticks (past a l w) ≡ past a l (ticks w)
  ticks_past w =
      let old = w.clock in
      let new = w.moment in
      let u = record w { clock = new } in
      let v = offers_tick kind.Tick5 (tick 5 old new) u in
      let x = offers_tick kind.Tick60 (tick 60 old new) v in
      ap (λ (y : World). offers_tick kind.Tick3600 (tick 3600 old new) (offers_tick kind.Tick60 (tick 60 old new) y))
      (tick_past kind.Tick5 (tick 5 old new) u)
      ∙ ap (λ (y : World). offers_tick kind.Tick3600 (tick 3600 old new) y) (tick_past kind.Tick60 (tick 60 old new) v)
      ∙ tick_past kind.Tick3600 (tick 3600 old new) x

  -- ---- children

  edge_past : (how : Option How) (c pid : ℕ) (edge : Edge) (w : World)
      → goes_edge how c pid edge (past a l w) ≡ past a l (goes_edge how c pid edge w)
  edge_past how c pid edge w =
      let told = record w { given = w.given ++ reports_at w.children c (Some edge ∷ []) } in
      let line = line_at w.children c how edge in
      let event = fact_at w.children c pid edge in
      ap (λ (v : World). offers_if (kind_of edge.to) event (notes_if line v)) (adds_past w (reports_at w.children c (Some edge ∷ [])))
      ∙ ap (λ (v : World). offers_if (kind_of edge.to) event v) (notes_past line told)
      ∙ offers_if_past (kind_of edge.to) event (notes_if line told)

  edge_if_past : (how : Option How) (c pid : ℕ) (edge : Option Edge) (w : World)
      → goes_edge_if how c pid edge (past a l w) ≡ past a l (goes_edge_if how c pid edge w)
  edge_if_past how c pid None w = refl
  edge_if_past how c pid (Some edge) w = edge_past how c pid edge w

  pub edges_past : (how : Option How) (c pid : ℕ) (edges : List (Option Edge)) (w : World)
      → goes_edges how c pid edges (past a l w) ≡ past a l (goes_edges how c pid edges w)
  edges_past how c pid [] w = refl
  edges_past how c pid (edge ∷ edges) w =
      ap (goes_edges how c pid edges) (edge_if_past how c pid edge w)
      ∙ edges_past how c pid edges (goes_edge_if how c pid edge w)

  reported_past : (how : Option How) (c pid : ℕ) (step : Option Step) (w : World)
      → reported how c pid step (past a l w) ≡ past a l (reported how c pid step w)
  reported_past how c pid None w = refl
  reported_past how c pid (Some step) w = edges_past how c pid step.edges w

  pub moves_past : (how : Option How) (c : ℕ) (answer : Option Answer) (w : World)
      → moves how c answer (past a l w) ≡ past a l (moves how c answer w)
  moves_past how c answer w = reported_past how c (pid_at w.children c) (step_of answer) (changed c answer w)

  pub comes_past : (how : Option How) (stimulus : Child → Option Stimulus) (c : ℕ) (w : World)
      → comes how stimulus c (past a l w) ≡ past a l (comes how stimulus c w)
  comes_past how stimulus c w = moves_past how c (says stimulus c w) w

  pub kills_past : (c : ℕ) (signal : Signal) (group : Bool) (w : World)
      → kills c signal group (past a l w) ≡ past a l (kills c signal group w)
  kills_past c signal group w = adds_past w (kill_at w.children c signal group)

  pub orders_spawn_past : (spawning : SpawnOrder) (w : World) → orders_spawn spawning (past a l w) ≡ past a l (orders_spawn spawning w)
  orders_spawn_past spawning w = adds_past (record w { next_run = w.next_run + 1 }) (order.Spawn spawning ∷ [])

  output_past : (c : ℕ) (run : Run) (pid : ℕ) (m : Option Member) (w : World)
      → begins_output_of c run pid m (past a l w) ≡ past a l (begins_output_of c run pid m w)
  output_past c run pid None w = refl
  output_past c run pid (Some m) w = refl

  run_past : (c : ℕ) (run : Run) (pid : ℕ) (w : World) → begins_run c run pid (past a l w) ≡ past a l (begins_run c run pid w)
  run_past c run pid w =
      let m = member_at w.children c in
      let ran = record w { runs = begun run c pid (is_listener_of m) w.runs } in
      ap (λ (v : World). notes_if (spawned_at w.children c pid) v) (output_past c run pid m ran)
      ∙ notes_past (spawned_at w.children c pid) (begins_output_of c run pid m ran)

  as_past : (c : ℕ) (run : Run) (pid : Option ℕ) (w : World) → begins_as c run pid (past a l w) ≡ past a l (begins_as c run pid w)
  as_past c run None w = refl
  as_past c run (Some pid) w = run_past c run pid w

  pub answered_past : (c : ℕ) (run : Run) (reply : Reply) (w : World)
      → answered c run reply (past a l w) ≡ past a l (answered c run reply w)
  answered_past c run reply w =
      ap (begins_as c run (started_as reply)) (comes_past None (stimulus_told run (told_of reply)) c w)
      ∙ as_past c run (started_as reply) (comes None (stimulus_told run (told_of reply)) c w)

  pub fails_past : (c : ℕ) (w : World) → fails c (past a l w) ≡ past a l (fails c w)
  fails_past c w = answered_past c (record { 0 = 0 }) (Refused (codes "failed")) w

  pub signals_past : (deed : Option ChildDeed) (c : ℕ) (w : World) → signals deed c (past a l w) ≡ past a l (signals deed c w)
  signals_past (Some (Kill signal group)) c w = kills_past c signal group w
  signals_past (Some Spawn) c w = refl
  signals_past None c w = refl

  pub stops_past : (c : ℕ) (w : World) → stops c (past a l w) ≡ past a l (stops c w)
  stops_past c w =
      let answer = says (stimulus_of news_is.Stop) c w in
      ap (signals (deed_of (step_of answer)) c) (moves_past None c answer w)
      ∙ signals_past (deed_of (step_of answer)) c (moves None c answer w)

  stops_from_past : (from left : ℕ) (w : World) → stops_from from left (past a l w) ≡ past a l (stops_from from left w)
  stops_from_past from zero w = refl
  stops_from_past from (suc left) w =
      ap (stops_from from left) (stops_past (from + left) w) ∙ stops_from_past from left (stops (from + left) w)

  pub stops_all_past : (span : Span) (w : World) → stops_all span (past a l w) ≡ past a l (stops_all span w)
  stops_all_past span w = stops_from_past span.from (span.to - span.from) w

  -- ---- the end of the daemon

  pub begins_shutdown_past : (w : World) → begins_shutdown (past a l w) ≡ past a l (begins_shutdown w)
  begins_shutdown_past w =
      let ending = in_mood mood_is.Shutdown w in
      by_test (is_running w.course.mood) (offers_change kind.SupervisorStateChangeStopping ending) w
      (offers_change kind.SupervisorStateChangeStopping (past a l ending)) (past a l w)
      (offers_past kind.SupervisorStateChangeStopping fact.Supervisor ending) refl

  pub heeds_past : (signal : Signal) (w : World) → heeds signal (past a l w) ≡ past a l (heeds signal w)
  heeds_past signal w =
      by_test (is_ending signal) (begins_shutdown w) w (begins_shutdown (past a l w)) (past a l w) (begins_shutdown_past w) refl

  tells_group_past : (group : ℕ) (w : World) → tells_group group (past a l w) ≡ past a l (tells_group group w)
  tells_group_past group w =
      let told = record w { course = record w.course { is_told = true } } in
      let span = span_of group w.children.roster in
      by_test (w.course.is_told || has_come_to_rest group w) w (stops_all span told) (past a l w) (stops_all span (past a l told))
      refl (stops_all_past span told)

  moves_on_past : (left : ℕ) (w : World) → moves_on left (past a l w) ≡ past a l (moves_on left w)
  moves_on_past zero w = refl
  moves_on_past (suc left) w =
      let told = tells_group left w in
      ap (λ (v : World). if has_come_to_rest left v then moves_on left (drops_group left v) else v) (tells_group_past left w)
      ∙ by_test (has_come_to_rest left told) (moves_on left (drops_group left told)) told
      (moves_on left (drops_group left (past a l told))) (past a l told) (moves_on_past left (drops_group left told)) refl

  pub follows_plan_past : (w : World) → follows_plan (past a l w) ≡ past a l (follows_plan w)
  follows_plan_past w =
      by_test (is_running w.course.mood) w (moves_on w.course.left w) (past a l w) (moves_on w.course.left (past a l w)) refl
      (moves_on_past w.course.left w)

  -- ---- listeners

  gives_back_past : (c : ℕ) (w : World) → gives_back c (past a l w) ≡ past a l (gives_back c w)
  gives_back_past c w = drops_past (rejection_reports (id_of c) w.pools) (record w { pools = rejects (id_of c) w.pools })

  tells_past : (c : ℕ) (t : Token) (w : World) → tells c t (past a l w) ≡ past a l (tells c t w)
  tells_past c token.Ready w = refl
  tells_past c (token.Result body) w =
      by_test (bytes_eq body (codes "OK")) (is_done_with c w) (gives_back c w) (is_done_with c (past a l w)) (gives_back c (past a l w))
      refl (gives_back_past c w)
  tells_past c token.Wrong w = gives_back_past c w

  tells_all_past : (c : ℕ) (ts : List Token) (w : World) → tells_all c ts (past a l w) ≡ past a l (tells_all c ts w)
  tells_all_past c [] w = refl
  tells_all_past c (t ∷ ts) w = ap (tells_all c ts) (tells_past c t w) ∙ tells_all_past c ts (tells c t w)

  tells_by_past : (teller : Option ℕ) (ts : List Token) (w : World) → tells_by teller ts (past a l w) ≡ past a l (tells_by teller ts w)
  tells_by_past None ts w = refl
  tells_by_past (Some c) ts w = tells_all_past c ts w

  hears_past : (run : Run) (bytes : List ℕ) (w : World) → hears run bytes (past a l w) ≡ past a l (hears run bytes w)
  hears_past run bytes w =
      tells_by_past (teller run w.runs) (new_tokens run bytes w.runs) (record w { runs = heard run bytes w.runs })

  exits_of_past : (child : Option ℕ) (run : Run) (how : How) (w : World)
      → exits_of child run how (past a l w) ≡ past a l (exits_of child run how w)
  exits_of_past None run how w = refl
  exits_of_past (Some c) run how w =
      let v = comes (Some how) (stimulus_of (news_is.Exit run how)) c w in
      ap (λ (u : World). gives_back c (record u { runs = process_ended run u.runs }))
      (comes_past (Some how) (stimulus_of (news_is.Exit run how)) c w)
      ∙ gives_back_past c (record v { runs = process_ended run v.runs })

  pub exits_past : (run : Run) (how : How) (w : World) → exits run how (past a l w) ≡ past a l (exits run how w)
  exits_past run how w = exits_of_past (living run w.runs) run how w

  loses_of_past : (child : Option ℕ) (run : Run) (w : World) → loses_of child run (past a l w) ≡ past a l (loses_of child run w)
  loses_of_past None run w = refl
  loses_of_past (Some c) run w =
      let u = record w { runs = lost run w.runs } in
      by_test (holds (id_of c) w.pools) (gives_back c u) w (gives_back c (past a l u)) (past a l w) (gives_back_past c u) refl

  pub loses_past : (run : Run) (w : World) → loses_stdin run (past a l w) ≡ past a l (loses_stdin run w)
  loses_past run w = loses_of_past (living run w.runs) run (record w { runs = stdin_lost run w.runs })

  -- ---- output

  logs_of_past : (channel : Stream) (m : Option Member) (bytes : List ℕ) (w : World)
      → logs_of channel m bytes (past a l w) ≡ past a l (logs_of channel m bytes w)
  logs_of_past channel None bytes w = refl
  logs_of_past channel (Some m) bytes w = logs_past (log_of channel m.spec) bytes w

  part_past : (owner : Owner) (channel : Stream) (p : Heard) (w : World)
      → takes_part owner channel p (past a l w) ≡ past a l (takes_part owner channel p w)
  part_past owner channel (part.Logged bytes) w =
      let m = member_at w.children owner.child in
      ap (λ (v : World). offers_if (log_kind channel) (log_fact owner.pid channel m bytes) v) (logs_of_past channel m bytes w)
      ∙ offers_if_past (log_kind channel) (log_fact owner.pid channel m bytes) (logs_of channel m bytes w)
  part_past owner channel (part.Message bytes) w =
      offers_if_past (message_kind channel) (message_fact owner.pid (member_at w.children owner.child) bytes) w

  parts_past : (owner : Owner) (channel : Stream) (ps : List Heard) (w : World)
      → takes_parts owner channel ps (past a l w) ≡ past a l (takes_parts owner channel ps w)
  parts_past owner channel [] w = refl
  parts_past owner channel (p ∷ ps) w =
      ap (takes_parts owner channel ps) (part_past owner channel p w) ∙ parts_past owner channel ps (takes_part owner channel p w)

  all_past : (owner : Option Owner) (channel : Option Stream) (ps : List Heard) (w : World)
      → takes_all owner channel ps (past a l w) ≡ past a l (takes_all owner channel ps w)
  all_past None channel ps w = refl
  all_past (Some owner) None ps w = refl
  all_past (Some owner) (Some channel) ps w = parts_past owner channel ps w

  says_past : (pipe : Stream) (run : Run) (bytes : List ℕ) (w : World)
      → says_on pipe run bytes (past a l w) ≡ past a l (says_on pipe run bytes w)
  says_past Out run bytes w = hears_past run bytes w
  says_past Err run bytes w = refl

  pub hears_on_past : (pipe : Stream) (run : Run) (bytes : List ℕ) (w : World)
      → hears_on pipe run bytes (past a l w) ≡ past a l (hears_on pipe run bytes w)
  hears_on_past pipe run bytes w =
      let owner = output.owner_in run w.streams in
      let channel = output.channel_in run pipe w.streams in
      let ps = output.new_parts run pipe bytes w.streams in
      let u = record w { streams = output.fed run pipe bytes w.streams } in
      ap (says_on pipe run bytes) (all_past owner channel ps u) ∙ says_past pipe run bytes (takes_all owner channel ps u)

  pub ends_pipe_past : (run : Run) (pipe : Stream) (w : World) → ends_pipe run pipe (past a l w) ≡ past a l (ends_pipe run pipe w)
  ends_pipe_past run pipe w =
      all_past (output.owner_in run w.streams) (output.channel_in run pipe w.streams) (output.last_parts run pipe w.streams)
      (record w { runs = pipe_ended run pipe w.runs; streams = output.pipe_ended run pipe w.streams })

  -- ---- what is handed out

  sends_past : (run : Run) (c : ℕ) (w : World) → sends run c (past a l w) ≡ past a l (sends run c w)
  sends_past run c w =
      adds_past (record w {
        pools = handed (id_of c) w.pools;
        runs = if is_handed (id_of c) w.pools then sent run w.runs else w.runs;
      }) (hand_orders w.config.identifier run (id_of c) w.pools)

  sends_to_past : (run : Option Run) (c : ℕ) (w : World) → sends_to run c (past a l w) ≡ past a l (sends_to run c w)
  sends_to_past None c w = refl
  sends_to_past (Some run) c w = sends_past run c w

  pub hands_from_past : (left c : ℕ) (w : World) → hands_from left c (past a l w) ≡ past a l (hands_from left c w)
  hands_from_past zero c w = refl
  hands_from_past (suc left) c w =
      ap (hands_from left (c + 1)) (sends_to_past (ready_of (slice_get w.children.all c) w.runs) c w)
      ∙ hands_from_past left (c + 1) (hands_to c w)

  pub hands_out_past : (w : World) → hands_out (past a l w) ≡ past a l (hands_out w)
  hands_out_past w = hands_from_past (length w.children.all - 0) 0 w
