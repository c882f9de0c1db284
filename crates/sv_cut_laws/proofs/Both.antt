-- A turn goes on in the same way whatever orders were given before it.
use Rattle.std.proofs.Common.{◌≡◌, ℕ, zero, suc, pos, ◌+◌, ◌++◌, List, [], ◌∷◌, Bool, true, false, Option, Some, None, if◌then◌else◌, ◌∙◌, refl, ap, sym, subst}
use Rattle.std.specs.Prelude.{◌-◌, length, nat_le, slice_get}
use Rattle.sv_calls.specs.Answers.Served.{Request as Asked, Refuses as Refused_by, Calls as Asks, heard as ask_heard, is_several, no_parts, parts_in, reads_back, said, subject_of}
use Rattle.sv_calls.specs.declared.answers.read.LogRead.{LogRead}
use Rattle.sv_calls.specs.declared.answers.sent.Sent.{Sent}
use Rattle.sv_base.specs.declared.ids.LinkId.{LinkId}
use Rattle.sv_base.specs.declared.ids.Run.{Run}
use Rattle.sv_base.specs.declared.kind.Kind.TheVariants as kind
use Rattle.sv_calls.specs.CallBook as call_book
use Rattle.sv_calls.specs.CallBook.{AnswerTree}
use Rattle.sv_calls.specs.declared.setback.Setback.{Setback}
use Rattle.sv_calls.specs.declared.setback.Setback.TheVariants as setback
use Rattle.sv_child.specs.Moves.{is_running}
use Rattle.sv_child.specs.declared.step.ChildDeed.{ChildDeed}
use Rattle.sv_child.specs.declared.step.ChildDeed.TheVariants.{Spawn, Kill}
use Rattle.sv_children.specs.News.{deed_of, step_of, stimulus_of}
use Rattle.sv_children.specs.Orders.{spawn_at}
use Rattle.sv_children.specs.Spans.{span_meant}
use Rattle.sv_children.specs.declared.news.News.{News}
use Rattle.sv_children.specs.declared.news.News.TheVariants as news_is
use Rattle.sv_core.specs.Calling.{acts_left, answers_call, answers_if, asks_read, begins_one, begins_part_if, begins_several, calls, calls_all, calls_left, calls_parts, checks_wait, closes_behind, comes_of, end_of_wait, ending_of, ends_call, file_reply, goes_on, read_answered, reads, replies, replies_if, scene_of, sends_reply, takes_up}
use Rattle.sv_core.specs.Events.{announces, offers, ticks}
use Rattle.sv_core.specs.Failure.{failed}
use Rattle.sv_core.specs.HandingOut.{hands_out}
use Rattle.sv_core.specs.Listening.{exits}
use Rattle.sv_core.specs.Logging.{notes_if}
use Rattle.sv_core.specs.Moves.{answered, fails, kills, moves, orders_spawn, says}
use Rattle.sv_core.specs.Openings.{closes, closes_all, closes_links, guard_at, opens, opens_for, welcome}
use Rattle.sv_core.specs.Output.{ends_pipe, hears_on}
use Rattle.sv_core.specs.Requests.{asks_clear, asks_start, carries_if, carries_request, clear_answered, clear_setback, clears_all, does_all, empties_if, is_empty, run_of, spawns_for, start_answered, start_fails, start_setback, starts, starts_as, starts_by, tells_call, writes, writes_run}
use Rattle.sv_core.specs.Serving.{gives_more, serves_all, serves_ask, serves_asks, serves_left}
use Rattle.sv_core.specs.Shutdown.{begins_shutdown, follows_plan, halts, halts_after, heeds}
use Rattle.sv_core.specs.Stops.{stops, stops_all}
use Rattle.sv_core.specs.Sweeps.{Turn, asks, does, does_noted, meets, spawns, spawns_as, sweeps, sweeps_over}
use Rattle.sv_core.specs.Sweeps.Turn.{Ask as Asking}
use Rattle.sv_core.specs.Turn.{after_links, after_pass, after_stimulus, applies, passes, rewinds, turn}
use Rattle.sv_core.specs.World.{World, gives}
use Rattle.sv_core.specs.declared.failure.Failure.{Failure}
use Rattle.sv_core.specs.declared.failure.Failure.TheVariants.{NeverFails, ChangesNothing, LosesStdin, LosesLink, RefusesQuestion}
use Rattle.sv_core.specs.declared.part.Cause.{Cause}
use Rattle.sv_core.specs.declared.part.Cause.TheVariants as cause_is
use Rattle.sv_core.specs.declared.part.Question.{Question}
use Rattle.sv_core.specs.declared.part.Question.TheVariants as question
use Rattle.sv_core.specs.declared.part.Reply.{Reply}
use Rattle.sv_cut_laws.proofs.Past.{past, adds_past, announces_past, answered_past, begins_shutdown_past, by_test, ends_pipe_past, exits_past, fails_past, follows_plan_past, hands_out_past, hears_on_past, heeds_past, kills_past, loses_past, moves_past, notes_past, offers_past, orders_spawn_past, stops_past, stops_all_past, ticks_past}
use Rattle.sv_events.specs.declared.fact.Fact.TheVariants as fact
use Rattle.sv_groups.specs.declared.order.Span.{Span}
use Rattle.sv_http.specs.declared.ask.Ask.{Ask as Request}
use Rattle.sv_http.specs.declared.guard.Guard.{Guard}
use Rattle.sv_children.specs.Lines.EdgeLines.{how_of, killing_at}
use Rattle.sv_links.specs.LinkBook as link_book
use Rattle.sv_links.specs.LinkBook.{LinkRecord}
use Rattle.sv_links.specs.LinkBook.Ending.{Ended, Closed}
use Rattle.sv_methods.specs.MethodTable.{planned}
use Rattle.sv_methods.specs.Outcomes as planned_is
use Rattle.sv_methods.specs.declared.planned.Request.{Request as Wish}
use Rattle.sv_methods.specs.declared.planned.Request.TheVariants as wish
use Rattle.sv_methods.specs.declared.planned.Waiting.{Waiting}
use Rattle.sv_multi.specs.Views.{PartTree, Calls, Refuses}
use Rattle.sv_out.specs.declared.order.Order.{Order}
use Rattle.sv_out.specs.declared.order.Order.TheVariants as order
use Rattle.sv_out.specs.declared.order.SpawnOrder.{SpawnOrder}
use Rattle.sv_xmlcall.specs.Trees.{CallTree, Reply as Answer, Returns, Faults}

-- the links as they are
abbrev pub as_they_are : List LinkRecord → List LinkRecord
as_they_are links = links

-- the same world, where these orders were given before all others
abbrev pub later : List Order → World → World
later a w = past a as_they_are w

-- ---- steps

module _ (a : List Order) where
  -- one step after another
  tells_call_later : (link : LinkId) (what : Option Setback) (w : World) → tells_call link what (later a w) ≡ later a (tells_call link what w)
  tells_call_later link None w = refl
  tells_call_later link (Some what) w = refl

  start_answered_later : (link : LinkId) (c : ℕ) (run : Run) (reply : Reply) (w : World)
      → start_answered link c run reply (later a w) ≡ later a (start_answered link c run reply w)
  start_answered_later link c run reply w =
      ap (tells_call link (start_setback reply)) (answered_past a as_they_are c run reply w)
      ∙ tells_call_later link (start_setback reply) (answered c run reply w)

  start_fails_later : (link : LinkId) (c : ℕ) (w : World) → start_fails link c (later a w) ≡ later a (start_fails link c w)
  start_fails_later link c w =
      ap (tells_call link (Some setback.NotStarted)) (fails_past a as_they_are c w)
      ∙ tells_call_later link (Some setback.NotStarted) (fails c w)

  gives_later : (o : Order) (w : World) → gives o (later a w) ≡ later a (gives o w)
  gives_later o w = adds_past a as_they_are w (o ∷ [])

  writes_later : (run : Option Run) (bytes : List ℕ) (w : World) → writes_run run bytes (later a w) ≡ later a (writes_run run bytes w)
  writes_later None bytes w = refl
  writes_later (Some run) bytes w = gives_later (order.Stdin run bytes) w

  empties_later : (file : List ℕ) (b : Bool) (w : World) → empties_if file b (later a w) ≡ later a (empties_if file b w)
  empties_later file true w = refl
  empties_later file false w = refl

  clear_answered_later : (link : LinkId) (file : List ℕ) (reply : Reply) (w : World)
      → clear_answered link file reply (later a w) ≡ later a (clear_answered link file reply w)
  clear_answered_later link file reply w =
      ap (tells_call link (clear_setback reply)) (empties_later file (is_empty reply) w)
      ∙ tells_call_later link (clear_setback reply) (empties_if file (is_empty reply) w)

  pub closes_behind_later : (b : Bool) (link : LinkId) (w : World) → closes_behind b link (later a w) ≡ later a (closes_behind b link w)
  closes_behind_later true link w = gives_later (order.Close link) w
  closes_behind_later false link w = refl

  sends_reply_later : (link : LinkId) (sent : Sent) (w : World) → sends_reply link sent (later a w) ≡ later a (sends_reply link sent w)
  sends_reply_later link sent w =
      ap (closes_behind sent.closes link) (gives_later (order.Send link sent.text) w)
      ∙ closes_behind_later sent.closes link (gives (order.Send link sent.text) w)

  pub replies_later : (link : LinkId) (sent : Sent) (w : World) → replies link sent (later a w) ≡ later a (replies link sent w)
  replies_later link sent w =
      let u = record w { links = link_book.answered link sent.closes w.links } in
      by_test a as_they_are (link_book.is_sent link w.links) (sends_reply link sent u) u (sends_reply link sent (later a u)) (later a u)
      (sends_reply_later link sent u) refl

  replies_if_later : (link : LinkId) (answer : Option AnswerTree) (w : World)
      → replies_if link answer (later a w) ≡ later a (replies_if link answer w)
  replies_if_later link None w = refl
  replies_if_later link (Some answer) w = replies_later link (said answer.close answer.reply) w

  answers_call_later : (link : LinkId) (reply : Answer) (w : World) → answers_call link reply (later a w) ≡ later a (answers_call link reply w)
  answers_call_later link reply w =
      replies_if_later link (call_book.answer_at link reply w.calls) (record w { calls = call_book.answered link reply w.calls })

  pub ends_call_later : (link : LinkId) (w : World) → ends_call link (later a w) ≡ later a (ends_call link w)
  ends_call_later link w = replies_if_later link (call_book.end_at link w.calls) (record w { calls = call_book.ended link w.calls })

  answers_if_later : (link : LinkId) (reply : Option Answer) (w : World) → answers_if link reply (later a w) ≡ later a (answers_if link reply w)
  answers_if_later link None w = refl
  answers_if_later link (Some reply) w = answers_call_later link reply w

  ending_later : (waiting : Option Waiting) (w : World) → ending_of waiting (later a w) ≡ ending_of waiting w
  ending_later None w = refl
  ending_later (Some waiting) w = refl

  pub checks_later : (link : LinkId) (w : World) → checks_wait link (later a w) ≡ later a (checks_wait link w)
  checks_later link w =
      ap (λ (reply : Option Answer). answers_if link reply (later a w)) (ending_later (call_book.waiting_at link w.calls) w)
      ∙ answers_if_later link (end_of_wait link w) w

  pub more_later : (link : LinkId) (w : World) → gives_more link (later a w) ≡ later a (gives_more link w)
  more_later link w =
      let u = record w { links = link_book.more_given link w.links } in
      by_test a as_they_are (link_book.more_is_due link w.links) (gives (order.More link) u) u (gives (order.More link) (later a u)) (later a u)
      (gives_later (order.More link) u) refl

  opens_later : (link : LinkId) (guard : Option Guard) (w : World) → opens_for link guard (later a w) ≡ later a (opens_for link guard w)
  opens_later link None w = refl
  opens_later link (Some guard) w =
      gives_later (welcome link (link_book.has_room w.links)) (record w { links = link_book.opened guard w.links })

  closes_later : (link : LinkId) (w : World) → closes link (later a w) ≡ later a (closes link w)
  closes_later link w =
      ap (λ (v : World). record v { links = link_book.ended link Closed w.links }) (gives_later (order.Close link) w)

  closes_all_later : (links : List LinkId) (w : World) → closes_all links (later a w) ≡ later a (closes_all links w)
  closes_all_later [] w = refl
  closes_all_later (link ∷ links) w = ap (closes_all links) (closes_later link w) ∙ closes_all_later links (closes link w)

  halts_after_later : (left : ℕ) (w : World) → halts_after left (later a w) ≡ later a (halts_after left w)
  halts_after_later zero w =
      let closed = closes_links w in
      ap (λ (v : World). record v { course = record v.course { halted = true }; given = v.given ++ order.Halt ∷ [] })
      (closes_all_later (link_book.open_links w.links) w)
      ∙ adds_past a as_they_are (record closed { course = record closed.course { halted = true } }) (order.Halt ∷ [])
  halts_after_later (suc left) w = refl

  pub halts_later : (w : World) → halts (later a w) ≡ later a (halts w)
  halts_later w =
      by_test a as_they_are (is_running w.course.mood) w (halts_after w.course.left w) (later a w) (halts_after w.course.left (later a w)) refl
      (halts_after_later w.course.left w)

  pub ended_later : (w : World) → halts (hands_out (follows_plan (later a w))) ≡ later a (halts (hands_out (follows_plan w)))
  ended_later w =
      ap (λ (v : World). halts (hands_out v)) (follows_plan_past a as_they_are w)
      ∙ ap (λ (v : World). halts v) (hands_out_past a as_they_are (follows_plan w))
      ∙ halts_later (hands_out (follows_plan w))

  pub failed_later : (failure : Failure) (w : World) → failed failure (later a w) ≡ later a (failed failure w)
  failed_later (LosesStdin run) w = loses_past a as_they_are run w
  failed_later (LosesLink link) w = refl
  failed_later RefusesQuestion w = refl
  failed_later ChangesNothing w = refl
  failed_later NeverFails w = refl

-- ---- steps that may ask

-- something is said of two turns that ask the same, where it is said of what each answer leads to
abbrev pub OfQuestions : List Order → (Turn → Turn → Type 0) → Type 0
OfQuestions a G = (w : World) (q : Question) (k j : World → Reply → Turn)
    → ((v : World) (reply : Reply) → G (k v reply) (j (later a v) reply)) → G (Asking w q k) (Asking (later a w) q j)

module _ (a : List Order) (G : Turn → Turn → Type 0) (g : OfQuestions a G) where
  -- it is said of what comes next, in each world
  abbrev pub Both : (World → Turn) → Type 0
  Both k = (v : World) → G (k v) (k (later a v))

  pub to : (k : World → Turn) (v u : World) → Both k → u ≡ later a v → G (k v) (k u)
  to k v u goes is = subst (λ (x : World). G (k v) (k x)) (sym is) (goes v)

  pub either : (b : Bool) (t u one other : Turn) → G t one → G u other → G (if b then t else u) (if b then one else other)
  either true t u one other first second = first
  either false t u one other first second = second

  -- ---- children

  asks_both : (c : ℕ) (run : Run) (w : World) (k : World → Turn) → Both k → G (asks c run w k) (asks c run (later a w) k)
  unfolding asks
  asks_both c run w k goes =
      g w question.Spawn (λ v reply. k (answered c run reply v)) (λ v reply. k (answered c run reply v))
      (λ v reply. to k (answered c run reply v) (answered c run reply (later a v)) goes (answered_past a as_they_are c run reply v))

  spawns_as_both : (spawning : Option SpawnOrder) (c : ℕ) (w : World) (k : World → Turn) → Both k
      → G (spawns_as spawning c w k) (spawns_as spawning c (later a w) k)
  spawns_as_both None c w k goes = goes w
  spawns_as_both (Some spawning) c w k goes =
      to (λ v. asks c (record { 0 = w.next_run }) v k) (orders_spawn spawning w) (orders_spawn spawning (later a w))
      (λ v. asks_both c (record { 0 = w.next_run }) v k goes) (orders_spawn_past a as_they_are spawning w)

  spawns_both : (c : ℕ) (w : World) (k : World → Turn) → Both k → G (spawns c w k) (spawns c (later a w) k)
  spawns_both c w k goes =
      either (nat_le w.next_run 4294967295) (spawns_as (spawn_at w.children c w.next_run) c w k) (k (fails c w))
      (spawns_as (spawn_at w.children c w.next_run) c (later a w) k) (k (fails c (later a w)))
      (spawns_as_both (spawn_at w.children c w.next_run) c w k goes)
      (to k (fails c w) (fails c (later a w)) goes (fails_past a as_they_are c w))

  pub does_both : (deed : Option ChildDeed) (c : ℕ) (w : World) (k : World → Turn) → Both k → G (does deed c w k) (does deed c (later a w) k)
  does_both None c w k goes = goes w
  does_both (Some (Kill signal group)) c w k goes =
      to k (kills c signal group w) (kills c signal group (later a w)) goes (kills_past a as_they_are c signal group w)
  does_both (Some Spawn) c w k goes = spawns_both c w k goes

  pub noted_both : (news : News) (deed : Option ChildDeed) (c : ℕ) (w : World) (k : World → Turn) → Both k
      → G (does_noted news deed c w k) (does_noted news deed c (later a w) k)
  noted_both news deed c w k goes =
      let line = killing_at news deed w.children c in
      to (λ v. does deed c v k) (notes_if line w) (notes_if line (later a w)) (λ v. does_both deed c v k goes)
      (notes_past a as_they_are line w)

  pub meets_both : (news : News) (c : ℕ) (w : World) (k : World → Turn) → Both k → G (meets news c w k) (meets news c (later a w) k)
  meets_both news c w k goes =
      let answer = says (stimulus_of news) c w in
      let deed = deed_of (step_of answer) in
      to (λ v. does_noted news deed c v k) (moves (how_of news) c answer w) (moves (how_of news) c answer (later a w))
      (λ v. noted_both news deed c v k goes) (moves_past a as_they_are (how_of news) c answer w)

  pub sweeps_both : (news : News) (left c : ℕ) (w : World) (k : World → Turn) → Both k
      → G (sweeps news left c w k) (sweeps news left c (later a w) k)
  sweeps_both news zero c w k goes = goes w
  sweeps_both news (suc left) c w k goes =
      meets_both news c w (λ v. sweeps news left (c + 1) v k) (λ v. sweeps_both news left (c + 1) v k goes)

  -- ---- requests

  asks_start_both : (link : LinkId) (c : ℕ) (run : Run) (w : World) (k : World → Turn) → Both k
      → G (asks_start link c run w k) (asks_start link c run (later a w) k)
  unfolding asks_start
  asks_start_both link c run w k goes =
      g w question.Spawn (λ v reply. k (start_answered link c run reply v)) (λ v reply. k (start_answered link c run reply v))
      (λ v reply. to k (start_answered link c run reply v) (start_answered link c run reply (later a v)) goes
      (start_answered_later a link c run reply v))

  starts_as_both : (link : LinkId) (spawning : Option SpawnOrder) (c : ℕ) (w : World) (k : World → Turn) → Both k
      → G (starts_as link spawning c w k) (starts_as link spawning c (later a w) k)
  starts_as_both link None c w k goes = goes w
  starts_as_both link (Some spawning) c w k goes =
      to (λ v. asks_start link c (record { 0 = w.next_run }) v k) (orders_spawn spawning w) (orders_spawn spawning (later a w))
      (λ v. asks_start_both link c (record { 0 = w.next_run }) v k goes) (orders_spawn_past a as_they_are spawning w)

  spawns_for_both : (link : LinkId) (c : ℕ) (w : World) (k : World → Turn) → Both k
      → G (spawns_for link c w k) (spawns_for link c (later a w) k)
  spawns_for_both link c w k goes =
      either (nat_le w.next_run 4294967295) (starts_as link (spawn_at w.children c w.next_run) c w k) (k (start_fails link c w))
      (starts_as link (spawn_at w.children c w.next_run) c (later a w) k) (k (start_fails link c (later a w)))
      (starts_as_both link (spawn_at w.children c w.next_run) c w k goes)
      (to k (start_fails link c w) (start_fails link c (later a w)) goes (start_fails_later a link c w))

  pub starts_by_both : (link : LinkId) (deed : Option ChildDeed) (c : ℕ) (w : World) (k : World → Turn) → Both k
      → G (starts_by link deed c w k) (starts_by link deed c (later a w) k)
  starts_by_both link None c w k goes = goes w
  starts_by_both link (Some Spawn) c w k goes = spawns_for_both link c w k goes
  starts_by_both link (Some (Kill signal group)) c w k goes = goes w

  starts_both : (link : LinkId) (c : ℕ) (w : World) (k : World → Turn) → Both k → G (starts link c w k) (starts link c (later a w) k)
  starts_both link c w k goes =
      let answer = says (stimulus_of news_is.Start) c w in
      to (λ v. starts_by link (deed_of (step_of answer)) c v k) (moves None c answer w) (moves None c answer (later a w))
      (λ v. starts_by_both link (deed_of (step_of answer)) c v k goes) (moves_past a as_they_are None c answer w)

  pub asks_clear_both : (link : LinkId) (file : List ℕ) (w : World) (k : World → Turn) → Both k
      → G (asks_clear link file w k) (asks_clear link file (later a w) k)
  unfolding asks_clear
  asks_clear_both link file w k goes =
      g w question.Clear (λ v reply. k (clear_answered link file reply v)) (λ v reply. k (clear_answered link file reply v))
      (λ v reply. to k (clear_answered link file reply v) (clear_answered link file reply (later a v)) goes
      (clear_answered_later a link file reply v))

  pub clears_all_both : (link : LinkId) (files : List (List ℕ)) (w : World) (k : World → Turn) → Both k
      → G (clears_all link files w k) (clears_all link files (later a w) k)
  clears_all_both link [] w k goes = goes w
  clears_all_both link (file ∷ files) w k goes =
      to (λ v. asks_clear link file v (λ u. clears_all link files u k)) (gives (order.ClearFile file) w)
      (gives (order.ClearFile file) (later a w))
      (λ v. asks_clear_both link file v (λ u. clears_all link files u k) (λ u. clears_all_both link files u k goes))
      (gives_later a (order.ClearFile file) w)

  pub carries_both : (link : LinkId) (what : Wish) (w : World) (k : World → Turn) → Both k
      → G (carries_request link what w k) (carries_request link what (later a w) k)
  carries_both link (wish.Start child) w k goes = starts_both link child.0 w k goes
  carries_both link (wish.Stop child) w k goes =
      to k (stops child.0 w) (stops child.0 (later a w)) goes (stops_past a as_they_are child.0 w)
  carries_both link (wish.Kill child signal) w k goes =
      to k (kills child.0 signal false w) (kills child.0 signal false (later a w)) goes (kills_past a as_they_are child.0 signal false w)
  carries_both link (wish.Stdin child bytes) w k goes =
      to k (writes child.0 bytes w) (writes child.0 bytes (later a w)) goes
      (writes_later a (run_of (slice_get w.children.all child.0)) bytes w)
  carries_both link (wish.Remote sort bytes) w k goes =
      to k (offers kind.RemoteCommunication (fact.Remote sort bytes) w) (offers kind.RemoteCommunication (fact.Remote sort bytes) (later a w))
      goes (offers_past a as_they_are kind.RemoteCommunication (fact.Remote sort bytes) w)
  carries_both link (wish.Clear files) w k goes = clears_all_both link files w k goes
  carries_both link wish.Shutdown w k goes =
      to k (begins_shutdown w) (begins_shutdown (later a w)) goes (begins_shutdown_past a as_they_are w)

  pub carries_if_both : (link : LinkId) (what : Option Wish) (w : World) (k : World → Turn) → Both k
      → G (carries_if link what w k) (carries_if link what (later a w) k)
  carries_if_both link None w k goes = goes w
  carries_if_both link (Some what) w k goes = carries_both link what w k goes

  pub does_all_both : (left : ℕ) (link : LinkId) (w : World) (k : World → Turn) → Both k
      → G (does_all left link w k) (does_all left link (later a w) k)
  does_all_both zero link w k goes = goes w
  does_all_both (suc left) link w k goes =
      carries_if_both link (call_book.request_at link w.calls) (record w { calls = call_book.request_taken link w.calls })
      (λ v. does_all left link v k) (λ v. does_all_both left link v k goes)

  -- ---- calls

  pub asks_read_both : (link : LinkId) (reading : LogRead) (w : World) (k : World → Turn) → Both k
      → G (asks_read link reading w k) (asks_read link reading (later a w) k)
  unfolding asks_read
  asks_read_both link reading w k goes =
      g w (question.Read reading.span.length) (λ v reply. k (read_answered link reading reply v))
      (λ v reply. k (read_answered link reading reply v))
      (λ v reply. to k (read_answered link reading reply v) (read_answered link reading reply (later a v)) goes
      (answers_call_later a link (reads_back reading (file_reply reply)) v))

  reads_both : (link : LinkId) (reading : LogRead) (w : World) (k : World → Turn) → Both k
      → G (reads link reading w k) (reads link reading (later a w) k)
  reads_both link reading w k goes =
      let o = order.ReadFile reading.file reading.span.start reading.span.length in
      to (λ v. asks_read link reading v k) (gives o w) (gives o (later a w)) (λ v. asks_read_both link reading v k goes) (gives_later a o w)

  pub acts_left_both : (left : ℕ) (link : LinkId) (w : World) (k : World → Turn) → Both k
      → G (acts_left left link w k) (acts_left left link (later a w) k)
  acts_left_both left link w k goes =
      does_all_both left link w (λ v. k (checks_wait link v))
      (λ v. to k (checks_wait link v) (checks_wait link (later a v)) goes (checks_later a link v))

  answered_both : (link : LinkId) (reply : Answer) (w : World) (k : World → Turn) → Both k
      → G (k (answers_call link reply w)) (k (answers_call link reply (later a w)))
  answered_both link reply w k goes =
      to k (answers_call link reply w) (answers_call link reply (later a w)) goes (answers_call_later a link reply w)

  comes_of_both : (link : LinkId) (subject : Option (List ℕ)) (outcome : planned_is.Outcome) (w : World) (k : World → Turn) → Both k
      → G (comes_of link subject outcome w k) (comes_of link subject outcome (later a w) k)
  comes_of_both link subject (planned_is.Gives value) w k goes = answered_both link (Returns value) w k goes
  comes_of_both link subject (planned_is.Refuses number content) w k goes = answered_both link (Faults (pos number) content) w k goes
  comes_of_both link subject (planned_is.Does wishes waiting) w k goes =
      acts_left_both (length wishes) link (record w { calls = call_book.acting link wishes waiting w.calls }) k goes
  comes_of_both link subject (planned_is.Reads file span shape) w k goes =
      reads_both link (record { file = file; span = span; shape = shape; subject = subject }) w k goes

  pub calls_both : (link : LinkId) (call : CallTree) (w : World) (k : World → Turn) → Both k
      → G (calls link call w k) (calls link call (later a w) k)
  calls_both link call w k goes = comes_of_both link (subject_of call.params) (planned (scene_of w) call w.moment) w k goes

  part_both : (link : LinkId) (part : Option PartTree) (w : World) (k : World → Turn) → Both k
      → G (begins_part_if link part w k) (begins_part_if link part (later a w) k)
  part_both link None w k goes = goes w
  part_both link (Some (Calls call)) w k goes = calls_both link call w k goes
  part_both link (Some (Refuses number content)) w k goes = answered_both link (Faults (pos number) content) w k goes

  pub calls_all_both : (left : ℕ) (link : LinkId) (w : World) (k : World → Turn) → Both k
      → G (calls_all left link w k) (calls_all left link (later a w) k)
  calls_all_both zero link w k goes = goes w
  calls_all_both (suc left) link w k goes =
      part_both link (call_book.part_at link w.calls) (record w { calls = call_book.part_taken link w.calls })
      (λ v. calls_all left link v k) (λ v. calls_all_both left link v k goes)

  pub calls_left_both : (left : ℕ) (link : LinkId) (w : World) (k : World → Turn) → Both k
      → G (calls_left left link w k) (calls_left left link (later a w) k)
  calls_left_both left link w k goes =
      calls_all_both left link w (λ v. k (ends_call link v))
      (λ v. to k (ends_call link v) (ends_call link (later a v)) goes (ends_call_later a link v))

  goes_on_both : (link : LinkId) (w : World) (k : World → Turn) → Both k → G (goes_on link w k) (goes_on link (later a w) k)
  goes_on_both link w k goes =
      to (λ v. calls_parts link v k) (checks_wait link w) (checks_wait link (later a w))
      (λ v. calls_left_both (call_book.parts_left link v.calls) link v k goes) (checks_later a link w)

  begins_several_both : (link : LinkId) (close : Bool) (parts : Option (List PartTree)) (w : World) (k : World → Turn) → Both k
      → G (begins_several link close parts w k) (begins_several link close parts (later a w) k)
  begins_several_both link close None w k goes =
      let sent = said close no_parts in
      to k (replies link sent w) (replies link sent (later a w)) goes (replies_later a link sent w)
  begins_several_both link close (Some parts) w k goes =
      let v = record w { calls = call_book.begun link (call_book.new_several close parts) w.calls } in
      calls_left_both (call_book.parts_left link v.calls) link v k goes

  begins_one_both : (link : LinkId) (close : Bool) (call : CallTree) (w : World) (k : World → Turn) → Both k
      → G (begins_one link close call w k) (begins_one link close call (later a w) k)
  begins_one_both link close call w k goes =
      calls_both link call (record w { calls = call_book.begun link (call_book.new_call close) w.calls })
      (λ v. calls_left zero link v k) (λ v. calls_left_both zero link v k goes)

  pub takes_up_both : (link : LinkId) (asked : Asked) (w : World) (k : World → Turn) → Both k
      → G (takes_up link asked w k) (takes_up link asked (later a w) k)
  takes_up_both link (Refused_by sent) w k goes =
      to k (replies link sent w) (replies link sent (later a w)) goes (replies_later a link sent w)
  takes_up_both link (Asks call close) w k goes =
      either (is_several call) (begins_several link close (parts_in call.params) w k) (begins_one link close call w k)
      (begins_several link close (parts_in call.params) (later a w) k) (begins_one link close call (later a w) k)
      (begins_several_both link close (parts_in call.params) w k goes) (begins_one_both link close call w k goes)

  -- ---- links

  serves_ask_both : (link : LinkId) (ask : Option Request) (w : World) (k : World → Turn) → Both k
      → G (serves_ask link ask w k) (serves_ask link ask (later a w) k)
  serves_ask_both link None w k goes = goes w
  serves_ask_both link (Some ask) w k goes = takes_up_both link (ask_heard ask) w k goes

  pub serves_asks_both : (left : ℕ) (link : LinkId) (w : World) (k : World → Turn) → Both k
      → G (serves_asks left link w k) (serves_asks left link (later a w) k)
  serves_asks_both zero link w k goes = goes w
  serves_asks_both (suc left) link w k goes =
      serves_ask_both link (link_book.ask_at link w.links) (record w { links = link_book.taken link w.links })
      (λ v. serves_asks left link v k) (λ v. serves_asks_both left link v k goes)

  pub serves_left_both : (left : ℕ) (link : LinkId) (w : World) (k : World → Turn) → Both k
      → G (serves_left left link w k) (serves_left left link (later a w) k)
  serves_left_both left link w k goes =
      serves_asks_both left link w (λ v. k (gives_more link v))
      (λ v. to k (gives_more link v) (gives_more link (later a v)) goes (more_later a link v))

  pub serves_all_both : (links : List LinkId) (w : World) (k : World → Turn) → Both k
      → G (serves_all links w k) (serves_all links (later a w) k)
  serves_all_both [] w k goes = goes w
  serves_all_both (link ∷ links) w k goes =
      let left = link_book.left_at link w.links in
      goes_on_both link w (λ v. serves_left left link v (λ u. serves_all links u k))
      (λ v. serves_left_both left link v (λ u. serves_all links u k) (λ u. serves_all_both links u k goes))

  -- ---- the turn

  module _ (ends : Both after_links) where
    pub after_pass_both : Both after_pass
    after_pass_both w = serves_all_both (link_book.busy_links w.links) w after_links ends

    after_stimulus_both : Both after_stimulus
    after_stimulus_both w =
        to (λ v. passes v after_pass) (ticks w) (ticks (later a w))
        (λ v. sweeps_both news_is.Time (length v.children.all - 0) 0 v after_pass after_pass_both) (ticks_past a as_they_are w)

    start_both : (b : Bool) (span : Span) (w : World)
        → G (if b then sweeps_over news_is.Start span w after_stimulus else after_stimulus w)
        (if b then sweeps_over news_is.Start span (later a w) after_stimulus else after_stimulus (later a w))
    start_both true span w = sweeps_both news_is.Start (span.to - span.from) span.from w after_stimulus after_stimulus_both
    start_both false span w = after_stimulus_both w

    applies_both : (cause : Cause) (w : World) → G (applies cause w after_stimulus) (applies cause (later a w) after_stimulus)
    applies_both cause_is.Tick w = after_stimulus_both w
    applies_both (cause_is.Exit run how) w =
        to after_stimulus (exits run how w) (exits run how (later a w)) after_stimulus_both (exits_past a as_they_are run how w)
    applies_both (cause_is.Heard run stream bytes) w =
        to after_stimulus (hears_on stream run bytes w) (hears_on stream run bytes (later a w)) after_stimulus_both
        (hears_on_past a as_they_are stream run bytes w)
    applies_both (cause_is.PipeEnd run stream) w =
        to after_stimulus (ends_pipe run stream w) (ends_pipe run stream (later a w)) after_stimulus_both
        (ends_pipe_past a as_they_are run stream w)
    applies_both (cause_is.Opened link side) w =
        to after_stimulus (opens link side w) (opens link side (later a w)) after_stimulus_both
        (opens_later a link (guard_at side w.config.servers) w)
    applies_both (cause_is.Brought link bytes) w = after_stimulus_both (record w { links = link_book.fed link bytes w.links })
    applies_both (cause_is.LinkEnd link) w = after_stimulus_both (record w { links = link_book.ended link Ended w.links })
    applies_both (cause_is.Start name) w = start_both (is_running w.course.mood) (span_meant name w.children.roster) w
    applies_both (cause_is.Stop name) w =
        let span = span_meant name w.children.roster in
        to after_stimulus (stops_all span w) (stops_all span (later a w)) after_stimulus_both (stops_all_past a as_they_are span w)
    applies_both (cause_is.Signal signal) w =
        to after_stimulus (heeds signal w) (heeds signal (later a w)) after_stimulus_both (heeds_past a as_they_are signal w)

    pub turn_both : (cause : Cause) (at : ℕ) (w : World) → G (turn cause at w) (turn cause at (later a w))
    turn_both cause at w =
        to (λ v. applies cause (rewinds at v) after_stimulus) (announces w) (announces (later a w))
        (λ v. applies_both cause (rewinds at v)) (announces_past a as_they_are w)
