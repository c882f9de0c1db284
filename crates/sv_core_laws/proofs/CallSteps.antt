-- The walk through step 5 of a turn: the requests of methods, the calls and the links.
use Rattle.std.proofs.Common.{ℕ, pos, zero, suc, List, [], ◌∷◌, Bool, true, false, Option, Some, None, if◌then◌else◌, ◌≡◌, ◌==◌, ◌∙◌, ap, refl, sym}
use Rattle.std.proofs.lemmas.Bool.{eq-eqb}
use Rattle.std.specs.Prelude.{is_some, length, nat_le, slice_get}
use Rattle.sv_calls.specs.Answers.Served.{Request as Asked, Refuses as Refused_by, Calls as Asks, heard as ask_heard, is_several, no_parts, parts_in, reads_back, said, subject_of}
use Rattle.sv_calls.specs.declared.answers.read.LogRead.{LogRead}
use Rattle.sv_base.specs.declared.ids.LinkId.{LinkId}
use Rattle.sv_base.specs.declared.ids.Run.{Run}
use Rattle.sv_base.specs.declared.kind.Kind.TheVariants as kind
use Rattle.sv_base.specs.declared.state.Mood.TheVariants as mood_is
use Rattle.sv_calls.specs.CallBook as call_book
use Rattle.sv_calls.specs.CallBook.{CallBook, CallRecord, SeveralRecord, TaskRecord, begins_part, free_parts, parts_free, parts_of, takes_part, task_of, waiting_at, waiting_of}
use Rattle.sv_calls.specs.declared.setback.Setback.{Setback}
use Rattle.sv_child.specs.Moves.{is_running}
use Rattle.sv_child.specs.declared.step.ChildDeed.{ChildDeed}
use Rattle.sv_child.specs.declared.step.ChildDeed.TheVariants.{Spawn, Kill}
use Rattle.sv_children.specs.News.{deed_of, step_of, stimulus_of}
use Rattle.sv_children.specs.Orders.{spawn_at}
use Rattle.sv_children.specs.declared.news.News.TheVariants as news_is
use Rattle.sv_core.specs.Events.{offers, offers_change}
use Rattle.sv_core.specs.Moves.{answered, kills, moves, orders_spawn, says}
use Rattle.sv_core.specs.Calling.{acts_for, acts_left, answers_call, answers_if, asks_read, begins_call, begins_one, begins_part_if, begins_several, calls, calls_all, calls_left, calls_next, calls_parts, checks_wait, comes_of, end_of_wait, ending_of, ends_call, file_reply, goes_on, read_answered, reads, replies, scene_of, takes_up}
use Rattle.sv_core.specs.Requests.{asks_clear, asks_start, carries_if, carries_request, clear_answered, clear_setback, clears, clears_all, does_all, does_next, empties_if, is_empty, run_of, spawns_for, start_answered, start_fails, start_setback, starts, starts_as, starts_by, tells_call, writes, writes_run}
use Rattle.sv_core.specs.Serving.{gives_more, serves_all, serves_ask, serves_asks, serves_left, serves_link, serves_next}
use Rattle.sv_core.specs.Shutdown.{begins_shutdown, in_mood}
use Rattle.sv_core.specs.Stops.{stops}
use Rattle.sv_core.specs.Sweeps.{Turn}
use Rattle.sv_core.specs.World.{World, gives}
use Rattle.sv_core.specs.declared.part.Question.TheVariants as question
use Rattle.sv_core.specs.declared.part.Reply.{Reply}
use Rattle.sv_events.specs.declared.fact.Fact.TheVariants as fact
use Rattle.sv_http.specs.declared.ask.Ask.{Ask as Request}
use Rattle.sv_links.specs.LinkBook as link_book
use Rattle.sv_links.specs.LinkDeeds.{Deed}
use Rattle.sv_links.specs.LinkDeeds.Deed.{GiveMore, Take}
use Rattle.sv_methods.specs.MethodTable.{planned}
use Rattle.sv_methods.specs.Outcomes as planned_is
use Rattle.sv_methods.specs.declared.planned.Request.{Request as Wish}
use Rattle.sv_methods.specs.declared.planned.Request.TheVariants as wish
use Rattle.sv_calls.specs.Waits.{answer, waits}
use Rattle.sv_methods.specs.declared.planned.Waiting.{Waiting}
use Rattle.sv_multi.specs.Views.{PartTree, Calls, Refuses}
use Rattle.sv_out.specs.declared.order.Order.TheVariants as order
use Rattle.sv_out.specs.declared.order.SpawnOrder.{SpawnOrder}
use Rattle.sv_xmlcall.specs.Trees.{CallTree, Reply as Answer, Returns, Faults}
use Rattle.sv_core_laws.proofs.Answering.{kept_answered}
use Rattle.sv_core_laws.proofs.Moving.{call_spawn_begun, spawn_begun_as, start_acts}
use Rattle.sv_core_laws.proofs.Steps.{Leading, MayAnswer, MayReply, Steps, answering, by_test as by_either, kept_change, kept_stops, kept_more, kept_untold}
use Rattle.sv_core_laws.specs.CallHistory.CallDeed.{Acts, Begins, SetsBack, TakesPart, TakesRequest}

-- ---- what the calls wait for

-- a call that waits for nothing may be answered
waits_not : (link : LinkId) (w : World) → waiting_at link w.calls ≡ None → MayAnswer link w
waits_not link w free waiting is = absurd_of (sym free ∙ is) where
  absurd_of : None ≡ Some waiting → waits w.children.all waiting ≡ false
  absurd_of = cc

-- one whose wait has ended may be answered
ended_wait : (link : LinkId) (reply : Answer) (w : World) → end_of_wait link w ≡ Some reply → MayAnswer link w
ended_wait link reply w ended waiting is =
    by_test (waits w.children.all waiting) (sym (ap (λ (at : Option Waiting). ending_of at w) is) ∙ ended) where
      by_test : (b : Bool) → (if b then None else Some (answer w.children.roster w.children.all waiting)) ≡ Some reply → b ≡ false
      by_test true is = cc
      by_test false is = refl

at_link : (number : ℕ) (one other : Option CallRecord) → (if number == number then one else other) ≡ one
at_link number one other = ap (λ (b : Bool). if b then one else other) (eq-eqb number number refl)

-- a call that was just begun waits for nothing
begun_free : (link : LinkId) (close : Bool) (book : CallBook) → waiting_at link (call_book.begun link (call_book.new_call close) book) ≡ None
begun_free link close book =
    ap (λ (call : Option CallRecord). waiting_of (task_of call)) (at_link link.0 (Some (call_book.new_call close)) (book link.0))

-- nor does one of which a part was just begun
taken_free : (call : Option CallRecord) → is_some (slice_get (free_parts call) 0) ≡ true → waiting_of (task_of (takes_part call)) ≡ None
taken_free None is = cc
taken_free (Some r) is = by_task r.task r.several is where
  by_task : (task : Option TaskRecord) (several : Option SeveralRecord) → is_some (slice_get (parts_free task (parts_of several)) 0) ≡ true
      → waiting_of (task_of (Some (begins_part task (record r { task = task; several = several })))) ≡ None
  by_task None several is = refl
  by_task (Some task) several is = cc

part_free : (link : LinkId) (book : CallBook) → is_some (call_book.part_at link book) ≡ true → waiting_at link (call_book.part_taken link book) ≡ None
part_free link book is =
    ap (λ (call : Option CallRecord). waiting_of (task_of call)) (at_link link.0 (takes_part (book link.0)) (book link.0)) ∙ taken_free (book link.0) is

module _ (R : World → World → Type 0) (s : Steps R) where
  pub kept_shutdown : (w : World) → R w (begins_shutdown w)
  kept_shutdown w =
      let ending = in_mood mood_is.Shutdown w in
      by_either R s (is_running w.course.mood) w (offers_change kind.SupervisorStateChangeStopping ending) w
      (s.follow w ending (offers_change kind.SupervisorStateChangeStopping ending) (s.steered (record w.course { mood = mood_is.Shutdown }) w refl)
      (kept_change R s kind.SupervisorStateChangeStopping ending)) (s.same w)

  kept_tells_call : (link : LinkId) (what : Option Setback) (w : World) → R w (tells_call link what w)
  kept_tells_call link None w = s.same w
  kept_tells_call link (Some what) w = s.called (SetsBack link what) w

  kept_started : (link : LinkId) (c : ℕ) (run : Run) (reply : Reply) (w : World) → R w (start_answered link c run reply w)
  kept_started link c run reply w =
      let v = answered c run reply w in
      s.follow w v (start_answered link c run reply w) (kept_answered R (answering R s) c run reply w) (kept_tells_call link (start_setback reply) v)

  kept_writes : (run : Option Run) (bytes : List ℕ) (w : World) → R w (writes_run run bytes w)
  kept_writes None bytes w = s.same w
  kept_writes (Some run) bytes w = s.told run bytes w

  kept_empties : (file : List ℕ) (b : Bool) (w : World) → R w (empties_if file b w)
  kept_empties file true w = s.emptied file w
  kept_empties file false w = s.same w

  kept_cleared : (link : LinkId) (file : List ℕ) (reply : Reply) (w : World) → R w (clear_answered link file reply w)
  kept_cleared link file reply w =
      let v = empties_if file (is_empty reply) w in
      s.follow w v (clear_answered link file reply w) (kept_empties file (is_empty reply) w) (kept_tells_call link (clear_setback reply) v)

  kept_answers_if : (link : LinkId) (reply : Option Answer) (w : World) → MayReply s.may link → end_of_wait link w ≡ reply → R w (answers_if link reply w)
  kept_answers_if link None w ok is = s.same w
  kept_answers_if link (Some reply) w ok is = s.answered link reply w ok (ended_wait link reply w is)

  kept_checks : (link : LinkId) (w : World) → MayReply s.may link → R w (checks_wait link w)
  kept_checks link w ok = kept_answers_if link (end_of_wait link w) w ok refl

-- a link may be served
pub record MayServe (may : Deed → Bool) (link : LinkId) : Type 0 where
  pub take : may (Take link) ≡ true
  pub more : may (GiveMore link) ≡ true
  pub reply : MayReply may link

-- what is said of the turns that they begin
module _ (R : World → World → Type 0) (s : Steps R) (G : World → Turn → Type 0) (g : Leading R G) where
  -- ---- requests

  kept_asks_start : (link : LinkId) (c : ℕ) (run : Run) (w : World) (k : World → Turn) → ((v : World) → G v (k v)) → G w (asks_start link c run w k)
  unfolding asks_start
  kept_asks_start link c run w k goes =
      g.asks w question.Spawn (λ v reply. k (start_answered link c run reply v))
      (λ v between reply. g.leads v (start_answered link c run reply v) (k (start_answered link c run reply v)) (kept_started R s link c run reply v)
      (goes (start_answered link c run reply v)))

  kept_spawns_for : (u : World) (link : LinkId) (c : ℕ) (w : World) (k : World → Turn) → R u (call_spawn_begun link c w) → ((v : World) → G v (k v))
      → G u (spawns_for link c w k)
  kept_spawns_for u link c w k r goes = by_number (nat_le w.next_run 4294967295) r where
    by_spawning : (spawning : Option SpawnOrder) → R u (spawn_begun_as spawning w) → G u (starts_as link spawning c w k)
    by_spawning None r = g.leads u w (k w) r (goes w)
    by_spawning (Some spawning) r =
        let run : Run = record { 0 = w.next_run } in
        let v = orders_spawn spawning w in
        g.leads u v (asks_start link c run v k) r (kept_asks_start link c run v k goes)

    by_number : (b : Bool) → R u (if b then spawn_begun_as (spawn_at w.children c w.next_run) w else start_fails link c w)
        → G u (if b then starts_as link (spawn_at w.children c w.next_run) c w k else k (start_fails link c w))
    by_number true r = by_spawning (spawn_at w.children c w.next_run) r
    by_number false r = g.leads u (start_fails link c w) (k (start_fails link c w)) r (goes (start_fails link c w))

  kept_starts_by : (u : World) (link : LinkId) (deed : Option ChildDeed) (c : ℕ) (w : World) (k : World → Turn) → R u (start_acts link deed c w)
      → ((v : World) → G v (k v)) → G u (starts_by link deed c w k)
  kept_starts_by u link None c w k r goes = g.leads u w (k w) r (goes w)
  kept_starts_by u link (Some Spawn) c w k r goes = kept_spawns_for u link c w k r goes
  kept_starts_by u link (Some (Kill signal group)) c w k r goes = g.leads u w (k w) r (goes w)

  kept_starts : (link : LinkId) (c : ℕ) (w : World) (k : World → Turn) → ((v : World) → G v (k v)) → G w (starts link c w k)
  kept_starts link c w k goes =
      let answer = says (stimulus_of news_is.Start) c w in
      kept_starts_by w link (deed_of (step_of answer)) c (moves None c answer w) k (s.starting link c w) goes

  kept_asks_clear : (link : LinkId) (file : List ℕ) (w : World) (k : World → Turn) → ((v : World) → G v (k v)) → G w (asks_clear link file w k)
  unfolding asks_clear
  kept_asks_clear link file w k goes =
      g.asks w question.Clear (λ v reply. k (clear_answered link file reply v))
      (λ v between reply. g.leads v (clear_answered link file reply v) (k (clear_answered link file reply v)) (kept_cleared R s link file reply v)
      (goes (clear_answered link file reply v)))

  kept_clears : (link : LinkId) (file : List ℕ) (w : World) (k : World → Turn) → ((v : World) → G v (k v)) → G w (clears link file w k)
  kept_clears link file w k goes =
      let v = gives (order.ClearFile file) w in
      g.leads w v (asks_clear link file v k) (s.wiped file w) (kept_asks_clear link file v k goes)

  kept_clears_all : (link : LinkId) (files : List (List ℕ)) (w : World) (k : World → Turn) → ((v : World) → G v (k v))
      → G w (clears_all link files w k)
  kept_clears_all link [] w k goes = goes w
  kept_clears_all link (file ∷ files) w k goes =
      kept_clears link file w (λ v. clears_all link files v k) (λ v. kept_clears_all link files v k goes)

  kept_carries : (link : LinkId) (what : Wish) (w : World) (k : World → Turn) → ((v : World) → G v (k v)) → G w (carries_request link what w k)
  kept_carries link (wish.Start child) w k goes = kept_starts link child.0 w k goes
  kept_carries link (wish.Stop child) w k goes =
      let v = stops child.0 w in g.leads w v (k v) (kept_stops R s child.0 w) (goes v)
  kept_carries link (wish.Kill child signal) w k goes =
      let v = kills child.0 signal false w in g.leads w v (k v) (s.killed child.0 signal false w) (goes v)
  kept_carries link (wish.Stdin child bytes) w k goes =
      let v = writes child.0 bytes w in
      g.leads w v (k v) (kept_writes R s (run_of (slice_get w.children.all child.0)) bytes w) (goes v)
  kept_carries link (wish.Remote sort bytes) w k goes =
      let v = offers kind.RemoteCommunication (fact.Remote sort bytes) w in
      g.leads w v (k v) (s.offered kind.RemoteCommunication (fact.Remote sort bytes) w) (goes v)
  kept_carries link (wish.Clear files) w k goes = kept_clears_all link files w k goes
  kept_carries link wish.Shutdown w k goes =
      let v = begins_shutdown w in g.leads w v (k v) (kept_shutdown R s w) (goes v)

  kept_carries_if : (link : LinkId) (what : Option Wish) (w : World) (k : World → Turn) → ((v : World) → G v (k v)) → G w (carries_if link what w k)
  kept_carries_if link None w k goes = goes w
  kept_carries_if link (Some what) w k goes = kept_carries link what w k goes

  kept_does_next : (link : LinkId) (w : World) (k : World → Turn) → ((v : World) → G v (k v)) → G w (does_next link w k)
  kept_does_next link w k goes =
      let v = record w { calls = call_book.request_taken link w.calls } in
      let what = call_book.request_at link w.calls in
      g.leads w v (carries_if link what v k) (s.called (TakesRequest link) w) (kept_carries_if link what v k goes)

  kept_does_all : (left : ℕ) (link : LinkId) (w : World) (k : World → Turn) → ((v : World) → G v (k v)) → G w (does_all left link w k)
  kept_does_all zero link w k goes = goes w
  kept_does_all (suc left) link w k goes =
      kept_does_next link w (λ v. does_all left link v k) (λ v. kept_does_all left link v k goes)

  -- ---- calls

  kept_asks_read : (link : LinkId) (reading : LogRead) (w : World) (k : World → Turn) → MayReply s.may link → waiting_at link w.calls ≡ None
      → ((v : World) → G v (k v))
      → G w (asks_read link reading w k)
  unfolding asks_read
  kept_asks_read link reading w k ok free goes =
      g.asks w (question.Read reading.span.length) (λ v reply. k (read_answered link reading reply v))
      (λ v between reply. g.leads v (read_answered link reading reply v) (k (read_answered link reading reply v))
      (s.answered link (reads_back reading (file_reply reply)) v ok (waits_not link v (ap (waiting_at link) between.calls ∙ free)))
      (goes (read_answered link reading reply v)))

  kept_reads : (link : LinkId) (reading : LogRead) (w : World) (k : World → Turn) → MayReply s.may link → waiting_at link w.calls ≡ None
      → ((v : World) → G v (k v))
      → G w (reads link reading w k)
  kept_reads link reading w k ok free goes =
      let v = gives (order.ReadFile reading.file reading.span.start reading.span.length) w in
      g.leads w v (asks_read link reading v k) (s.read reading.file reading.span.start reading.span.length w)
      (kept_asks_read link reading v k ok free goes)

  kept_acts_left : (left : ℕ) (link : LinkId) (w : World) (k : World → Turn) → MayReply s.may link
      → ((v : World) → G v (k v)) → G w (acts_left left link w k)
  kept_acts_left left link w k ok goes =
      kept_does_all left link w (λ v. k (checks_wait link v))
      (λ v. g.leads v (checks_wait link v) (k (checks_wait link v)) (kept_checks R s link v ok) (goes (checks_wait link v)))

  kept_acts_for : (link : LinkId) (wishes : List Wish) (waiting : Waiting) (w : World) (k : World → Turn) → MayReply s.may link
      → ((v : World) → G v (k v))
      → G w (acts_for link wishes waiting w k)
  kept_acts_for link wishes waiting w k ok goes =
      let v = record w { calls = call_book.acting link wishes waiting w.calls } in
      g.leads w v (acts_left (length wishes) link v k) (s.called (Acts link wishes waiting) w) (kept_acts_left (length wishes) link v k ok goes)

  kept_answered_so : (link : LinkId) (reply : Answer) (w : World) (k : World → Turn) → MayReply s.may link → waiting_at link w.calls ≡ None
      → ((v : World) → G v (k v))
      → G w (k (answers_call link reply w))
  kept_answered_so link reply w k ok free goes =
      let v = answers_call link reply w in g.leads w v (k v) (s.answered link reply w ok (waits_not link w free)) (goes v)

  kept_comes_of : (link : LinkId) (subject : Option (List ℕ)) (outcome : planned_is.Outcome) (w : World) (k : World → Turn) → MayReply s.may link → waiting_at link w.calls ≡ None
      → ((v : World) → G v (k v)) → G w (comes_of link subject outcome w k)
  kept_comes_of link subject (planned_is.Gives value) w k ok free goes = kept_answered_so link (Returns value) w k ok free goes
  kept_comes_of link subject (planned_is.Refuses number content) w k ok free goes = kept_answered_so link (Faults (pos number) content) w k ok free goes
  kept_comes_of link subject (planned_is.Does wishes waiting) w k ok free goes = kept_acts_for link wishes waiting w k ok goes
  kept_comes_of link subject (planned_is.Reads file span shape) w k ok free goes =
      kept_reads link (record { file = file; span = span; shape = shape; subject = subject }) w k ok free goes

  kept_calls : (link : LinkId) (call : CallTree) (w : World) (k : World → Turn) → MayReply s.may link → waiting_at link w.calls ≡ None
      → ((v : World) → G v (k v))
      → G w (calls link call w k)
  kept_calls link call w k ok free goes = kept_comes_of link (subject_of call.params) (planned (scene_of w) call w.moment) w k ok free goes

  kept_begins_part : (link : LinkId) (part : Option PartTree) (w : World) (k : World → Turn) → MayReply s.may link → (is_some part ≡ true → waiting_at link w.calls ≡ None)
      → ((v : World) → G v (k v)) → G w (begins_part_if link part w k)
  kept_begins_part link None w k ok free goes = goes w
  kept_begins_part link (Some (Calls call)) w k ok free goes = kept_calls link call w k ok (free refl) goes
  kept_begins_part link (Some (Refuses number content)) w k ok free goes = kept_answered_so link (Faults (pos number) content) w k ok (free refl) goes

  kept_calls_next : (link : LinkId) (w : World) (k : World → Turn) → MayReply s.may link → ((v : World) → G v (k v)) → G w (calls_next link w k)
  kept_calls_next link w k ok goes =
      let v = record w { calls = call_book.part_taken link w.calls } in
      let part = call_book.part_at link w.calls in
      g.leads w v (begins_part_if link part v k) (s.called (TakesPart link) w) (kept_begins_part link part v k ok (part_free link w.calls) goes)

  kept_calls_all : (left : ℕ) (link : LinkId) (w : World) (k : World → Turn) → MayReply s.may link
      → ((v : World) → G v (k v)) → G w (calls_all left link w k)
  kept_calls_all zero link w k ok goes = goes w
  kept_calls_all (suc left) link w k ok goes =
      kept_calls_next link w (λ v. calls_all left link v k) ok (λ v. kept_calls_all left link v k ok goes)

  kept_calls_left : (left : ℕ) (link : LinkId) (w : World) (k : World → Turn) → MayReply s.may link
      → ((v : World) → G v (k v)) → G w (calls_left left link w k)
  kept_calls_left left link w k ok goes =
      kept_calls_all left link w (λ v. k (ends_call link v)) ok
      (λ v. g.leads v (ends_call link v) (k (ends_call link v)) (s.whole link v ok) (goes (ends_call link v)))

  pub kept_goes_on : (link : LinkId) (w : World) (k : World → Turn) → MayReply s.may link → ((v : World) → G v (k v)) → G w (goes_on link w k)
  kept_goes_on link w k ok goes =
      let v = checks_wait link w in
      g.leads w v (calls_parts link v k) (kept_checks R s link w ok) (kept_calls_left (call_book.parts_left link v.calls) link v k ok goes)

  kept_begins_one : (link : LinkId) (close : Bool) (call : CallTree) (w : World) (k : World → Turn) → MayReply s.may link → ((v : World) → G v (k v))
      → G w (begins_one link close call w k)
  kept_begins_one link close call w k ok goes =
      let v = record w { calls = call_book.begun link (call_book.new_call close) w.calls } in
      g.leads w v (calls link call v (λ u. calls_left zero link u k)) (s.called (Begins link (call_book.new_call close)) w)
      (kept_calls link call v (λ u. calls_left zero link u k) ok (begun_free link close w.calls) (λ u. kept_calls_left zero link u k ok goes))

  kept_begins_several : (link : LinkId) (close : Bool) (parts : Option (List PartTree)) (w : World) (k : World → Turn) → MayReply s.may link
      → ((v : World) → G v (k v))
      → G w (begins_several link close parts w k)
  kept_begins_several link close None w k ok goes =
      let v = replies link (said close no_parts) w in g.leads w v (k v) (s.replied link (said close no_parts) w ok) (goes v)
  kept_begins_several link close (Some parts) w k ok goes =
      let v = record w { calls = call_book.begun link (call_book.new_several close parts) w.calls } in
      g.leads w v (calls_parts link v k) (s.called (Begins link (call_book.new_several close parts)) w)
      (kept_calls_left (call_book.parts_left link v.calls) link v k ok goes)

  kept_begins_call : (link : LinkId) (close : Bool) (call : CallTree) (w : World) (k : World → Turn) → MayReply s.may link → ((v : World) → G v (k v))
      → G w (begins_call link close call w k)
  kept_begins_call link close call w k ok goes = by_kind (is_several call) where
    by_kind : (b : Bool) → G w (if b then begins_several link close (parts_in call.params) w k else begins_one link close call w k)
    by_kind true = kept_begins_several link close (parts_in call.params) w k ok goes
    by_kind false = kept_begins_one link close call w k ok goes

  pub kept_takes_up : (link : LinkId) (asked : Asked) (w : World) (k : World → Turn) → MayReply s.may link
      → ((v : World) → G v (k v)) → G w (takes_up link asked w k)
  kept_takes_up link (Refused_by sent) w k ok goes =
      let v = replies link sent w in g.leads w v (k v) (s.replied link sent w ok) (goes v)
  kept_takes_up link (Asks call close) w k ok goes = kept_begins_call link close call w k ok goes

  kept_serves_ask : (link : LinkId) (ask : Option Request) (w : World) (k : World → Turn) → MayReply s.may link
      → ((v : World) → G v (k v)) → G w (serves_ask link ask w k)
  kept_serves_ask link None w k ok goes = goes w
  kept_serves_ask link (Some ask) w k ok goes = kept_takes_up link (ask_heard ask) w k ok goes

  pub kept_serves_next : (link : LinkId) (w : World) (k : World → Turn) → MayServe s.may link → ((v : World) → G v (k v)) → G w (serves_next link w k)
  kept_serves_next link w k ok goes =
      let u = record w { links = link_book.taken link w.links } in
      let ask = link_book.ask_at link w.links in
      g.leads w u (serves_ask link ask u k) (kept_untold R s (Take link) w refl ok.take refl) (kept_serves_ask link ask u k ok.reply goes)

  pub kept_serves_asks : (left : ℕ) (link : LinkId) (w : World) (k : World → Turn) → MayServe s.may link
      → ((v : World) → G v (k v)) → G w (serves_asks left link w k)
  kept_serves_asks zero link w k ok goes = goes w
  kept_serves_asks (suc left) link w k ok goes =
      kept_serves_next link w (λ v. serves_asks left link v k) ok (λ v. kept_serves_asks left link v k ok goes)

  pub kept_serves_left : (left : ℕ) (link : LinkId) (w : World) (k : World → Turn) → MayServe s.may link
      → ((v : World) → G v (k v)) → G w (serves_left left link w k)
  kept_serves_left left link w k ok goes =
      kept_serves_asks left link w (λ v. k (gives_more link v)) ok
      (λ v. g.leads v (gives_more link v) (k (gives_more link v)) (kept_more R s link v ok.more) (goes (gives_more link v)))

  kept_serves_link : (link : LinkId) (w : World) (k : World → Turn) → MayServe s.may link → ((v : World) → G v (k v)) → G w (serves_link link w k)
  kept_serves_link link w k ok goes =
      let left = link_book.left_at link w.links in
      kept_goes_on link w (λ v. serves_left left link v k) ok.reply (λ v. kept_serves_left left link v k ok goes)

  pub kept_serves_all : (links : List LinkId) (w : World) (k : World → Turn) → ((link : LinkId) → MayServe s.may link)
      → ((v : World) → G v (k v)) → G w (serves_all links w k)
  kept_serves_all [] w k ok goes = goes w
  kept_serves_all (link ∷ links) w k ok goes =
      kept_serves_link link w (λ v. serves_all links v k) (ok link) (λ v. kept_serves_all links v k ok goes)
