-- One walk through the turn, for a relation between two worlds that each of its small steps keeps: the steps, and what is made of
-- them for children, listeners and links.
use Rattle.std.proofs.Common.{ℕ, zero, suc, ◌+◌, ◌++◌, List, [], ◌∷◌, Bool, true, false, ◌||◌, Option, Some, None, if◌then◌else◌, ◌≡◌, ◌∙◌, refl, sym, ap, subst, append-nil}
use Rattle.std.specs.Prelude.{◌-◌, length, nat_le, codes, slice_get}
use Rattle.std.specs.Str.{bytes_eq}
use Rattle.sv_calls.specs.declared.answers.sent.Sent.{Sent}
use Rattle.sv_base.specs.declared.ids.LinkId.{LinkId}
use Rattle.sv_base.specs.declared.ids.Run.{Run}
use Rattle.sv_base.specs.declared.kind.Kind.{Kind}
use Rattle.sv_base.specs.declared.kind.Kind.TheVariants as kind
use Rattle.sv_base.specs.declared.signal.Signal.{Signal}
use Rattle.sv_base.specs.declared.state.How.{How}
use Rattle.sv_base.specs.declared.state.Stream.{Stream}
use Rattle.sv_base.specs.declared.state.Stream.TheVariants.{Out, Err}
use Rattle.sv_calls.specs.CallBook.{waiting_at}
use Rattle.sv_child.specs.ChildTable.{Stimulus}
use Rattle.sv_child.specs.Moves.{is_running}
use Rattle.sv_child.specs.declared.step.ChildDeed.{ChildDeed}
use Rattle.sv_child.specs.declared.step.ChildDeed.TheVariants.{Spawn, Kill}
use Rattle.sv_child.specs.declared.child.Child.{Child}
use Rattle.sv_base.specs.declared.spec.LogSpec.{LogSpec}
use Rattle.sv_children.specs.Crew.{Member, member_at}
use Rattle.sv_children.specs.News.{deed_of, step_of, stimulus_of}
use Rattle.sv_children.specs.Orders.{spawn_at}
use Rattle.sv_children.specs.declared.news.News.{News}
use Rattle.sv_children.specs.declared.news.News.TheVariants as news_is
use Rattle.sv_core.specs.Events.{announces, offers, offers_change, offers_if, offers_tick, ticks}
use Rattle.sv_core.specs.Logging.{logs, notes_if}
use Rattle.sv_core.specs.Output.{ends_pipe, hears_on, log_fact, log_kind, log_of, logs_of, message_fact, message_kind, says_on, takes_all, takes_part, takes_parts}
use Rattle.sv_core.specs.HandingOut.{hands_from, hands_out, hands_to, ready_of, sends, sends_to}
use Rattle.sv_core.specs.Listening.{exits_of, gives_back, hears, id_of, is_done_with, loses_of, loses_stdin, takes_result, tells, tells_all, tells_by}
use Rattle.sv_core.specs.Moves.{answered, comes, fails, kills, moves, orders_spawn, says}
use Rattle.sv_core.specs.Calling.{answers_call, ends_call, replies}
use Rattle.sv_core_laws.specs.CallHistory.{CallDeed, done as call_done}
use Rattle.sv_core_laws.specs.LinkHistory.{LinkEntry, deed_orders, entry_orders, next_link}
use Rattle.sv_core.specs.Openings.{closes, closes_all, opens_for}
use Rattle.sv_core.specs.Serving.{gives_more}
use Rattle.sv_core.specs.Shutdown.{drops_group, follows_plan, has_come_to_rest, moves_on, tells_group}
use Rattle.sv_core.specs.Stops.{signals, stops, stops_from, stops_all}
use Rattle.sv_core.specs.Sweeps.{Turn, asks, does, meets, spawns, spawns_as, sweeps, sweeps_all}
use Rattle.sv_core.specs.Sweeps.Turn.{Done, Ask}
use Rattle.sv_core.specs.Turn.{rewinds, world_of}
use Rattle.sv_core.specs.World.{World, gives}
use Rattle.sv_core.specs.declared.course.Course.{Course}
use Rattle.sv_core.specs.declared.part.Question.{Question}
use Rattle.sv_core.specs.declared.part.Question.TheVariants as question
use Rattle.sv_core.specs.declared.part.Reply.{Reply}
use Rattle.sv_events.specs.TickSlice.{tick}
use Rattle.sv_events.specs.declared.fact.Fact.{Fact}
use Rattle.sv_events.specs.declared.fact.Fact.TheVariants as fact
use Rattle.sv_logs.specs.Sizes.{cleared}
use Rattle.sv_groups.specs.StartOrder.{span_of}
use Rattle.sv_groups.specs.declared.order.Span.{Span}
use Rattle.sv_http.specs.declared.guard.Guard.{Guard}
use Rattle.sv_links.specs.LinkBook as link_book
use Rattle.sv_calls.specs.Waits.{waits}
use Rattle.sv_methods.specs.declared.planned.Waiting.{Waiting}
use Rattle.sv_xmlcall.specs.Trees.{Reply as CallReply}
use Rattle.sv_links.specs.LinkBook.Ending.{Closed, Failed as Lost}
use Rattle.sv_links.specs.LinkDeeds.{Deed, after as after_deed}
use Rattle.sv_links.specs.LinkDeeds.Deed.{Open, End, Answer, GiveMore}
use Rattle.sv_out.specs.declared.order.Order.{Order}
use Rattle.sv_out.specs.declared.order.Order.TheVariants as order
use Rattle.sv_out.specs.declared.order.SpawnOrder.{SpawnOrder}
use Rattle.sv_children.specs.Lines.EdgeLines.{how_of, killing_at}
use Rattle.sv_pipes.specs.declared.parts.Part.{Part as Heard}
use Rattle.sv_pipes.specs.declared.parts.Part.TheVariants as part
use Rattle.sv_pipes.specs.declared.tokens.Token.{Token}
use Rattle.sv_pipes.specs.declared.tokens.Token.TheVariants as token
use Rattle.sv_pool.specs.Listeners.{holds}
use Rattle.sv_runs.specs.RunBook.{RunBook, heard, living, lost, new_tokens, pipe_ended, process_ended, stdin_lost, teller}
use Rattle.sv_runs.specs.Streams.StreamBook as output
use Rattle.sv_runs.specs.Streams.StreamBook.{StreamRecord}
use Rattle.sv_runs.specs.declared.streams.owner.Owner.{Owner}
use Rattle.sv_core_laws.proofs.LinkTells.{Tells}
use Rattle.sv_core_laws.proofs.Answering.{Answering, kept_answered, NeverStarts, never_exits}
use Rattle.sv_core_laws.proofs.Moving.{acts, met, spawn_begun, spawn_begun_as, start_met}

-- a link that was given an order which failed ends
abbrev pub is_loss : Deed → Bool
is_loss (End link Lost) = true
is_loss deed = false

-- while a question stands only orders fail: no call is touched, links end, and the daemon goes on
pub record Between (w v : World) : Type 0 where
  pub calls : v.calls ≡ w.calls
  pub told : Tells is_loss w v
  pub halted : v.course.halted ≡ w.course.halted

-- each answer leads to a stop that is related to the world in which it came
abbrev pub Onward : (World → World → Type 0) → Turn → Type 0
Onward R (Done w) = Unit {0}
Onward R (Ask w q k) = (v : World) → Between w v → (reply : Reply) → R v (world_of (k v reply)) × Onward R (k v reply)

-- the stop is related to this world, and so on with each answer
abbrev pub From : (World → World → Type 0) → World → Turn → Type 0
From R w t = R w (world_of t) × Onward R t

-- something is done with a link, and told it
abbrev pub does_with_link : LinkEntry → World → World
does_with_link entry w = record w { links = after_deed entry.deed w.links; given = w.given ++ entry_orders entry w.links }

-- what is said of a turn that goes on from a world: it is said of one before, and of a question where it is of each answer
pub record Leading (R : World → World → Type 0) (G : World → Turn → Type 0) : Type 0 where
  pub leads : (w v : World) (t : Turn) → R w v → G v t → G w t
  pub asks : (w : World) (q : Question) (k : World → Reply → Turn)
      → ((v : World) → Between w v → (reply : Reply) → G v (k v reply)) → G w (Ask w q k)

-- a deed with a link that isn't the answer to its request
abbrev pub is_answer : Deed → Bool
is_answer (Answer link closes) = true
is_answer deed = false

-- the request of a link may be answered
abbrev pub MayReply : (Deed → Bool) → LinkId → Type 0
MayReply may link = (closes : Bool) → may (Answer link closes) ≡ true

-- what the call of a link waits for doesn't go on any more
abbrev pub MayAnswer : LinkId → World → Type 0
MayAnswer link w = (waiting : Waiting) → waiting_at link w.calls ≡ Some waiting → waits w.children.all waiting ≡ false

-- the small steps of a turn, each of which the relation keeps, where what is done with links may be done
pub record Steps (R : World → World → Type 0) : Type 0 where
  pub may : Deed → Bool
  pub same : (w : World) → R w w
  pub follow : (u v w : World) → R u v → R v w → R u w
  pub rewound : (at : ℕ) (w : World) → R w (rewinds at w)
  pub came : (how : Option How) (stimulus : Child → Option Stimulus) (c : ℕ) (w : World) → NeverStarts stimulus → R w (comes how stimulus c w)
  pub meeting : (news : News) (c : ℕ) (w : World) → R w (met news c w)
  pub starting : (link : LinkId) (c : ℕ) (w : World) → R w (start_met link c w)
  pub killed : (c : ℕ) (signal : Signal) (group : Bool) (w : World) → R w (kills c signal group w)
  pub steered : (course : Course) (w : World) → course.halted ≡ w.course.halted → R w (record w { course = course })
  pub ended : (w : World) → R w (record w { given = w.given ++ order.Halt ∷ [] })
  pub offered : (kind : Kind) (fact : Fact) (w : World) → R w (offers kind fact w)
  pub clocked : (clock : ℕ) (w : World) → R w (record w { clock = clock })
  pub booked : (runs : RunBook) (w : World) → R w (record w { runs = runs })
  pub done : (c : ℕ) (w : World) → R w (is_done_with c w)
  pub returned : (c : ℕ) (w : World) → R w (gives_back c w)
  pub sent : (run : Run) (c : ℕ) (w : World) → R w (sends run c w)
  pub logged : (log : LogSpec) (piece : List ℕ) (w : World) → R w (logs log piece w)
  pub written : (streams : List StreamRecord) (w : World) → R w (record w { streams = streams })
  pub linked : (entry : LinkEntry) (w : World) → is_answer entry.deed ≡ false → may entry.deed ≡ true → R w (does_with_link entry w)
  pub read : (file : List ℕ) (start length : ℕ) (w : World) → R w (gives (order.ReadFile file start length) w)
  pub called : (deed : CallDeed) (w : World) → R w (record w { calls = call_done deed w.calls })
  pub answered : (link : LinkId) (reply : CallReply) (w : World) → MayReply may link → MayAnswer link w → R w (answers_call link reply w)
  pub whole : (link : LinkId) (w : World) → MayReply may link → R w (ends_call link w)
  pub replied : (link : LinkId) (sent : Sent) (w : World) → MayReply may link → R w (replies link sent w)
  pub told : (run : Run) (bytes : List ℕ) (w : World) → R w (gives (order.Stdin run bytes) w)
  pub wiped : (file : List ℕ) (w : World) → R w (gives (order.ClearFile file) w)
  pub emptied : (file : List ℕ) (w : World) → R w (record w { sizes = cleared file w.sizes })

module _ (R : World → World → Type 0) (s : Steps R) where
  -- a test, and either way the relation holds
  pub by_test : (b : Bool) (w one other : World) → R w one → R w other → R w (if b then one else other)
  by_test true w one other yes_holds no_holds = yes_holds
  by_test false w one other yes_holds no_holds = no_holds

  pub answering : Answering R
  answering = record { same = s.same; follow = s.follow; came = s.came; booked = s.booked; logged = s.logged; written = s.written }

  pub kept_change : (kind : Kind) (w : World) → R w (offers_change kind w)
  kept_change kind w = s.offered kind fact.Supervisor w

  pub kept_announces : (w : World) → R w (announces w)
  kept_announces w =
      let course : Course = record w.course { announced = true } in
      let told = record w { course = course } in
      by_test w.course.announced w w (offers_change kind.SupervisorStateChangeRunning told) (s.same w)
      (s.follow w told (offers_change kind.SupervisorStateChangeRunning told) (s.steered course w refl)
      (kept_change kind.SupervisorStateChangeRunning told))

  kept_tick : (kind : Kind) (when : Option ℕ) (w : World) → R w (offers_tick kind when w)
  kept_tick kind None w = s.same w
  kept_tick kind (Some when) w = s.offered kind (fact.Tick when) w

  pub kept_ticks : (w : World) → R w (ticks w)
  kept_ticks w =
      let old = w.clock in
      let new = w.moment in
      let a = record w { clock = new } in
      let b = offers_tick kind.Tick5 (tick 5 old new) a in
      let d = offers_tick kind.Tick60 (tick 60 old new) b in
      s.follow w a (ticks w) (s.clocked new w)
      (s.follow a b (ticks w) (kept_tick kind.Tick5 (tick 5 old new) a)
      (s.follow b d (ticks w) (kept_tick kind.Tick60 (tick 60 old new) b)
      (kept_tick kind.Tick3600 (tick 3600 old new) d)))

  -- ---- listeners

  kept_result : (c : ℕ) (body : List ℕ) (w : World) → R w (takes_result c body w)
  kept_result c body w = by_test (bytes_eq body (codes "OK")) w (is_done_with c w) (gives_back c w) (s.done c w) (s.returned c w)

  kept_tells : (c : ℕ) (t : Token) (w : World) → R w (tells c t w)
  kept_tells c token.Ready w = s.same w
  kept_tells c (token.Result body) w = kept_result c body w
  kept_tells c token.Wrong w = s.returned c w

  kept_tells_all : (c : ℕ) (ts : List Token) (w : World) → R w (tells_all c ts w)
  kept_tells_all c [] w = s.same w
  kept_tells_all c (t ∷ ts) w = s.follow w (tells c t w) (tells_all c ts (tells c t w)) (kept_tells c t w) (kept_tells_all c ts (tells c t w))

  kept_tells_by : (teller : Option ℕ) (ts : List Token) (w : World) → R w (tells_by teller ts w)
  kept_tells_by None ts w = s.same w
  kept_tells_by (Some c) ts w = kept_tells_all c ts w

  kept_hears : (run : Run) (bytes : List ℕ) (w : World) → R w (hears run bytes w)
  kept_hears run bytes w =
      let book = heard run bytes w.runs in
      s.follow w (record w { runs = book }) (hears run bytes w) (s.booked book w)
      (kept_tells_by (teller run w.runs) (new_tokens run bytes w.runs) (record w { runs = book }))

  kept_offer : (kind : Kind) (f : Option Fact) (w : World) → R w (offers_if kind f w)
  kept_offer kind None w = s.same w
  kept_offer kind (Some f) w = s.offered kind f w

  kept_log_of : (channel : Stream) (m : Option Member) (bytes : List ℕ) (w : World) → R w (logs_of channel m bytes w)
  kept_log_of channel None bytes w = s.same w
  kept_log_of channel (Some m) bytes w = s.logged (log_of channel m.spec) bytes w

  kept_heard : (owner : Owner) (channel : Stream) (p : Heard) (w : World) → R w (takes_part owner channel p w)
  kept_heard owner channel (part.Logged bytes) w =
      let m = member_at w.children owner.child in
      let v = logs_of channel m bytes w in
      s.follow w v (takes_part owner channel (part.Logged bytes) w) (kept_log_of channel m bytes w)
      (kept_offer (log_kind channel) (log_fact owner.pid channel m bytes) v)
  kept_heard owner channel (part.Message bytes) w =
      kept_offer (message_kind channel) (message_fact owner.pid (member_at w.children owner.child) bytes) w

  kept_parts : (owner : Owner) (channel : Stream) (ps : List Heard) (w : World) → R w (takes_parts owner channel ps w)
  kept_parts owner channel [] w = s.same w
  kept_parts owner channel (p ∷ ps) w =
      let v = takes_part owner channel p w in
      s.follow w v (takes_parts owner channel ps v) (kept_heard owner channel p w) (kept_parts owner channel ps v)

  kept_all : (owner : Option Owner) (channel : Option Stream) (ps : List Heard) (w : World) → R w (takes_all owner channel ps w)
  kept_all None channel ps w = s.same w
  kept_all (Some owner) None ps w = s.same w
  kept_all (Some owner) (Some channel) ps w = kept_parts owner channel ps w

  kept_says : (pipe : Stream) (run : Run) (bytes : List ℕ) (w : World) → R w (says_on pipe run bytes w)
  kept_says Out run bytes w = kept_hears run bytes w
  kept_says Err run bytes w = s.same w

  pub kept_hears_on : (pipe : Stream) (run : Run) (bytes : List ℕ) (w : World) → R w (hears_on pipe run bytes w)
  kept_hears_on pipe run bytes w =
      let streams = output.fed run pipe bytes w.streams in
      let owner = output.owner_in run w.streams in
      let channel = output.channel_in run pipe w.streams in
      let ps = output.new_parts run pipe bytes w.streams in
      let u = record w { streams = streams } in
      let v = takes_all owner channel ps u in
      s.follow w u (hears_on pipe run bytes w) (s.written streams w)
      (s.follow u v (hears_on pipe run bytes w) (kept_all owner channel ps u) (kept_says pipe run bytes v))

  pub kept_ends_pipe : (run : Run) (pipe : Stream) (w : World) → R w (ends_pipe run pipe w)
  kept_ends_pipe run pipe w =
      let owner = output.owner_in run w.streams in
      let channel = output.channel_in run pipe w.streams in
      let ps = output.last_parts run pipe w.streams in
      let book = pipe_ended run pipe w.runs in
      let streams = output.pipe_ended run pipe w.streams in
      let u = record w { runs = book } in
      let v = record u { streams = streams } in
      s.follow w u (ends_pipe run pipe w) (s.booked book w)
      (s.follow u v (ends_pipe run pipe w) (s.written streams u) (kept_all owner channel ps v))

  pub kept_exits_of : (child : Option ℕ) (run : Run) (how : How) (w : World) → R w (exits_of child run how w)
  kept_exits_of None run how w = s.same w
  kept_exits_of (Some c) run how w =
      let v = comes (Some how) (stimulus_of (news_is.Exit run how)) c w in
      let u = record v { runs = process_ended run v.runs } in
      s.follow w v (gives_back c u) (s.came (Some how) (stimulus_of (news_is.Exit run how)) c w (never_exits run how))
      (s.follow v u (gives_back c u) (s.booked (process_ended run v.runs) v) (s.returned c u))

  kept_loses_of : (child : Option ℕ) (run : Run) (w : World) → R w (loses_of child run w)
  kept_loses_of None run w = s.same w
  kept_loses_of (Some c) run w =
      let u = record w { runs = lost run w.runs } in
      by_test (holds (id_of c) w.pools) w (gives_back c u) w
      (s.follow w u (gives_back c u) (s.booked (lost run w.runs) w) (s.returned c u)) (s.same w)

  pub kept_loses : (run : Run) (w : World) → R w (loses_stdin run w)
  kept_loses run w =
      let u = record w { runs = stdin_lost run w.runs } in
      s.follow w u (loses_of (living run w.runs) run u) (s.booked (stdin_lost run w.runs) w) (kept_loses_of (living run w.runs) run u)

  kept_sends : (run : Option Run) (c : ℕ) (w : World) → R w (sends_to run c w)
  kept_sends None c w = s.same w
  kept_sends (Some run) c w = s.sent run c w

  kept_hands_from : (left c : ℕ) (w : World) → R w (hands_from left c w)
  kept_hands_from zero c w = s.same w
  kept_hands_from (suc left) c w =
      s.follow w (hands_to c w) (hands_from left (c + 1) (hands_to c w))
      (kept_sends (ready_of (slice_get w.children.all c) w.runs) c w) (kept_hands_from left (c + 1) (hands_to c w))

  pub kept_hands_out : (w : World) → R w (hands_out w)
  kept_hands_out w = kept_hands_from (length w.children.all - 0) 0 w

  kept_signals : (deed : Option ChildDeed) (c : ℕ) (w : World) → R w (signals deed c w)
  kept_signals (Some (Kill signal group)) c w = s.killed c signal group w
  kept_signals (Some Spawn) c w = s.same w
  kept_signals None c w = s.same w

  pub kept_stops : (c : ℕ) (w : World) → R w (stops c w)
  kept_stops c w =
      let answer = says (stimulus_of news_is.Stop) c w in
      let v = moves None c answer w in
      s.follow w v (stops c w) (s.came None (stimulus_of news_is.Stop) c w (λ child. refl)) (kept_signals (deed_of (step_of answer)) c v)

  kept_stops_from : (from left : ℕ) (w : World) → R w (stops_from from left w)
  kept_stops_from from zero w = s.same w
  kept_stops_from from (suc left) w =
      let v = stops (from + left) w in
      s.follow w v (stops_from from left v) (kept_stops (from + left) w) (kept_stops_from from left v)

  pub kept_stops_all : (span : Span) (w : World) → R w (stops_all span w)
  kept_stops_all span w = kept_stops_from span.from (span.to - span.from) w

  kept_tells_group : (group : ℕ) (w : World) → R w (tells_group group w)
  kept_tells_group group w =
      let told = record w { course = record w.course { is_told = true } } in
      let span = span_of group w.children.roster in
      by_test (w.course.is_told || has_come_to_rest group w) w w (stops_all span told) (s.same w)
      (s.follow w told (stops_all span told) (s.steered (record w.course { is_told = true }) w refl) (kept_stops_all span told))

  kept_moves_on : (left : ℕ) (w : World) → R w (moves_on left w)
  kept_moves_on zero w = s.same w
  kept_moves_on (suc left) w =
      let told = tells_group left w in
      let dropped = drops_group left told in
      by_test (has_come_to_rest left told) w (moves_on left dropped) told
      (s.follow w told (moves_on left dropped) (kept_tells_group left w)
      (s.follow told dropped (moves_on left dropped) (s.steered dropped.course told refl) (kept_moves_on left dropped)))
      (kept_tells_group left w)

  pub kept_follows_plan : (w : World) → R w (follows_plan w)
  kept_follows_plan w = by_test (is_running w.course.mood) w w (moves_on w.course.left w) (s.same w) (kept_moves_on w.course.left w)

  -- ---- links

  -- something is done with a link, which leads to this world
  kept_linked : (entry : LinkEntry) (w v : World) → is_answer entry.deed ≡ false → s.may entry.deed ≡ true → does_with_link entry w ≡ v → R w v
  kept_linked entry w v other ok is = subst (λ u. R w u) is (s.linked entry w other ok)

  -- it is told nothing
  pub kept_untold : (deed : Deed) (w : World) → is_answer deed ≡ false → s.may deed ≡ true → deed_orders deed [] w.links ≡ []
      → R w (record w { links = after_deed deed w.links })
  kept_untold deed w other ok none =
      kept_linked (record { deed = deed; bytes = [] }) w (record w { links = after_deed deed w.links }) other ok
      (ap (λ (given : List Order). record w { links = after_deed deed w.links; given = given })
      (ap (λ (more : List Order). w.given ++ more) none ∙ append-nil w.given))

  pub kept_closes_all : (links : List LinkId) (w : World) → ((link : LinkId) → s.may (End link Closed) ≡ true) → R w (closes_all links w)
  kept_closes_all [] w ok = s.same w
  kept_closes_all (link ∷ links) w ok =
      let v = closes link w in
      s.follow w v (closes_all links v) (s.linked (record { deed = End link Closed; bytes = [] }) w refl (ok link)) (kept_closes_all links v ok)

  pub kept_opens : (link : LinkId) (guard : Option Guard) (w : World) → link ≡ next_link w.links → ((guard : Guard) → s.may (Open guard) ≡ true)
      → R w (opens_for link guard w)
  kept_opens link None w is ok = s.same w
  kept_opens link (Some guard) w is ok =
      subst (λ (number : LinkId). R w (opens_for number (Some guard) w)) (sym is) (s.linked (record { deed = Open guard; bytes = [] }) w refl (ok guard))

  pub kept_more : (link : LinkId) (w : World) → s.may (GiveMore link) ≡ true → R w (gives_more link w)
  kept_more link w ok =
      kept_linked (record { deed = GiveMore link; bytes = [] }) w (gives_more link w) refl ok (by_due (link_book.more_is_due link w.links)) where
        by_due : (b : Bool)
            → record w { links = link_book.more_given link w.links; given = w.given ++ (if b then order.More link ∷ [] else []) }
            ≡ (if b then gives (order.More link) (record w { links = link_book.more_given link w.links })
            else record w { links = link_book.more_given link w.links })
        by_due true = refl
        by_due false =
            ap (λ (given : List Order). record w { links = link_book.more_given link w.links; given = given }) (append-nil w.given)

  -- the relation is such a saying itself
  pub from_leads : Leading R (From R)
  from_leads = record {
    leads = λ w v t r f. (s.follow w v (world_of t) r f.0, f.1);
    asks = λ w q k goes. (s.same w, goes);
  }

-- what is said of the turns that they begin
module _ (R : World → World → Type 0) (s : Steps R) (G : World → Turn → Type 0) (g : Leading R G) where
  pub kept_asks : (c : ℕ) (run : Run) (w : World) (k : World → Turn) → ((v : World) → G v (k v)) → G w (asks c run w k)
  unfolding asks
  kept_asks c run w k goes =
      g.asks w question.Spawn (λ v reply. k (answered c run reply v))
      (λ v between reply. g.leads v (answered c run reply v) (k (answered c run reply v)) (kept_answered R (answering R s) c run reply v)
      (goes (answered c run reply v)))

  -- a child was met, and what is done for it goes on
  kept_spawns : (v : World) (c : ℕ) (w : World) (k : World → Turn) → R v (spawn_begun c w) → ((v : World) → G v (k v)) → G v (spawns c w k)
  kept_spawns v c w k r goes = by_number (nat_le w.next_run 4294967295) r where
    by_spawning : (spawning : Option SpawnOrder) → R v (spawn_begun_as spawning w) → G v (spawns_as spawning c w k)
    by_spawning None r = g.leads v w (k w) r (goes w)
    by_spawning (Some spawning) r =
        let run : Run = record { 0 = w.next_run } in
        g.leads v (orders_spawn spawning w) (asks c run (orders_spawn spawning w) k) r (kept_asks c run (orders_spawn spawning w) k goes)

    by_number : (b : Bool) → R v (if b then spawn_begun_as (spawn_at w.children c w.next_run) w else fails c w)
        → G v (if b then spawns_as (spawn_at w.children c w.next_run) c w k else k (fails c w))
    by_number true r = by_spawning (spawn_at w.children c w.next_run) r
    by_number false r = g.leads v (fails c w) (k (fails c w)) r (goes (fails c w))

  kept_does : (v : World) (deed : Option ChildDeed) (c : ℕ) (w : World) (k : World → Turn) → R v (acts deed c w) → ((v : World) → G v (k v))
      → G v (does deed c w k)
  kept_does v None c w k r goes = g.leads v w (k w) r (goes w)
  kept_does v (Some (Kill signal group)) c w k r goes = g.leads v (kills c signal group w) (k (kills c signal group w)) r (goes (kills c signal group w))
  kept_does v (Some Spawn) c w k r goes = kept_spawns v c w k r goes

  pub kept_meets : (news : News) (c : ℕ) (w : World) (k : World → Turn) → ((v : World) → G v (k v)) → G w (meets news c w k)
  kept_meets news c w k goes =
      let answer = says (stimulus_of news) c w in
      let deed = deed_of (step_of answer) in
      let v = moves (how_of news) c answer w in
      kept_does w deed c (notes_if (killing_at news deed v.children c) v) k (s.meeting news c w) goes

  pub kept_sweeps : (news : News) (left place : ℕ) (w : World) (k : World → Turn) → ((v : World) → G v (k v)) → G w (sweeps news left place w k)
  kept_sweeps news zero place w k goes = goes w
  kept_sweeps news (suc left) place w k goes =
      kept_meets news place w (λ v. sweeps news left (place + 1) v k) (λ v. kept_sweeps news left (place + 1) v k goes)

  pub kept_sweeps_all : (news : News) (w : World) (k : World → Turn) → ((v : World) → G v (k v)) → G w (sweeps_all news w k)
  kept_sweeps_all news w k goes = kept_sweeps news (length w.children.all - 0) 0 w k goes
