-- The steps of a turn for a relation that asks nothing of calls: whatever the calls become, and whatever is done with a link.
use Rattle.std.proofs.Common.{ℕ, List, [], ◌∷◌, ◌++◌, Bool, true, false, Option, Some, None, if◌then◌else◌, ◌≡◌, refl, sym, ap, subst, append-nil, append_assoc}
use Rattle.sv_calls.specs.Answers.Served.{said}
use Rattle.sv_calls.specs.declared.answers.sent.Sent.{Sent}
use Rattle.sv_base.specs.declared.ids.LinkId.{LinkId}
use Rattle.sv_base.specs.declared.ids.Run.{Run}
use Rattle.sv_base.specs.declared.kind.Kind.{Kind}
use Rattle.sv_base.specs.declared.signal.Signal.{Signal}
use Rattle.sv_base.specs.declared.spec.LogSpec.{LogSpec}
use Rattle.sv_base.specs.declared.state.How.{How}
use Rattle.sv_calls.specs.CallBook as call_book
use Rattle.sv_calls.specs.CallBook.{AnswerTree, CallBook}
use Rattle.sv_child.specs.ChildTable.{Stimulus}
use Rattle.sv_child.specs.declared.child.Child.{Child}
use Rattle.sv_core.specs.Calling.{answers_call, closes_behind, ends_call, replies, replies_if}
use Rattle.sv_core.specs.Events.{offers}
use Rattle.sv_core.specs.HandingOut.{sends}
use Rattle.sv_core.specs.Listening.{gives_back, is_done_with}
use Rattle.sv_core.specs.Logging.{logs}
use Rattle.sv_core.specs.Moves.{comes, kills, orders_spawn}
use Rattle.sv_core.specs.Turn.{rewinds}
use Rattle.sv_core.specs.World.{World, gives}
use Rattle.sv_core.specs.declared.course.Course.{Course}
use Rattle.sv_core_laws.proofs.Moving.{Moving, kept_met, kept_start_met}
use Rattle.sv_core_laws.proofs.Steps.{MayReply, Steps, does_with_link}
use Rattle.sv_core_laws.specs.CallHistory.{done as call_done}
use Rattle.sv_core_laws.specs.LinkHistory.{LinkEntry, reply_orders}
use Rattle.sv_events.specs.declared.fact.Fact.{Fact}
use Rattle.sv_logs.specs.Sizes.{cleared}
use Rattle.sv_links.specs.LinkBook as link_book
use Rattle.sv_links.specs.LinkDeeds.{Deed}
use Rattle.sv_links.specs.LinkDeeds.Deed.{Answer}
use Rattle.sv_out.specs.declared.order.Order.{Order}
use Rattle.sv_out.specs.declared.order.Order.TheVariants as order
use Rattle.sv_out.specs.declared.order.SpawnOrder.{SpawnOrder}
use Rattle.sv_runs.specs.RunBook.{RunBook}
use Rattle.sv_runs.specs.Streams.StreamBook.{StreamRecord}
use Rattle.sv_xmlcall.specs.Trees.{Reply as CallReply}

-- links and calls: whatever is done with a link, and whatever the calls become
pub record Replying (R : World → World → Type 0) : Type 0 where
  pub may : Deed → Bool
  pub same : (w : World) → R w w
  pub follow : (u v w : World) → R u v → R v w → R u w
  pub linked : (entry : LinkEntry) (w : World) → may entry.deed ≡ true → R w (does_with_link entry w)
  pub called : (calls : CallBook) (w : World) → R w (record w { calls = calls })

module _ (R : World → World → Type 0) (s : Replying R) where
  kept_linked : (entry : LinkEntry) (w v : World) → s.may entry.deed ≡ true → does_with_link entry w ≡ v → R w v
  kept_linked entry w v ok is = subst (λ u. R w u) is (s.linked entry w ok)

  pub kept_replies : (link : LinkId) (sent : Sent) (w : World) → MayReply s.may link → R w (replies link sent w)
  kept_replies link sent w ok =
      kept_linked (record { deed = Answer link sent.closes; bytes = sent.text }) w (replies link sent w) (ok sent.closes) (by_sent (link_book.is_sent link w.links) sent.closes) where
        by_sent : (b closes : Bool)
            → record w { links = link_book.answered link sent.closes w.links; given = w.given ++ (if b then reply_orders link closes sent.text else []) }
            ≡ (if b then closes_behind closes link (gives (order.Send link sent.text) (record w { links = link_book.answered link sent.closes w.links }))
            else record w { links = link_book.answered link sent.closes w.links })
        by_sent true true =
            ap (λ (given : List Order). record w { links = link_book.answered link sent.closes w.links; given = given })
            (sym (append_assoc w.given (order.Send link sent.text ∷ []) (order.Close link ∷ [])))
        by_sent true false = refl
        by_sent false closes =
            ap (λ (given : List Order). record w { links = link_book.answered link sent.closes w.links; given = given }) (append-nil w.given)

  kept_replies_if : (link : LinkId) (answer : Option AnswerTree) (w : World) → MayReply s.may link → R w (replies_if link answer w)
  kept_replies_if link None w ok = s.same w
  kept_replies_if link (Some answer) w ok = kept_replies link (said answer.close answer.reply) w ok

  pub kept_answers : (link : LinkId) (reply : CallReply) (w : World) → MayReply s.may link → R w (answers_call link reply w)
  kept_answers link reply w ok =
      let v = record w { calls = call_book.answered link reply w.calls } in
      s.follow w v (answers_call link reply w) (s.called v.calls w) (kept_replies_if link (call_book.answer_at link reply w.calls) v ok)

  pub kept_ends : (link : LinkId) (w : World) → MayReply s.may link → R w (ends_call link w)
  kept_ends link w ok =
      let v = record w { calls = call_book.ended link w.calls } in
      s.follow w v (ends_call link w) (s.called v.calls w) (kept_replies_if link (call_book.end_at link w.calls) v ok)

pub record PlainSteps (R : World → World → Type 0) : Type 0 where
  pub may : Deed → Bool
  pub same : (w : World) → R w w
  pub follow : (u v w : World) → R u v → R v w → R u w
  pub rewound : (at : ℕ) (w : World) → R w (rewinds at w)
  pub came : (how : Option How) (stimulus : Child → Option Stimulus) (c : ℕ) (w : World) → R w (comes how stimulus c w)
  pub killed : (c : ℕ) (signal : Signal) (group : Bool) (w : World) → R w (kills c signal group w)
  pub ordered : (spawning : SpawnOrder) (w : World) → R w (orders_spawn spawning w)
  pub steered : (course : Course) (w : World) → course.halted ≡ w.course.halted → R w (record w { course = course })
  pub ended : (w : World) → R w (record w { given = w.given ++ order.Halt ∷ [] })
  pub offered : (kind : Kind) (fact : Fact) (w : World) → R w (offers kind fact w)
  pub clocked : (clock : ℕ) (w : World) → R w (record w { clock = clock })
  pub booked : (runs : RunBook) (w : World) → R w (record w { runs = runs })
  pub done : (c : ℕ) (w : World) → R w (is_done_with c w)
  pub returned : (c : ℕ) (w : World) → R w (gives_back c w)
  pub sent : (run : Run) (c : ℕ) (w : World) → R w (sends run c w)
  pub logged : (log : LogSpec) (piece : List ℕ) (w : World) → R w (logs log piece w)
  pub written : (streams : List StreamRecord) (w : World) → R w (record w { streams = streams })
  pub linked : (entry : LinkEntry) (w : World) → may entry.deed ≡ true → R w (does_with_link entry w)
  pub read : (file : List ℕ) (start length : ℕ) (w : World) → R w (gives (order.ReadFile file start length) w)
  pub called : (calls : CallBook) (w : World) → R w (record w { calls = calls })
  pub told : (run : Run) (bytes : List ℕ) (w : World) → R w (gives (order.Stdin run bytes) w)
  pub wiped : (file : List ℕ) (w : World) → R w (gives (order.ClearFile file) w)
  pub emptied : (file : List ℕ) (w : World) → R w (record w { sizes = cleared file w.sizes })

module _ (R : World → World → Type 0) (s : PlainSteps R) where
  abbrev replying : Replying R
  replying = record { may = s.may; same = s.same; follow = s.follow; linked = s.linked; called = s.called }

  pub moving : Moving R
  moving = record {
    answering = record {
      same = s.same;
      follow = s.follow;
      came = λ how stimulus c w never. s.came how stimulus c w;
      booked = s.booked;
      logged = s.logged;
      written = s.written;
    };
    moved = s.came;
    killed = s.killed;
    ordered = s.ordered;
    set_back = λ link what w. s.called (call_book.set_back link what w.calls) w;
  }

  abbrev pub plainly : Steps R
  plainly = record {
    may = s.may;
    same = s.same;
    follow = s.follow;
    rewound = s.rewound;
    came = λ how stimulus c w never. s.came how stimulus c w;
    meeting = kept_met R moving;
    starting = kept_start_met R moving;
    killed = s.killed;
    steered = s.steered;
    ended = s.ended;
    offered = s.offered;
    clocked = s.clocked;
    booked = s.booked;
    done = s.done;
    returned = s.returned;
    sent = s.sent;
    logged = s.logged;
    written = s.written;
    linked = λ entry w other. s.linked entry w;
    read = s.read;
    called = λ deed w. s.called (call_done deed w.calls) w;
    told = s.told;
    wiped = s.wiped;
    emptied = s.emptied;
    answered = λ link reply w ok may. kept_answers R replying link reply w ok;
    whole = kept_ends R replying;
    replied = kept_replies R replying;
  }
