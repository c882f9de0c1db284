-- What is done with calls in a turn, which replies are sent for it, and that a start that waits isn't answered while its process is
-- STARTING.
use Rattle.std.proofs.Common.{◌≡◌, ℕ, zero, suc, List, [], ◌∷◌, ◌++◌, filter, Bool, true, false, ◌&&◌, ◌||◌, Option, Some, None, append-nil, append_assoc, refl, sym, ap, subst, ◌∙◌, if◌then◌else◌}
use Rattle.std.specs.Prelude.{is_some, length, slice_get}
use Rattle.std.specs.List.{list_any}
use Rattle.std.proofs.lemmas.List.{map-append}
use Rattle.sv_calls.specs.Answers.Served.{said}
use Rattle.sv_calls.specs.declared.answers.sent.Sent.{Sent}
use Rattle.sv_base.specs.Roster.{is_roster}
use Rattle.sv_base.specs.declared.config.Config.{Config}
use Rattle.sv_base.specs.declared.config.Host.{Host}
use Rattle.sv_base.specs.declared.ids.ChildId.{ChildId}
use Rattle.sv_base.specs.declared.ids.LinkId.{LinkId}
use Rattle.sv_base.specs.declared.spec.GroupSpec.{GroupSpec}
use Rattle.sv_base.specs.declared.spec.Spec.{Spec}
use Rattle.sv_base.specs.declared.signal.Signal.{Signal}
use Rattle.sv_base.specs.declared.spec.LogSpec.{LogSpec}
use Rattle.sv_base.specs.declared.state.How.{How}
use Rattle.sv_base.specs.declared.state.State.{State}
use Rattle.sv_base.specs.declared.state.State.TheVariants.{Stopped, Starting}
use Rattle.sv_calls.specs.CallBook as call_book
use Rattle.sv_calls.specs.CallBook.{AnswerTree, CallBook, no_calls}
use Rattle.sv_child.proofs.Walks.{walk_append}
use Rattle.sv_child.specs.ChildTable.{Stimulus}
use Rattle.sv_child.specs.Diagram.{IsWalk}
use Rattle.sv_child.specs.declared.child.Child.{Child}
use Rattle.sv_child.specs.declared.step.Edge.{Edge}
use Rattle.sv_children.proofs.Walks.{state_new}
use Rattle.sv_children.specs.Reported.{edge_told, edges_told, state_at, state_of}
use Rattle.sv_core.specs.Calling.{closes_behind, replies, replies_if}
use Rattle.sv_core.specs.Deeds.{after, deeds}
use Rattle.sv_core.specs.Listening.{id_of}
use Rattle.sv_core.specs.MachineState.{now, opening}
use Rattle.sv_children.specs.Orders.{kill_at}
use Rattle.sv_core.specs.Logging.{logs}
use Rattle.sv_core.specs.Moves.{comes, kills, says}
use Rattle.sv_core.specs.Openings.{welcome}
use Rattle.sv_core.specs.World.{World, gives}
use Rattle.sv_core_laws.proofs.Moving.{Moving, kept_met, kept_start_met}
use Rattle.sv_core_laws.proofs.Reported.{goes_halted, Goes, all_given, goes_plainly, goes_steps}
use Rattle.sv_core_laws.proofs.Silent.{Silent, added_log, is_apart, moved, no_hand, no_kill, offered, returned, same as silent_same}
use Rattle.sv_core_laws.proofs.Steps.{Steps, is_answer}
use Rattle.sv_core_laws.proofs.Told.{parted}
use Rattle.sv_core_laws.proofs.Walk.{kept_after}
use Rattle.sv_core_laws.specs.CallHistory.{AllHold, CallEntry, CallsHaveAHistory, HasLeftStarting, StartsHaveEnded, all_call_orders, all_calls_after, call_orders, calls_after, is_send, report_it, said_of, sends_if}
use Rattle.sv_core_laws.specs.CallHistory.{CallDeed, done}
use Rattle.sv_core_laws.specs.CallHistory.CallDeed.{SetsBack}
use Rattle.sv_core_laws.specs.CallHistory.CallEntry.{Answers, Does, Ends, Gives, Replies}
use Rattle.sv_core_laws.specs.LinkHistory.{deed_orders, entry_orders, next_link, reply_orders}
use Rattle.sv_groups.specs.StartOrder.{pairs_of, processes}
use Rattle.sv_links.specs.LinkBook as link_book
use Rattle.sv_links.specs.LinkBook.{LinkRecord, has_room, more_is_due}
use Rattle.sv_links.specs.LinkBook.Ending.{Closed, Ended, Failed}
use Rattle.sv_links.specs.LinkDeeds.{Deed}
use Rattle.sv_links.specs.LinkDeeds.Deed.{Open, Feed, End, Take, Answer, GiveMore}
use Rattle.sv_calls.specs.Waits.{child_of, is_due, is_due_of, is_waited_for, waits}
use Rattle.sv_methods.specs.declared.planned.Aim.{Aim}
use Rattle.sv_methods.specs.declared.planned.Aim.TheVariants.{Started}
use Rattle.sv_methods.specs.declared.planned.Asked.{Asked}
use Rattle.sv_methods.specs.declared.planned.Waiting.{Waiting}
use Rattle.sv_pool.specs.Listeners.{hand_orders}
use Rattle.sv_out.specs.declared.input.Input.{Input}
use Rattle.sv_out.specs.declared.order.Order.{Order}
use Rattle.sv_out.specs.declared.order.Order.TheVariants as order

-- ---- from one world to a later one

-- what is reported of each process leads from STOPPED to the state that it is in
abbrev Walked : World → Type 0
Walked w = (place : ℕ) (p : GroupSpec × Spec) → slice_get (pairs_of w.children.roster) place ≡ Some p
    → IsWalk Stopped (edges_told p.0.name p.1.name w.given) (state_at w.children place)

-- children go their path; and this was done with calls meanwhile
pub record Keeps (w v : World) : Type 0 where
  pub goes : Goes w v
  pub all : List CallEntry
  pub calls : v.calls ≡ all_calls_after all w.calls
  pub added : v.given ≡ w.given ++ all_call_orders all w.calls
  pub hold : is_roster w.children.roster ≡ true → Walked w → AllHold w.children.roster w.calls w.given all

calls_on : (one other : List CallEntry) (book : CallBook) → all_calls_after (one ++ other) book ≡ all_calls_after other (all_calls_after one book)
calls_on [] other book = refl
calls_on (entry ∷ one) other book = calls_on one other (calls_after entry book)

orders_on : (one other : List CallEntry) (book : CallBook)
    → all_call_orders (one ++ other) book ≡ all_call_orders one book ++ all_call_orders other (all_calls_after one book)
orders_on [] other book = refl
orders_on (entry ∷ one) other book =
    ap (λ (rest : List Order). call_orders entry book ++ rest) (orders_on one other (calls_after entry book))
    ∙ sym (append_assoc (call_orders entry book) (all_call_orders one (calls_after entry book))
    (all_call_orders other (all_calls_after one (calls_after entry book))))

hold_on : (groups : List GroupSpec) (one other : List CallEntry) (book : CallBook) (given : List Order) → AllHold groups book given one
    → AllHold groups (all_calls_after one book) (given ++ all_call_orders one book) other → AllHold groups book given (one ++ other)
hold_on groups [] other book given first second =
    subst (λ (before : List Order). AllHold groups book before other) (append-nil given) second
hold_on groups (entry ∷ one) other book given first second = (
  first.0,
  hold_on groups one other (calls_after entry book) (given ++ call_orders entry book) first.1
      (subst (λ (before : List Order). AllHold groups (all_calls_after one (calls_after entry book)) before other)
      (sym (append_assoc given (call_orders entry book) (all_call_orders one (calls_after entry book)))) second),
)

walked_on : (w v : World) → Goes w v → is_roster w.children.roster ≡ true → Walked w → Walked v
walked_on w v goes roster walked place p is =
    let at : slice_get (pairs_of w.children.roster) place ≡ Some p =
    ap (λ (groups : List GroupSpec). slice_get (pairs_of groups) place) (sym goes.kept) ∙ is in
    subst (λ (given : List Order). IsWalk Stopped (edges_told p.0.name p.1.name given) (state_at v.children place)) (sym goes.added)
    (subst (λ (edges : List (Option Edge)). IsWalk Stopped edges (state_at v.children place))
    (sym (map-append (edge_told p.0.name p.1.name) w.given goes.more))
    (walk_append Stopped (state_at w.children place) (state_at v.children place) (edges_told p.0.name p.1.name w.given)
    (edges_told p.0.name p.1.name goes.more) (walked place p at) (goes.walk place p roster at)))

follow : (u v w : World) → Keeps u v → Keeps v w → Keeps u w
follow u v w a b = record {
  goes = goes_steps.follow u v w a.goes b.goes;
  all = a.all ++ b.all;
  calls = b.calls ∙ ap (all_calls_after b.all) a.calls ∙ sym (calls_on a.all b.all u.calls);
  added = b.added
      ∙ ap (λ (given : List Order). given ++ all_call_orders b.all v.calls) a.added
      ∙ append_assoc u.given (all_call_orders a.all u.calls) (all_call_orders b.all v.calls)
      ∙ ap (λ (book : CallBook). u.given ++ (all_call_orders a.all u.calls ++ all_call_orders b.all book)) a.calls
      ∙ ap (λ (more : List Order). u.given ++ more) (sym (orders_on a.all b.all u.calls));
  hold = λ roster walked.
      hold_on u.children.roster a.all b.all u.calls u.given (a.hold roster walked)
      (subst (λ (given : List Order). AllHold u.children.roster (all_calls_after a.all u.calls) given b.all) a.added
      (subst (λ (book : CallBook). AllHold u.children.roster book v.given b.all) a.calls
      (subst (λ (groups : List GroupSpec). AllHold groups v.calls v.given b.all) a.goes.kept
      (b.hold (ap is_roster a.goes.kept ∙ roster) (walked_on u v a.goes roster walked)))));
}

-- ---- no reply is sent

no_send : (orders : List Order) → filter is_apart orders ≡ [] → filter is_send orders ≡ []
no_send [] none = refl
no_send (order.Send link bytes ∷ orders) none = cc
no_send (order.More link ∷ orders) none = cc
no_send (order.Close link ∷ orders) none = cc
no_send (order.State group name from to ∷ orders) none = no_send orders none
no_send (order.Spawn spawning ∷ orders) none = cc
no_send (order.Kill run signal group ∷ orders) none = no_send orders none
no_send (order.Stdin run bytes ∷ orders) none = no_send orders none
no_send (order.Append name bytes ∷ orders) none = no_send orders none
no_send (order.Shift from to ∷ orders) none = no_send orders none
no_send (order.Fresh name ∷ orders) none = no_send orders none
no_send (order.ReadFile name start length ∷ orders) none = no_send orders none
no_send (order.ClearFile name ∷ orders) none = no_send orders none
no_send (order.Names pattern ∷ orders) none = no_send orders none
no_send (order.Size name ∷ orders) none = no_send orders none
no_send (order.Dropped pool serial poolserial ∷ orders) none = no_send orders none
no_send (order.Halt ∷ orders) none = no_send orders none

quiet : (w v : World) (more : List Order) → Goes w v → v.calls ≡ w.calls → v.given ≡ w.given ++ more → filter is_send more ≡ [] → Keeps w v
quiet w v more goes calls added none = record {
  goes = goes;
  all = Gives more ∷ [];
  calls = calls;
  added = added ∙ ap (λ (orders : List Order). w.given ++ orders) (sym (append-nil more));
  hold = λ roster walked. (none, tt);
}

silent : (w v : World) → Goes w v → Silent w v → Keeps w v
silent w v goes s = quiet w v s.more goes s.calls s.added (no_send s.more s.none)

still_so : (w v : World) → Goes w v → v.links ≡ w.links → v.calls ≡ w.calls → v.next_run ≡ w.next_run → v.given ≡ w.given → Keeps w v
still_so w v goes links calls run given = quiet w v [] goes calls (given ∙ sym (append-nil w.given)) refl

-- a deed with a link that isn't an answer sends nothing
of_welcome : (link : LinkId) (room : Bool) → filter is_send (welcome link room ∷ []) ≡ []
of_welcome link true = refl
of_welcome link false = refl

of_more : (link : LinkId) (due : Bool) → filter is_send (if due then order.More link ∷ [] else []) ≡ []
of_more link true = refl
of_more link false = refl

no_answer : (deed : Deed) (bytes : List ℕ) (book : List LinkRecord) → is_answer deed ≡ false → filter is_send (deed_orders deed bytes book) ≡ []
no_answer (Open guard) bytes book is = of_welcome (next_link book) (has_room book)
no_answer (Feed link piece) bytes book is = refl
no_answer (End link Closed) bytes book is = refl
no_answer (End link Ended) bytes book is = refl
no_answer (End link Failed) bytes book is = refl
no_answer (Take link) bytes book is = refl
no_answer (Answer link ends) bytes book is = cc
no_answer (GiveMore link) bytes book is = of_more link (more_is_due link book)

-- ---- a reply is sent

by_closing : (link : LinkId) (sent : Sent) (closes : Bool) (w : World)
    → (closes_behind closes link (gives (order.Send link sent.text) w)).given ≡ w.given ++ reply_orders link closes sent.text
by_closing link sent true w = append_assoc w.given (order.Send link sent.text ∷ []) (order.Close link ∷ [])
by_closing link sent false w = refl

closing_calls : (link : LinkId) (closes : Bool) (w : World) → (closes_behind closes link w).calls ≡ w.calls
closing_calls link true w = refl
closing_calls link false w = refl

-- what a reply gives, and that it leaves the calls as they are
reply_given : (link : LinkId) (sent : Sent) (w : World)
    → (replies link sent w).given ≡ w.given ++ sends_if (link_book.is_sent link w.links) link (Some sent)
reply_given link sent w = by_sent (link_book.is_sent link w.links) where
  after : World
  after = record w { links = link_book.answered link sent.closes w.links }

  by_sent : (b : Bool)
      → (if b then closes_behind sent.closes link (gives (order.Send link sent.text) after) else after).given
      ≡ w.given ++ (if b then reply_orders link sent.closes sent.text else [])
  by_sent true = by_closing link sent sent.closes after
  by_sent false = sym (append-nil w.given)

reply_calls : (link : LinkId) (sent : Sent) (w : World) → (replies link sent w).calls ≡ w.calls
reply_calls link sent w = by_sent (link_book.is_sent link w.links) where
  after : World
  after = record w { links = link_book.answered link sent.closes w.links }

  by_sent : (b : Bool) → (if b then closes_behind sent.closes link (gives (order.Send link sent.text) after) else after).calls ≡ w.calls
  by_sent true = closing_calls link sent.closes (gives (order.Send link sent.text) after)
  by_sent false = refl

answer_given : (link : LinkId) (answer : Option AnswerTree) (w : World)
    → (replies_if link answer w).given ≡ w.given ++ sends_if (link_book.is_sent link w.links) link (said_of answer)
answer_given link None w = sym (append-nil w.given)
answer_given link (Some answer) w = reply_given link (said answer.close answer.reply) w

answer_calls : (link : LinkId) (answer : Option AnswerTree) (w : World) → (replies_if link answer w).calls ≡ w.calls
answer_calls link None w = refl
answer_calls link (Some answer) w = reply_calls link (said answer.close answer.reply) w

-- ---- a process that was started has left STARTING

none_of : (children : List Child) (rows : List Asked) (place : ℕ) (row : Asked) → list_any (is_waited_for children) rows ≡ false
    → slice_get rows place ≡ Some row → is_waited_for children row ≡ false
none_of children [] place row none is = cc
none_of children (one ∷ rows) zero row none is =
    by_first (is_waited_for children one) (list_any (is_waited_for children) rows) none (ap (λ (r : Asked). is_waited_for children r) (first_of is)) where
      first_of : Some one ≡ Some row → one ≡ row
      first_of e = cc

      by_first : (b rest : Bool) → (b || rest) ≡ false → b ≡ is_waited_for children row → is_waited_for children row ≡ false
      by_first true rest e same = cc
      by_first false rest e same = sym same
none_of children (one ∷ rows) (suc place) row none is =
    none_of children rows place row (by_first (is_waited_for children one) (list_any (is_waited_for children) rows) none) is where
      by_first : (b rest : Bool) → (b || rest) ≡ false → rest ≡ false
      by_first true rest e = cc
      by_first false rest e = e

-- a start that isn't waited for isn't STARTING
not_starting : (child : Option Child) → is_due_of Started child ≡ false → state_of child ≡ Starting → ⊥
not_starting None none is = cc
not_starting (Some child) none is =
    true_false (sym (ap (λ (state : State). is_due Started state) is) ∙ none) where
      true_false : true ≡ false → ⊥
      true_false = cc

-- over orders that don't report it a process stays in its state
stays : (group name : List ℕ) (orders : List Order) (from to : State) → report_it group name orders ≡ false
    → IsWalk from (edges_told group name orders) to → from ≡ to
stays group name [] from to none walk = walk
stays group name (o ∷ orders) from to none walk =
    by_report (edge_told group name o) (report_it group name orders) none walk (λ rest. stays group name orders from to rest) where
      by_report : (edge : Option Edge) (b : Bool) → (is_some edge || b) ≡ false → IsWalk from (edge ∷ edges_told group name orders) to
          → (b ≡ false → IsWalk from (edges_told group name orders) to → from ≡ to) → from ≡ to
      by_report None b none walk goes = goes none walk
      by_report (Some edge) b none walk goes = cc

left_starting : (group name : List ℕ) (orders : List Order) (to : State) → IsWalk Stopped (edges_told group name orders) to
    → (to ≡ Starting → ⊥) → HasLeftStarting group name orders
left_starting group name orders to walk not one two report edge is told starts = by_test (report_it group name two) refl where
  whole : IsWalk Stopped (edges_told group name one ++ edges_told group name (report ∷ two)) to
  whole = subst (λ (edges : List (Option Edge)). IsWalk Stopped edges to)
      (ap (edges_told group name) is ∙ map-append (edge_told group name) one (report ∷ two)) walk

  last : IsWalk Starting (edges_told group name two) to
  last =
      let two_parts = parted Stopped (edges_told group name one) (edges_told group name (report ∷ two)) to whole in
      let from_report : IsWalk two_parts.between (Some edge ∷ edges_told group name two) to =
      subst (λ (e : Option Edge). IsWalk two_parts.between (e ∷ edges_told group name two) to) told two_parts.second in
      subst (λ (from : State). IsWalk from (edges_told group name two) to) starts from_report.2

  by_test : (b : Bool) → report_it group name two ≡ b → report_it group name two ≡ true
  by_test true e = e
  by_test false e = absurd (not (sym (stays group name two Starting to e last)))

starts_ended : (w : World) (waiting : Waiting) → Walked w → waits w.children.all waiting ≡ false
    → StartsHaveEnded w.children.roster waiting w.given
starts_ended w waiting walked none row place child group spec waits_on is aim of at =
    left_starting group.name spec.name w.given (state_at w.children child.0) (walked child.0 (group, spec) at)
    (not_starting (slice_get w.children.all child.0) due) where
      rows_none : list_any (is_waited_for w.children.all) waiting.rows ≡ false
      rows_none = by_wait waiting.wait waits_on none where
        by_wait : (b : Bool) → b ≡ true → (b && list_any (is_waited_for w.children.all) waiting.rows) ≡ false
            → list_any (is_waited_for w.children.all) waiting.rows ≡ false
        by_wait true e f = f
        by_wait false e f = cc

      due : is_due_of Started (slice_get w.children.all child.0) ≡ false
      due =
          ap (λ (id : Option ChildId). is_due_of Started (child_of w.children.all id)) (sym of)
          ∙ ap (λ (asked : Aim). is_due_of asked (child_of w.children.all row.child)) (sym aim)
          ∙ none_of w.children.all waiting.rows place row rows_none is

-- ---- each small step

came_so : (how : Option How) (stimulus : Child → Option Stimulus) (c : ℕ) (w : World) → Keeps w (comes how stimulus c w)
came_so how stimulus c w = silent w (comes how stimulus c w) (goes_plainly.came how stimulus c w) (moved how c (says stimulus c w) w)

killed_so : (c : ℕ) (signal : Signal) (group : Bool) (w : World) → Keeps w (kills c signal group w)
killed_so c signal group w =
    quiet w (kills c signal group w) (kill_at w.children c signal group) (goes_plainly.killed c signal group w) refl refl
    (no_send (kill_at w.children c signal group) (no_kill w.children c signal group))

logged_so : (log : LogSpec) (piece : List ℕ) (w : World) → Keeps w (logs log piece w)
logged_so log piece w = silent w (logs log piece w) (goes_plainly.logged log piece w) (added_log log piece w)

called_so : (deed : CallDeed) (w : World) → Keeps w (record w { calls = done deed w.calls })
called_so deed w = record {
  goes = goes_steps.called deed w;
  all = Does deed ∷ [];
  calls = refl;
  added = sym (append-nil w.given);
  hold = λ roster walked. (tt, tt);
}

moving : Moving Keeps
moving = record {
  answering = record {
    same = λ w. silent w w (goes_steps.same w) (silent_same w);
    follow = follow;
    came = λ how stimulus c w never. came_so how stimulus c w;
    booked = λ runs w. still_so w _ (goes_steps.booked runs w) refl refl refl refl;
    logged = logged_so;
    written = λ streams w. still_so w _ (goes_steps.written streams w) refl refl refl refl;
  };
  moved = came_so;
  killed = killed_so;
  ordered = λ spawning w. quiet w _ (order.Spawn spawning ∷ []) (goes_plainly.ordered spawning w) refl refl refl;
  set_back = λ link what w. called_so (SetsBack link what) w;
}

pub keeps_steps : Steps Keeps
unfolding goes_plainly
keeps_steps = record {
  may = λ deed. true;
  same = λ w. silent w w (goes_steps.same w) (silent_same w);
  follow = follow;
  rewound = λ at w. still_so w _ (goes_steps.rewound at w) refl refl refl refl;
  came = λ how stimulus c w never. came_so how stimulus c w;
  meeting = kept_met Keeps moving;
  starting = kept_start_met Keeps moving;
  killed = killed_so;
  steered = λ course w same. still_so w _ (goes_steps.steered course w same) refl refl refl refl;
  ended = λ w. quiet w _ (order.Halt ∷ []) (goes_steps.ended w) refl refl refl;
  offered = λ kind fact w. silent w _ (goes_steps.offered kind fact w) (offered kind fact w);
  clocked = λ clock w. still_so w _ (goes_steps.clocked clock w) refl refl refl refl;
  booked = λ runs w. still_so w _ (goes_steps.booked runs w) refl refl refl refl;
  done = λ c w. still_so w _ (goes_steps.done c w) refl refl refl refl;
  returned = λ c w. silent w _ (goes_steps.returned c w) (returned c w);
  sent = λ run c w.
      quiet w _ (hand_orders w.config.identifier run (id_of c) w.pools) (goes_steps.sent run c w) refl refl
      (no_send (hand_orders w.config.identifier run (id_of c) w.pools) (no_hand w.config.identifier run (id_of c) w.pools.each));
  logged = logged_so;
  written = λ streams w. still_so w _ (goes_steps.written streams w) refl refl refl refl;
  linked = λ entry w other ok.
      quiet w _ (entry_orders entry w.links) (goes_steps.linked entry w other ok) refl refl (no_answer entry.deed entry.bytes w.links other);
  read = λ file start length w. quiet w _ (order.ReadFile file start length ∷ []) (goes_steps.read file start length w) refl refl refl;
  called = called_so;
  answered = λ link reply w ok may. record {
    goes = goes_steps.answered link reply w ok may;
    all = Answers link reply (link_book.is_sent link w.links) ∷ [];
    calls = answer_calls link (call_book.answer_at link reply w.calls) (record w { calls = call_book.answered link reply w.calls });
    added = answer_given link (call_book.answer_at link reply w.calls) (record w { calls = call_book.answered link reply w.calls })
        ∙ ap (λ (more : List Order). w.given ++ more)
        (sym (append-nil (sends_if (link_book.is_sent link w.links) link (said_of (call_book.answer_at link reply w.calls)))));
    hold = λ roster walked. (λ waiting is. starts_ended w waiting walked (may waiting is), tt);
  };
  whole = λ link w ok. record {
    goes = goes_steps.whole link w ok;
    all = Ends link (link_book.is_sent link w.links) ∷ [];
    calls = answer_calls link (call_book.end_at link w.calls) (record w { calls = call_book.ended link w.calls });
    added = answer_given link (call_book.end_at link w.calls) (record w { calls = call_book.ended link w.calls })
        ∙ ap (λ (more : List Order). w.given ++ more)
        (sym (append-nil (sends_if (link_book.is_sent link w.links) link (said_of (call_book.end_at link w.calls)))));
    hold = λ roster walked. (tt, tt);
  };
  replied = λ link sent w ok. record {
    goes = goes_steps.replied link sent w ok;
    all = Replies link sent (link_book.is_sent link w.links) ∷ [];
    calls = reply_calls link sent w;
    added = reply_given link sent w
        ∙ ap (λ (more : List Order). w.given ++ more) (sym (append-nil (sends_if (link_book.is_sent link w.links) link (Some sent))));
    hold = λ roster walked. (tt, tt);
  };
  told = λ run bytes w. quiet w _ (order.Stdin run bytes ∷ []) (goes_steps.told run bytes w) refl refl refl;
  wiped = λ file w. quiet w _ (order.ClearFile file ∷ []) (goes_steps.wiped file w) refl refl refl;
  emptied = λ file w. still_so w _ (goes_steps.emptied file w) refl refl refl refl;
}

-- ---- all inputs

pub history : (config : Config) (sizes : List (List ℕ × ℕ)) (host : Host) (inputs : List Input) → is_roster config.groups ≡ true
    → CallsHaveAHistory config (after (opening config sizes host) inputs) (deeds (opening config sizes host) inputs)
unfolding keeps_steps
history config sizes host inputs roster =
    let m = opening config sizes host in
    let keeps : Keeps (now m) (now (after m inputs)) = kept_after Keeps keeps_steps (λ deed. refl) (λ w. still_so w _ (goes_halted w) refl refl refl refl) m inputs tt in
    record {
      all = keeps.all;
      calls = keeps.calls;
      orders = sym (all_given config sizes host inputs) ∙ keeps.added;
      hold = keeps.hold roster (λ place p is. sym (state_new (length (processes config.groups)) place));
    }
