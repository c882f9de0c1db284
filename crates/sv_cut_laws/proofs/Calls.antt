-- A call whose answer would be sent gives an order once it goes on.
use Rattle.std.proofs.Common.{◌≡◌, ◌==◌, ◌⊎◌, inl, inr, ℕ, pos, zero, suc, List, [], ◌∷◌, Bool, true, false, Option, Some, None, if◌then◌else◌, drop, length, arith, ◌∙◌, refl, ap, sym, subst}
use Rattle.std.specs.Prelude.{slice_get}
use Rattle.std.proofs.lemmas.Bool.{eq-eqb}
use Rattle.sv_calls.specs.Answers.Served.{said, subject_of}
use Rattle.sv_calls.specs.declared.answers.read.LogRead.{LogRead}
use Rattle.sv_calls.specs.declared.answers.sent.Sent.{Sent}
use Rattle.sv_base.specs.declared.ids.LinkId.{LinkId}
use Rattle.sv_calls.specs.CallBook as call_book
use Rattle.sv_calls.specs.CallBook.{AnswerTree, CallBook, CallRecord, SeveralRecord, TaskRecord, acting, acts, answer_at, answer_of, answered, begins_part, call_at, changed_at, end_at, end_of, free_parts, is_answered, new_call, new_several, part_at, part_taken, parts_left, request_at, request_of, request_taken, takes_part, takes_request, task_of, waiting_of}
use Rattle.sv_children.specs.Crew.{Crew}
use Rattle.sv_core.specs.Calling.{acts_for, answers_call, answers_if, asks_read, begins_part_if, calls, calls_left, checks_wait, closes_behind, comes_of, end_of_wait, ending_of, reads, replies, replies_if, scene_of, sends_reply}
use Rattle.sv_core.specs.Requests.{carries_if, carries_request, does_all}
use Rattle.sv_core.specs.Stops.{stops}
use Rattle.sv_core.specs.Sweeps.{Turn}
use Rattle.sv_core.specs.World.{World, gives}
use Rattle.sv_cut_laws.proofs.Both.{asks_read_both, calls_left_both, checks_later, closes_behind_later, does_all_both, later, to}
use Rattle.sv_cut_laws.proofs.Loud.{IsNatural, Loud, Speaks}
use Rattle.sv_cut_laws.proofs.Plans.{Settles, StopsFirst, plan_settles}
use Rattle.sv_cut_laws.proofs.There.{process_there}
use Rattle.sv_cut_laws.proofs.Turns.{IsLater, of_questions}
use Rattle.sv_cut_laws.proofs.Wishes.{Quiet, carried, loud_one, stop_loud}
use Rattle.sv_cut_laws.proofs.Wishes.Quiet.{quiet, loud}
use Rattle.sv_links.specs.LinkBook.{LinkRecord, answered as replied_to, is_sent}
use Rattle.sv_methods.specs.MethodTable.{planned}
use Rattle.sv_methods.specs.Outcomes as planned_is
use Rattle.sv_calls.specs.Waits.{answer, waits}
use Rattle.sv_methods.specs.declared.planned.Request.{Request as Wish}
use Rattle.sv_methods.specs.declared.planned.Request.TheVariants as wish
use Rattle.sv_methods.specs.declared.planned.Waiting.{Waiting}
use Rattle.sv_multi.specs.Views.{PartTree, Calls, Refuses}
use Rattle.sv_out.specs.declared.order.Order.{Order}
use Rattle.sv_out.specs.declared.order.Order.TheVariants as order
use Rattle.sv_xmlcall.specs.Trees.{CallTree, Reply as Answer, Returns, Faults}

-- the call in hand of a link after a change
pub here : (link : LinkId) (change : Option CallRecord → Option CallRecord) (book : CallBook)
    → call_at link (changed_at link change book) ≡ change (call_at link book)
here link change book = ap (λ (b : Bool). if b then change (book link.0) else book link.0) (eq-eqb link.0 link.0 refl)

-- where an order was given before, it is still the first
pub loud_from : (w u : World) (f : (World → Turn) → Turn) → u.given ≡ w.given → Loud u f → Loud w f
loud_from w u f is speaks k goes v done = subst (λ (given : List Order). Speaks given v.given) is (speaks k goes v done)

pub loud_by : (w : World) (f g : (World → Turn) → Turn) → ((k : World → Turn) → f k ≡ g k) → Loud w g → Loud w f
loud_by w f g leads speaks k goes v done = speaks k goes v (sym (leads k) ∙ done)

-- ---- replies

-- a reply that is sent
pub reply_loud : (link : LinkId) (sent : Sent) (w : World) → is_sent link w.links ≡ true → Loud w (λ k. k (replies link sent w))
reply_loud link sent w is =
    let after = record w { links = replied_to link sent.closes w.links } in
    let o = order.Send link sent.text in
    loud_one w (gives o after) o (λ k. k (replies link sent w)) (λ k x. k (closes_behind sent.closes link x)) refl refl
    (λ k. ap (λ (b : Bool). k (if b then sends_reply link sent after else after)) is)
    (λ k goes a x. to a (IsLater a) (of_questions a) k (closes_behind sent.closes link x) (closes_behind sent.closes link (later a x)) (goes a)
    (closes_behind_later a sent.closes link x))

-- one call that is answered
pub single_loud : (link : LinkId) (reply : Answer) (w : World) (r : CallRecord) → call_at link w.calls ≡ Some r → r.several ≡ None
    → is_sent link w.links ≡ true → Loud w (λ k. k (answers_call link reply w))
single_loud link reply w r at single is =
    let u = record w { calls = answered link reply w.calls } in
    loud_by w (λ k. k (answers_call link reply w)) (λ k. k (replies link (said r.close reply) u))
    (λ k. ap (λ (answer : Option AnswerTree). k (replies_if link answer u))
    (ap (λ (call : Option CallRecord). answer_of reply call) at
    ∙ ap (λ (several : Option SeveralRecord). call_book.answer_by r.close several reply) single))
    (loud_from w u (λ k. k (replies link (said r.close reply) u)) refl (reply_loud link (said r.close reply) u is))

-- ---- the requests of a call

abbrev with_task : CallRecord → List Wish → Waiting → CallRecord
with_task r wishes waiting = record r { task = Some (record { requests = wishes; waiting = waiting }) }

-- all are carried out, and no order was given
pub record Did (link : LinkId) (r : CallRecord) (waiting : Waiting) (w v : World) : Type 0 where
  pub children : v.children ≡ w.children
  pub links : v.links ≡ w.links
  pub call : call_at link v.calls ≡ Some (with_task r [] waiting)
  pub given : v.given ≡ w.given

pub data Doing (link : LinkId) (r : CallRecord) (waiting : Waiting) (w : World) (f : (World → Turn) → Turn) : Type 0 where
  did : (v : World) → Did link r waiting w v → ((k : World → Turn) → f k ≡ k v) → Doing link r waiting w f
  gave : Loud w f → Doing link r waiting w f

all_natural : (left : ℕ) (link : LinkId) (k : World → Turn) → IsNatural k → IsNatural (λ v. does_all left link v k)
all_natural left link k goes a v = does_all_both a (IsLater a) (of_questions a) left link v k (goes a)

done_all : (wishes : List Wish) (link : LinkId) (r : CallRecord) (waiting : Waiting) (w : World)
    → call_at link w.calls ≡ Some (with_task r wishes waiting) → Doing link r waiting w (does_all (length wishes) link w)
done_all [] link r waiting w at = did w (record { children = refl; links = refl; call = at; given = refl }) (λ k. refl)
done_all (what ∷ wishes) link r waiting w at =
    by_one (carried link what taken) (λ v is. done_all wishes link r waiting v is) where
      taken : World
      taken = record w { calls = request_taken link w.calls }

      asked : request_at link w.calls ≡ Some what
      asked = ap (λ (call : Option CallRecord). request_of (task_of call)) at

      next_at : call_at link (request_taken link w.calls) ≡ Some (with_task r wishes waiting)
      next_at = here link takes_request w.calls ∙ ap (λ (call : Option CallRecord). takes_request call) at

      by_one : Quiet (record w { calls = request_taken link w.calls }) (carries_request link what (record w { calls = request_taken link w.calls }))
          → ((v : World) → call_at link v.calls ≡ Some (with_task r wishes waiting) → Doing link r waiting v (does_all (length wishes) link v))
          → Doing link r waiting w (does_all (suc (length wishes)) link w)
      by_one (loud speaks) rest =
          gave (λ k goes v done. speaks (λ x. does_all (length wishes) link x k) (all_natural (length wishes) link k goes) v
          (sym (ap (λ (o : Option Wish). carries_if link o (record w { calls = request_taken link w.calls }) (λ x. does_all (length wishes) link x k)) asked) ∙ done))
      by_one (quiet v same is) rest = by_rest (rest v (ap (λ (calls : CallBook). call_at link calls) same.calls ∙ next_at)) where
        leads : (k : World → Turn) → does_all (suc (length wishes)) link w k ≡ does_all (length wishes) link v k
        leads k =
            ap (λ (o : Option Wish). carries_if link o (record w { calls = request_taken link w.calls }) (λ x. does_all (length wishes) link x k)) asked
            ∙ is (λ x. does_all (length wishes) link x k)

        by_rest : Doing link r waiting v (does_all (length wishes) link v) → Doing link r waiting w (does_all (suc (length wishes)) link w)
        by_rest (did u all js) =
            did u (record {
              children = all.children ∙ same.children;
              links = all.links ∙ same.links;
              call = all.call;
              given = all.given ∙ same.given;
            }) (λ k. leads k ∙ js k)
        by_rest (gave speaks) =
            gave (loud_by w (does_all (suc (length wishes)) link w) (does_all (length wishes) link v) leads
            (loud_from w v (does_all (length wishes) link v) same.given speaks))

-- ---- what a call comes to

-- it is answered, while no order was given, or an order is
pub data Comes (link : LinkId) (r : CallRecord) (w : World) (f : (World → Turn) → Turn) : Type 0 where
  replied : (u : World) (reply : Answer) (s : CallRecord) → u.given ≡ w.given → u.links ≡ w.links → u.children ≡ w.children → call_at link u.calls ≡ Some s
      → s.several ≡ r.several → ((k : World → Turn) → f k ≡ k (answers_call link reply u)) → Comes link r w f
  spoke : Loud w f → Comes link r w f

checks_natural : (link : LinkId) (k : World → Turn) → IsNatural k → IsNatural (λ v. k (checks_wait link v))
checks_natural link k goes a v =
    to a (IsLater a) (of_questions a) k (checks_wait link v) (checks_wait link (later a v)) (goes a) (checks_later a link v)

-- what it acts for
module _ (link : LinkId) (r : CallRecord) (w : World) (at : call_at link w.calls ≡ Some r) (wishes : List Wish) (waiting : Waiting) where
  abbrev acted : World
  acted = record w { calls = acting link wishes waiting w.calls }

  acted_at : call_at link (acting link wishes waiting w.calls) ≡ Some (with_task r wishes waiting)
  acted_at = here link (acts wishes waiting) w.calls ∙ ap (λ (call : Option CallRecord). acts wishes waiting call) at

  -- its wait is over
  wait_over : (v : World) → Did link r waiting acted v → waits w.children.all waiting ≡ false
      → end_of_wait link v ≡ Some (answer v.children.roster v.children.all waiting)
  wait_over v all over =
      ap (λ (call : Option CallRecord). ending_of (waiting_of (task_of call)) v) all.call
      ∙ ap (λ (b : Bool). if b then None else Some (answer v.children.roster v.children.all waiting))
      (ap (λ (crew : Crew). waits crew.all waiting) all.children ∙ over)

  settled : waits w.children.all waiting ≡ false → Comes link r w (acts_for link wishes waiting w)
  settled over = by_all (done_all wishes link r waiting acted acted_at) where
    by_all : Doing link r waiting acted (does_all (length wishes) link acted) → Comes link r w (acts_for link wishes waiting w)
    by_all (did v all is) =
        replied v (answer v.children.roster v.children.all waiting) (with_task r [] waiting) all.given all.links all.children all.call refl
        (λ k. is (λ x. k (checks_wait link x))
        ∙ ap (λ (reply : Option Answer). k (answers_if link reply v)) (wait_over v all over))
    by_all (gave speaks) =
        spoke (λ k goes v done. speaks (λ x. k (checks_wait link x)) (checks_natural link k goes) v done)

  stops_first : (ws : List Wish) → ws ≡ wishes → StopsFirst w.children.roster w.children.all ws → Loud w (acts_for link wishes waiting w)
  stops_first (wish.Stop id ∷ rest) is first =
      loud_by w (acts_for link wishes waiting w)
      (λ k. k_stops (λ x. does_all (length rest) link x (λ y. k (checks_wait link y)))) leads
      (λ k goes v done. stop_loud id.0 taken (process_there w.children.roster id.0 first.1) first.0 (λ x. does_all (length rest) link x (λ y. k (checks_wait link y)))
      (all_natural (length rest) link (λ y. k (checks_wait link y)) (checks_natural link k goes)) v done) where
        taken : World
        taken = record w { calls = request_taken link (acting link wishes waiting w.calls) }

        k_stops : (World → Turn) → Turn
        k_stops k = k (stops id.0 (record w { calls = request_taken link (acting link wishes waiting w.calls) }))

        leads : (k : World → Turn) → acts_for link wishes waiting w k
            ≡ does_all (length rest) link (stops id.0 (record w { calls = request_taken link (acting link wishes waiting w.calls) })) (λ y. k (checks_wait link y))
        leads k =
            ap (λ (ws : List Wish). does_all (length ws) link acted (λ y. k (checks_wait link y))) (sym is)
            ∙ ap (λ (o : Option Wish). carries_if link o (record w { calls = request_taken link (acting link wishes waiting w.calls) })
            (λ x. does_all (length rest) link x (λ y. k (checks_wait link y))))
            (ap (λ (call : Option CallRecord). request_of (task_of call)) acted_at ∙ ap (λ (ws : List Wish). slice_get ws 0) (sym is))
  stops_first [] is first = absurd first
  stops_first (wish.Start id ∷ rest) is first = absurd first
  stops_first (wish.Kill id signal ∷ rest) is first = absurd first
  stops_first (wish.Stdin id bytes ∷ rest) is first = absurd first
  stops_first (wish.Remote sort bytes ∷ rest) is first = absurd first
  stops_first (wish.Clear files ∷ rest) is first = absurd first
  stops_first (wish.Shutdown ∷ rest) is first = absurd first

  acts_come : (waits w.children.all waiting ≡ false) ⊎ StopsFirst w.children.roster w.children.all wishes
      → Comes link r w (acts_for link wishes waiting w)
  acts_come (inl over) = settled over
  acts_come (inr first) = spoke (stops_first wishes refl first)

read_loud : (link : LinkId) (reading : LogRead) (w : World) → Loud w (reads link reading w)
read_loud link reading w =
    let o = order.ReadFile reading.file reading.span.start reading.span.length in
    loud_one w (gives o w) o (reads link reading w) (λ k x. asks_read link reading x k) refl refl (λ k. refl)
    (λ k goes a x. asks_read_both a (IsLater a) (of_questions a) link reading x k (goes a))

outcome_comes : (link : LinkId) (r : CallRecord) (w : World) (subject : Option (List ℕ)) (outcome : planned_is.Outcome) → call_at link w.calls ≡ Some r
    → Settles w.children.roster w.children.all outcome → Comes link r w (comes_of link subject outcome w)
outcome_comes link r w subject (planned_is.Gives value) at settles = replied w (Returns value) r refl refl refl at refl (λ k. refl)
outcome_comes link r w subject (planned_is.Refuses number content) at settles =
    replied w (Faults (pos number) content) r refl refl refl at refl (λ k. refl)
outcome_comes link r w subject (planned_is.Does wishes waiting) at settles = acts_come link r w at wishes waiting settles
outcome_comes link r w subject (planned_is.Reads file span shape) at settles =
    spoke (read_loud link (record { file = file; span = span; shape = shape; subject = subject }) w)

pub call_comes : (link : LinkId) (r : CallRecord) (call : CallTree) (w : World) → call_at link w.calls ≡ Some r
    → Comes link r w (calls link call w)
call_comes link r call w at =
    outcome_comes link r w (subject_of call.params) (planned (scene_of w) call w.moment) at (plan_settles (scene_of w) call w.moment)

part_comes : (link : LinkId) (r : CallRecord) (part : PartTree) (w : World) → call_at link w.calls ≡ Some r
    → Comes link r w (begins_part_if link (Some part) w)
part_comes link r (Calls call) w at = call_comes link r call w at
part_comes link r (Refuses number content) w at = replied w (Faults (pos number) content) r refl refl refl at refl (λ k. refl)

-- ---- several calls in one

-- so many parts of them are left, none is in hand, and their answer would be sent
pub record Going (link : LinkId) (n : ℕ) (w : World) : Type 0 where
  pub r : CallRecord
  pub s : SeveralRecord
  pub at : call_at link w.calls ≡ Some r
  pub several : r.several ≡ Some s
  pub task : r.task ≡ None
  pub left : length s.parts ≡ n
  pub sent : is_sent link w.links ≡ true

pub left_natural : (n : ℕ) (link : LinkId) (k : World → Turn) → IsNatural k → IsNatural (λ v. calls_left n link v k)
left_natural n link k goes a v = calls_left_both a (IsLater a) (of_questions a) n link v k (goes a)

-- all are answered
ended_loud : (link : LinkId) (w : World) → Going link zero w → Loud w (calls_left zero link w)
ended_loud link w g =
    let u = record w { calls = call_book.ended link w.calls } in
    let sent = said g.r.close (Returns (call_book.whole g.s)) in
    loud_by w (calls_left zero link w) (λ k. k (replies link sent u))
    (λ k. ap (λ (end : Option AnswerTree). k (replies_if link end u)) (end_is g.r g.s g.at g.several g.task g.left))
    (loud_from w u (λ k. k (replies link sent u)) refl (reply_loud link sent u g.sent)) where
      all_over : (n : ℕ) → n ≡ 0 → (n == 0) ≡ true
      all_over n is = eq-eqb n 0 is

      end_is : (r : CallRecord) (s : SeveralRecord) → call_at link w.calls ≡ Some r → r.several ≡ Some s → r.task ≡ None → length s.parts ≡ zero
          → end_at link w.calls ≡ Some (record { close = r.close; reply = Returns (call_book.whole s) })
      end_is r s at several task left =
          ap (λ (call : Option CallRecord). end_of call) at
          ∙ ap (λ (x : Option SeveralRecord). end_of (Some (record r { several = x }))) several
          ∙ ap (λ (t : Option TaskRecord). end_of (Some (record r { several = Some s; task = t }))) task
          ∙ ap (λ (b : Bool). if b then Some (record { close = r.close; reply = Returns (call_book.whole s) }) else None) (all_over (length s.parts) left)

-- one more is answered: the others are left
pub gathered : (link : LinkId) (n : ℕ) (u : World) (reply : Answer) (s : CallRecord) (t : SeveralRecord) → call_at link u.calls ≡ Some s
    → s.several ≡ Some t → length t.parts ≡ n → is_sent link u.links ≡ true
    → (answers_call link reply u ≡ record u { calls = answered link reply u.calls }) × Going link n (record u { calls = answered link reply u.calls })
gathered link n u reply s t at several left sent = (
  ap (λ (a : Option AnswerTree). replies_if link a (record u { calls = answered link reply u.calls }))
      (ap (λ (call : Option CallRecord). answer_of reply call) at ∙ ap (λ (x : Option SeveralRecord). call_book.answer_by s.close x reply) several),
  record {
    r = record s { several = Some (call_book.with_answer reply t); task = None };
    s = call_book.with_answer reply t;
    at = here link (is_answered reply) u.calls
        ∙ ap (λ (call : Option CallRecord). is_answered reply call) at
        ∙ ap (λ (x : Option SeveralRecord). call_book.gathers reply s x) several;
    several = refl;
    task = refl;
    left = left;
    sent = sent;
  },
)

before : (m n : ℕ) → suc m ≡ suc n → m ≡ n
before m n is = omega (arith, is)

-- the next part is begun
module _ (link : LinkId) (n : ℕ) (w : World) (g : Going link (suc n) w) (rest : (v : World) → Going link n v → Loud v (calls_left n link v)) where
  abbrev begun : World
  begun = record w { calls = part_taken link w.calls }

  part_loud : (ps : List PartTree) → g.s.parts ≡ ps → length ps ≡ suc n → Loud w (calls_left (suc n) link w)
  part_loud [] is size = absurd cc
  part_loud (part ∷ ps) is size = by_part (part_comes link next part begun next_at) where
    next : CallRecord
    next = record g.r { several = Some (record g.s { parts = drop 1 g.s.parts }) }

    next_at : call_at link (part_taken link w.calls) ≡ Some (record g.r { several = Some (record g.s { parts = drop 1 g.s.parts }) })
    next_at =
        here link takes_part w.calls
        ∙ ap (λ (call : Option CallRecord). takes_part call) g.at
        ∙ ap (λ (t : Option TaskRecord). Some (begins_part t g.r)) g.task
        ∙ ap (λ (x : Option SeveralRecord). Some (record g.r { several = call_book.part_begun x })) g.several

    part_is : part_at link w.calls ≡ Some part
    part_is =
        ap (λ (call : Option CallRecord). slice_get (free_parts call) 0) g.at
        ∙ ap (λ (t : Option TaskRecord). slice_get (call_book.parts_free t (call_book.parts_of g.r.several)) 0) g.task
        ∙ ap (λ (x : Option SeveralRecord). slice_get (call_book.parts_of x) 0) g.several
        ∙ ap (λ (parts : List PartTree). slice_get parts 0) is

    leads : (k : World → Turn) → calls_left (suc n) link w k
        ≡ begins_part_if link (Some part) (record w { calls = part_taken link w.calls }) (λ v. calls_left n link v k)
    leads k = ap (λ (p : Option PartTree). begins_part_if link p (record w { calls = part_taken link w.calls }) (λ v. calls_left n link v k)) part_is

    size_is : length (drop 1 g.s.parts) ≡ n
    size_is = ap (λ (parts : List PartTree). length (drop 1 parts)) is ∙ before (length ps) n size

    by_part : Comes link (record g.r { several = Some (record g.s { parts = drop 1 g.s.parts }) }) (record w { calls = part_taken link w.calls })
        (begins_part_if link (Some part) (record w { calls = part_taken link w.calls })) → Loud w (calls_left (suc n) link w)
    by_part (spoke speaks) =
        λ k goes v done. speaks (λ x. calls_left n link x k) (left_natural n link k goes) v (sym (leads k) ∙ done)
    by_part (replied u reply s given links children at several to_reply) =
        let gone = gathered link n u reply s (record g.s { parts = drop 1 g.s.parts }) at several size_is
        (ap (λ (book : List LinkRecord). is_sent link book) links ∙ g.sent) in
        let v = record u { calls = answered link reply u.calls } in
        loud_by w (calls_left (suc n) link w) (calls_left n link v)
        (λ k. leads k ∙ to_reply (λ x. calls_left n link x k) ∙ ap (λ (x : World). calls_left n link x k) gone.0)
        (loud_from w v (calls_left n link v) given (rest v gone.1))

pub parts_loud : (n : ℕ) (link : LinkId) (w : World) → Going link n w → Loud w (calls_left n link w)
parts_loud zero link w g = ended_loud link w g
parts_loud (suc n) link w g = part_loud link n w g (λ v going. parts_loud n link v going) g.s.parts refl g.left
