-- A link that is served gives an order that is no More, or it gets More where that is due and nothing else.
use Rattle.std.proofs.Common.{◌≡◌, ◌==◌, ◌⊎◌, inl, inr, ℕ, zero, suc, ◌++◌, ◌&&◌, List, [], ◌∷◌, Bool, true, false, Option, Some, None, if◌then◌else◌, drop, length, ◌∙◌, refl, ap, sym, subst, append-nil, append_assoc}
use Rattle.std.proofs.Math.Path.{fun_ext}
use Rattle.std.specs.Prelude.{is_some, not, slice_get}
use Rattle.std.proofs.lemmas.Bool.{eqb-true}
use Rattle.sv_calls.specs.Answers.Served.{Request as Asked, Refuses as Refused_by, Calls as Asks, heard as ask_heard, is_several, parts_in, no_parts, said}
use Rattle.sv_base.specs.declared.ids.LinkId.{LinkId}
use Rattle.sv_calls.specs.CallBook as call_book
use Rattle.sv_calls.specs.CallBook.{AnswerTree, CallBook, CallRecord, SeveralRecord, TaskRecord, are_answered, call_at, end_by, ended, ends, free_parts, is_over, new_call, new_several, parts_free, parts_left, parts_of, task_of, waiting_of}
use Rattle.sv_core.specs.Calling.{answers_call, answers_if, begins_one, begins_several, calls, calls_left, calls_parts, end_of_wait, ending_of, ends_call, goes_on, replies_if, takes_up}
use Rattle.sv_core.specs.Serving.{gives_more, serves_all, serves_ask, serves_asks, serves_left, serves_link}
use Rattle.sv_core.specs.Sweeps.{Turn}
use Rattle.sv_core.specs.Sweeps.Turn.{Done}
use Rattle.sv_core.specs.World.{World}
use Rattle.sv_cut_laws.proofs.Both.{calls_left_both, serves_all_both, serves_asks_both, serves_left_both}
use Rattle.sv_cut_laws.proofs.Calls.{Comes, Going, call_comes, gathered, here, left_natural, loud_by, loud_from, parts_loud, reply_loud, single_loud}
use Rattle.sv_cut_laws.proofs.Calls.Comes.{replied, spoke}
use Rattle.sv_cut_laws.proofs.Links.{all_more, more_for, more_is}
use Rattle.sv_cut_laws.proofs.Loud.{IsNatural, Loud, Speaks}
use Rattle.sv_cut_laws.proofs.Turns.{IsLater, of_questions}
use Rattle.sv_cut_laws.specs.IdleCut.{AreFit}
use Rattle.sv_http.specs.declared.ask.Ask.{Ask as Request}
use Rattle.sv_links.specs.LinkBook.{LinkRecord, ask_at, ask_of, asks, at_place, begins, changed_at, fed, gets_more, hears, holds_of, is_due, is_open, is_sent, left_at, left_of, link_at, longer, more_given, next_ask, sends, taken, takes, waiting}
use Rattle.sv_calls.specs.Waits.{answer, waits}
use Rattle.sv_multi.specs.Views.{PartTree}
use Rattle.sv_out.specs.declared.order.Order.{Order}
use Rattle.sv_xmlcall.specs.Trees.{Reply as Answer}

-- ---- a call in hand

-- nothing comes of the call of a link, if there is one
pub record IdleCall (link : LinkId) (w : World) : Type 0 where
  pub no_end : end_of_wait link w ≡ None
  pub no_part : free_parts (call_at link w.calls) ≡ []
  pub not_over : is_over (call_at link w.calls) ≡ false

module _ (link : LinkId) (w : World) (idle : IdleCall link w) where
  same_calls : ended link w.calls ≡ w.calls
  same_calls = fun_ext (λ (number : ℕ). by_number number (number == link.0) refl) where
    by_number : (number : ℕ) (b : Bool) → (number == link.0) ≡ b → (if b then ends (w.calls number) else w.calls number) ≡ w.calls number
    by_number number true is =
        ap (λ (b : Bool). if b then None else w.calls number)
        (ap (λ (n : ℕ). is_over (w.calls n)) (eqb-true number link.0 is) ∙ idle.not_over)
    by_number number false is = refl

  not_answered : ends_call link w ≡ w
  not_answered =
      ap (λ (answer : Option AnswerTree). replies_if link answer (record w { calls = ended link w.calls }))
      (ap (λ (b : Bool). if b then end_by (call_at link w.calls) else None) idle.not_over)
      ∙ ap (λ (calls : CallBook). record w { calls = calls }) same_calls

  call_stays : (k : World → Turn) → goes_on link w k ≡ k w
  call_stays k =
      ap (λ (reply : Option Answer). calls_parts link (answers_if link reply w) k) idle.no_end
      ∙ ap (λ (parts : List PartTree). calls_left (length parts) link w k) idle.no_part
      ∙ ap (λ (v : World). k v) not_answered

parts_natural : (link : LinkId) (k : World → Turn) → IsNatural k → IsNatural (λ v. calls_parts link v k)
parts_natural link k goes a v = calls_left_both a (IsLater a) (of_questions a) (parts_left link v.calls) link v k (goes a)

-- the parts of several calls in one
several_loud : (link : LinkId) (n : ℕ) (w : World) → Going link n w → Loud w (calls_parts link w)
several_loud link n w g =
    loud_by w (calls_parts link w) (calls_left n link w)
    (λ k. ap (λ (m : ℕ). calls_left m link w k) (ap length (ap (λ (call : Option CallRecord). free_parts call) g.at
    ∙ ap (λ (t : Option TaskRecord). parts_free t (parts_of g.r.several)) g.task
    ∙ ap (λ (x : Option SeveralRecord). parts_of x) g.several) ∙ g.left))
    (parts_loud n link w g)

-- nothing comes of it, or an order is given
module _ (link : LinkId) (w : World) where
  -- one that is in hand, and its answer would be sent
  module _ (r : CallRecord) (at : call_at link w.calls ≡ Some r) (sent : is_sent link w.links ≡ true) where
    -- where no part of it is in hand
    no_task : (several : Option SeveralRecord) → r.task ≡ None → r.several ≡ several → IdleCall link w ⊎ Loud w (goes_on link w)
    no_task None task is = inl (record {
      no_end = ap (λ (call : Option CallRecord). ending_of (waiting_of (task_of call)) w) at ∙ ap (λ (t : Option TaskRecord). ending_of (waiting_of t) w) task;
      no_part = ap (λ (call : Option CallRecord). free_parts call) at
          ∙ ap (λ (t : Option TaskRecord). parts_free t (parts_of r.several)) task ∙ ap (λ (x : Option SeveralRecord). parts_of x) is;
      not_over = ap (λ (call : Option CallRecord). is_over call) at ∙ ap (λ (x : Option SeveralRecord). are_answered x r.task) is;
    })
    no_task (Some s) task is =
        inr (loud_by w (goes_on link w) (calls_parts link w)
        (λ k. ap (λ (reply : Option Answer). calls_parts link (answers_if link reply w) k)
        (ap (λ (call : Option CallRecord). ending_of (waiting_of (task_of call)) w) at ∙ ap (λ (t : Option TaskRecord). ending_of (waiting_of t) w) task))
        (several_loud link (length s.parts) w (record {
          r = r;
          s = s;
          at = at;
          several = is;
          task = task;
          left = refl;
          sent = sent;
        })))

    -- where its wait has ended
    wait_ended : (reply : Answer) (several : Option SeveralRecord) → end_of_wait link w ≡ Some reply → r.several ≡ several → Loud w (goes_on link w)
    wait_ended reply None over is =
        loud_by w (goes_on link w) (λ k. calls_parts link (answers_call link reply w) k)
        (λ k. ap (λ (a : Option Answer). calls_parts link (answers_if link a w) k) over)
        (λ k goes v done. single_loud link reply w r at is sent (λ x. calls_parts link x k) (parts_natural link k goes) v done)
    wait_ended reply (Some s) over is =
        let gone = gathered link (length s.parts) w reply r s at is refl sent in
        let v = record w { calls = call_book.answered link reply w.calls } in
        loud_by w (goes_on link w) (calls_parts link v)
        (λ k. ap (λ (a : Option Answer). calls_parts link (answers_if link a w) k) over ∙ ap (λ (x : World). calls_parts link x k) gone.0)
        (loud_from w v (calls_parts link v) refl (several_loud link (length s.parts) v gone.1))

    -- where it waits, or its wait has ended
    with_wait : (task : TaskRecord) → r.task ≡ Some task → IdleCall link w ⊎ Loud w (goes_on link w)
    with_wait task is = by_wait (waits w.children.all task.waiting) refl where
      end_is : (b : Bool) → waits w.children.all task.waiting ≡ b
          → end_of_wait link w ≡ (if b then None else Some (answer w.children.roster w.children.all task.waiting))
      end_is b waits_so =
          ap (λ (call : Option CallRecord). ending_of (waiting_of (task_of call)) w) at
          ∙ ap (λ (t : Option TaskRecord). ending_of (waiting_of t) w) is
          ∙ ap (λ (c : Bool). if c then None else Some (answer w.children.roster w.children.all task.waiting)) waits_so

      not_answered_yet : (several : Option SeveralRecord) → are_answered several (Some task) ≡ false
      not_answered_yet None = refl
      not_answered_yet (Some s) = refl

      by_wait : (b : Bool) → waits w.children.all task.waiting ≡ b → IdleCall link w ⊎ Loud w (goes_on link w)
      by_wait true waits_so = inl (record {
        no_end = end_is true waits_so;
        no_part = ap (λ (call : Option CallRecord). free_parts call) at ∙ ap (λ (t : Option TaskRecord). parts_free t (parts_of r.several)) is;
        not_over = ap (λ (call : Option CallRecord). is_over call) at ∙ ap (λ (t : Option TaskRecord). are_answered r.several t) is
            ∙ not_answered_yet r.several;
      })
      by_wait false waits_so =
          inr (wait_ended (answer w.children.roster w.children.all task.waiting) r.several (end_is false waits_so) refl)

    in_hand : IdleCall link w ⊎ Loud w (goes_on link w)
    in_hand = by_task r.task refl where
      by_task : (task : Option TaskRecord) → r.task ≡ task → IdleCall link w ⊎ Loud w (goes_on link w)
      by_task None is = no_task r.several is refl
      by_task (Some task) is = with_wait task is

  pub call_tells : (is_some (call_at link w.calls) ≡ true → is_sent link w.links ≡ true) → IdleCall link w ⊎ Loud w (goes_on link w)
  call_tells fit = by_call (call_at link w.calls) refl fit where
    by_call : (call : Option CallRecord) → call_at link w.calls ≡ call → (is_some call ≡ true → is_sent link w.links ≡ true)
        → IdleCall link w ⊎ Loud w (goes_on link w)
    by_call None at fit = inl (record {
      no_end = ap (λ (call : Option CallRecord). ending_of (waiting_of (task_of call)) w) at;
      no_part = ap (λ (call : Option CallRecord). free_parts call) at;
      not_over = ap (λ (call : Option CallRecord). is_over call) at;
    })
    by_call (Some r) at fit = in_hand r at (fit refl)

-- ---- a request

-- one that is taken up, and its answer would be sent
taken_up_loud : (link : LinkId) (asked : Asked) (w : World) → is_sent link w.links ≡ true → Loud w (takes_up link asked w)
taken_up_loud link (Refused_by sent) w is = reply_loud link sent w is
taken_up_loud link (Asks call close) w is = by_kind (is_several call) (parts_in call.params) where
  one : World
  one = record w { calls = call_book.begun link (new_call close) w.calls }

  one_comes : Comes link (new_call close) (record w { calls = call_book.begun link (new_call close) w.calls })
      (calls link call (record w { calls = call_book.begun link (new_call close) w.calls })) → Loud w (begins_one link close call w)
  one_comes (spoke speaks) = λ k goes v done. speaks (λ x. calls_left zero link x k) (left_natural zero link k goes) v done
  one_comes (replied u reply s given links children at several leads) =
      λ k goes v done.
      loud_from w u (λ j. j (answers_call link reply u)) given
      (single_loud link reply u s at several (ap (λ (book : List LinkRecord). is_sent link book) links ∙ is))
      (λ x. calls_left zero link x k) (left_natural zero link k goes) v (sym (leads (λ x. calls_left zero link x k)) ∙ done)

  by_parts : (parts : Option (List PartTree)) → Loud w (begins_several link close parts w)
  by_parts None = reply_loud link (said close no_parts) w is
  by_parts (Some parts) =
      let v = record w { calls = call_book.begun link (new_several close parts) w.calls } in
      loud_from w v (calls_parts link v) refl (several_loud link (length parts) v (record {
        r = new_several close parts;
        s = record { results = []; parts = parts };
        at = here link (λ before. Some (new_several close parts)) w.calls;
        several = refl;
        task = refl;
        left = refl;
        sent = is;
      }))

  by_kind : (b : Bool) (parts : Option (List PartTree)) → Loud w (λ k. if b then begins_several link close parts w k else begins_one link close call w k)
  by_kind true parts = by_parts parts
  by_kind false parts =
      one_comes (call_comes link (new_call close) call (record w { calls = call_book.begun link (new_call close) w.calls })
      (here link (λ before. Some (new_call close)) w.calls))

-- ---- a link without a request

takes_none : (r : LinkRecord) → next_ask r ≡ None → takes r ≡ r
takes_none r none = ap (λ (ask : Option Request). if is_some ask then begins r else r) none

none_at : (place : ℕ) (book : List LinkRecord) → ask_of (slice_get book place) ≡ None → at_place place takes book ≡ book
none_at zero [] none = refl
none_at (suc place) [] none = refl
none_at zero (r ∷ book) none = ap (λ (x : LinkRecord). x ∷ book) (takes_none r none)
none_at (suc place) (r ∷ book) none = ap (λ (rest : List LinkRecord). r ∷ rest) (none_at place book none)

none_taken : (link : LinkId) (book : List LinkRecord) → ask_at link book ≡ None → taken link book ≡ book
none_taken link book none = by_number link.0 none where
  by_number : (number : ℕ) → ask_of (link_at number book) ≡ None → changed_at number takes book ≡ book
  by_number zero none = refl
  by_number (suc place) none = none_at place book none

nothing_asked : (left : ℕ) (link : LinkId) (w : World) (k : World → Turn) → ask_at link w.links ≡ None → serves_asks left link w k ≡ k w
nothing_asked zero link w k none = refl
nothing_asked (suc left) link w k none =
    ap (λ (ask : Option Request). serves_ask link ask (record w { links = taken link w.links }) (λ v. serves_asks left link v k)) none
    ∙ ap (λ (book : List LinkRecord). serves_asks left link (record w { links = book }) k) (none_taken link w.links none)
    ∙ nothing_asked left link w k none

-- ---- a link with one

-- it is open, and it will be in hand
sends_next : (r : LinkRecord) (ask : Request) → next_ask r ≡ Some ask → sends (takes r) ≡ true
sends_next r ask is =
    ap (λ (o : Option Request). sends (if is_some o then begins r else r)) is ∙ by_open (is_open r) is where
      by_open : (b : Bool) → (if b && not r.in_hand then slice_get (asks r) r.begun else None) ≡ Some ask → (b && true) ≡ true
      by_open true is = refl
      by_open false is = absurd cc

some_left : {A : Type 0} → (xs : List A) (n : ℕ) (x : A) → slice_get xs n ≡ Some x → (m : ℕ) × (length (drop n xs) ≡ suc m)
some_left [] n x is = absurd cc
some_left (y ∷ xs) zero x is = (length xs, refl)
some_left (y ∷ xs) (suc n) x is = some_left xs n x is

left_next : (r : LinkRecord) (ask : Request) → next_ask r ≡ Some ask → (m : ℕ) × (length (waiting r) ≡ suc m)
left_next r ask is = by_open (is_open r) r.in_hand is where
  by_open : (b c : Bool) → (if b && not c then slice_get (asks r) r.begun else None) ≡ Some ask
      → (m : ℕ) × (length (if b then drop r.begun (asks r) else []) ≡ suc m)
  by_open true false is = some_left (asks r) r.begun ask is
  by_open true true is = absurd cc
  by_open false c is = absurd cc

sent_at : (place : ℕ) (book : List LinkRecord) (ask : Request) → ask_of (slice_get book place) ≡ Some ask
    → holds_of sends (slice_get (at_place place takes book) place) ≡ true
sent_at zero [] ask is = absurd cc
sent_at (suc place) [] ask is = absurd cc
sent_at zero (r ∷ book) ask is = sends_next r ask is
sent_at (suc place) (r ∷ book) ask is = sent_at place book ask is

sent_link : (link : LinkId) (book : List LinkRecord) (ask : Request) → ask_at link book ≡ Some ask → is_sent link (taken link book) ≡ true
sent_link link book ask is = by_number link.0 is where
  by_number : (number : ℕ) → ask_of (link_at number book) ≡ Some ask → holds_of sends (link_at number (changed_at number takes book)) ≡ true
  by_number zero is = absurd cc
  by_number (suc place) is = sent_at place book ask is

left_link : (link : LinkId) (book : List LinkRecord) (ask : Request) → ask_at link book ≡ Some ask → (m : ℕ) × (left_at link book ≡ suc m)
left_link link book ask is = by_link (link_at link.0 book) is where
  by_link : (r : Option LinkRecord) → ask_of r ≡ Some ask → (m : ℕ) × (left_of r ≡ suc m)
  by_link None is = absurd cc
  by_link (Some r) is = left_next r ask is

asks_natural : (left : ℕ) (link : LinkId) (k : World → Turn) → IsNatural k → IsNatural (λ v. serves_asks left link v k)
asks_natural left link k goes a v = serves_asks_both a (IsLater a) (of_questions a) left link v k (goes a)

-- what comes after the requests of a link
more_natural : (link : LinkId) (k : World → Turn) → IsNatural k → IsNatural (λ v. k (gives_more link v))
more_natural link k goes a v = serves_left_both a (IsLater a) (of_questions a) zero link v k (goes a)

asked_loud : (link : LinkId) (w : World) (ask : Request) → ask_at link w.links ≡ Some ask
    → Loud w (serves_left (left_at link w.links) link w)
asked_loud link w ask is =
    let many = left_link link w.links ask is in
    let u = record w { links = taken link w.links } in
    λ k goes v done.
    loud_from w u (takes_up link (ask_heard ask) u) refl (taken_up_loud link (ask_heard ask) u (sent_link link w.links ask is))
    (λ x. serves_asks many.0 link x (λ y. k (gives_more link y))) (asks_natural many.0 link (λ y. k (gives_more link y)) (more_natural link k goes)) v
    (sym (ap (λ (n : ℕ). serves_asks n link w (λ y. k (gives_more link y))) many.1
    ∙ ap (λ (o : Option Request). serves_ask link o u (λ x. serves_asks many.0 link x (λ y. k (gives_more link y)))) is) ∙ done)

-- ---- one link

abbrev Serves : LinkId → World → Type 0
Serves link w = ((k : World → Turn) → serves_link link w k ≡ k (gives_more link w)) ⊎ Loud w (serves_link link w)

left_served : (left : ℕ) (link : LinkId) (k : World → Turn) → IsNatural k → IsNatural (λ v. serves_left left link v k)
left_served left link k goes a v = serves_left_both a (IsLater a) (of_questions a) left link v k (goes a)

one_served : (link : LinkId) (w : World) → AreFit w → Serves link w
one_served link w fit = by_call (call_tells link w (fit link)) (ask_at link w.links) refl where
  by_call : IdleCall link w ⊎ Loud w (goes_on link w) → (ask : Option Request) → ask_at link w.links ≡ ask → Serves link w
  by_call (inr loud) ask is =
      inr (λ k goes v done. loud (λ x. serves_left (left_at link w.links) link x k) (left_served (left_at link w.links) link k goes) v done)
  by_call (inl idle) None is =
      inl (λ k. call_stays link w idle (λ v. serves_left (left_at link w.links) link v k)
      ∙ nothing_asked (left_at link w.links) link w (λ v. k (gives_more link v)) is)
  by_call (inl idle) (Some ask) is =
      inr (loud_by w (serves_link link w) (serves_left (left_at link w.links) link w)
      (λ k. call_stays link w idle (λ v. serves_left (left_at link w.links) link v k)) (asked_loud link w ask is))

-- ---- all links

same_sends : (r : LinkRecord) → sends (gets_more r) ≡ sends r
same_sends r = by_due (is_due r) where
  by_due : (b : Bool) → sends (if b then record r { is_fed = false; has_more = true } else r) ≡ sends r
  by_due true = refl
  by_due false = refl

same_at : (change : LinkRecord → LinkRecord) → ((r : LinkRecord) → sends (change r) ≡ sends r) → (at place : ℕ) (book : List LinkRecord)
    → holds_of sends (slice_get (at_place at change book) place) ≡ holds_of sends (slice_get book place)
same_at change same zero place [] = refl
same_at change same (suc at) place [] = refl
same_at change same zero zero (r ∷ book) = same r
same_at change same zero (suc place) (r ∷ book) = refl
same_at change same (suc at) zero (r ∷ book) = refl
same_at change same (suc at) (suc place) (r ∷ book) = same_at change same at place book

pub same_sent : (change : LinkRecord → LinkRecord) → ((r : LinkRecord) → sends (change r) ≡ sends r) → (at : ℕ) (link : LinkId) (book : List LinkRecord)
    → is_sent link (changed_at at change book) ≡ is_sent link book
same_sent change same at link book = by_numbers at link.0 where
  by_numbers : (at number : ℕ) → holds_of sends (link_at number (changed_at at change book)) ≡ holds_of sends (link_at number book)
  by_numbers at zero = refl
  by_numbers zero (suc place) = refl
  by_numbers (suc at) (suc place) = same_at change same at place book

-- some order is given that is no More
abbrev pub Clash : List LinkId → World → Type 0
Clash links w = (k : World → Turn) → IsNatural k → (v : World) → serves_all links w k ≡ Done v → (before : List Order) × Speaks (w.given ++ before) v.given

abbrev pub AllServe : List LinkId → World → Type 0
AllServe links w = ((k : World → Turn) → serves_all links w k ≡ k (all_more links w)) ⊎ Clash links w

all_natural : (links : List LinkId) (k : World → Turn) → IsNatural k → IsNatural (λ v. serves_all links v k)
all_natural links k goes a v = serves_all_both a (IsLater a) (of_questions a) links v k (goes a)

pub all_served : (links : List LinkId) (w : World) → AreFit w → AllServe links w
all_served [] w fit = inl (λ k. refl)
all_served (link ∷ links) w fit =
    by_one (one_served link w fit) (all_served links next (λ other is. same_sent gets_more same_sends link.0 other w.links ∙ fit other is)) where
      next : World
      next = record w { links = more_given link w.links; given = w.given ++ more_for link w.links }

      by_one : Serves link w → AllServe links (record w { links = more_given link w.links; given = w.given ++ more_for link w.links })
          → AllServe (link ∷ links) w
      by_one (inr loud) rest =
          inr (λ k goes v done. (
            [],
            subst (λ (given : List Order). Speaks given v.given) (sym (append-nil w.given)) (loud (λ x. serves_all links x k) (all_natural links k goes) v done),
          ))
      by_one (inl idle) (inl rest) =
          inl (λ k. idle (λ v. serves_all links v k) ∙ ap (λ (v : World). serves_all links v k) (more_is link w) ∙ rest k
          ∙ ap (λ (v : World). k (all_more links v)) (sym (more_is link w)))
      by_one (inl idle) (inr clash) =
          inr (λ k goes v done.
          let found = clash k goes v
          (sym (idle (λ x. serves_all links x k) ∙ ap (λ (x : World). serves_all links x k) (more_is link w)) ∙ done) in (
            more_for link w.links ++ found.0,
            subst (λ (given : List Order). Speaks given v.given) (append_assoc w.given (more_for link w.links) found.0) found.1,
          ))

same_hears : (bytes : List ℕ) (r : LinkRecord) → sends (hears bytes r) ≡ sends r
same_hears bytes r = by_open (is_open r) where
  by_open : (b : Bool) → sends (if b then longer bytes r else r) ≡ sends r
  by_open true = refl
  by_open false = refl

-- bytes that come change no answer
pub sent_fed : (link : LinkId) (bytes : List ℕ) (other : LinkId) (book : List LinkRecord) → is_sent other (fed link bytes book) ≡ is_sent other book
sent_fed link bytes other book = same_sent (hears bytes) (same_hears bytes) link.0 other book
