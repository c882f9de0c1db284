-- At the halt of the daemon the requests are answered.
use Rattle.std.proofs.Common.{arith, ◌≡◌, ◌≤◌, ◌+◌, ◌==◌, ℕ, zero, suc, List, [], ◌∷◌, ◌++◌, Option, Some, None, Bool, true, false, not, filter, length, if◌then◌else◌, ◌⊎◌, inl, inr, refl, sym, ap, subst, ◌∙◌, append-nil}
use Rattle.std.proofs.lemmas.List.{length-map}
use Rattle.std.proofs.lemmas.Bool.{false≢true, eqb-true, eqb-false}
use Rattle.std.specs.Option.{option_map}
use Rattle.std.specs.Prelude.{is_none}
use Rattle.sv_base.specs.declared.config.Config.{Config}
use Rattle.sv_base.specs.declared.config.Host.{Host}
use Rattle.sv_base.specs.declared.ids.LinkId.{LinkId}
use Rattle.sv_core.proofs.Standing.{came_more}
use Rattle.sv_core.specs.Deeds.{after, deeds}
use Rattle.sv_core.specs.Failure.{failed, failures_told, refusal}
use Rattle.sv_core.specs.MachineState.{Model, accepts, can_be_named, failure_named, hand, is_accepted, may_begin_in, next, next_part, now, opening, turn_of}
use Rattle.sv_core.specs.Openings.{closes, closes_all, closes_links}
use Rattle.sv_core.specs.Parts.{part_of}
use Rattle.sv_core.specs.Sweeps.{Turn}
use Rattle.sv_core.specs.Sweeps.Turn.{Done, Ask}
use Rattle.sv_core.specs.Turn.{asked_of, came, come, failed_at, world_of}
use Rattle.sv_core.specs.World.{World}
use Rattle.sv_core.specs.declared.failure.Failure.{Failure}
use Rattle.sv_core.specs.declared.failure.Failure.TheVariants.{NeverFails, ChangesNothing, LosesStdin, LosesLink, RefusesQuestion}
use Rattle.sv_core.specs.declared.part.Followed.{Followed}
use Rattle.sv_core.specs.declared.part.Followed.TheVariants as followed
use Rattle.sv_core.specs.declared.part.Part.{Part}
use Rattle.sv_core.specs.declared.part.Part.TheVariants.{Begins, Answers, Fails}
use Rattle.sv_core.specs.declared.part.Question.{Question}
use Rattle.sv_core.specs.declared.part.Reply.{Reply}
use Rattle.sv_core_laws.proofs.Closings.{closed_so}
use Rattle.sv_core_laws.proofs.Halting.{Goes, Good, IsOver, Standing, Stands, goes_steps, passed, standing_leads, stands_on, usual_between}
use Rattle.sv_core_laws.proofs.LinkKept.{in_from, is_in, is_usual}
use Rattle.sv_core_laws.proofs.LinkReplies.{all_bytes, all_same, all_sent, sent_both, sent_to_links}
use Rattle.sv_core_laws.proofs.LinkTells as tells
use Rattle.sv_core_laws.proofs.LinkTells.{all_may}
use Rattle.sv_core_laws.proofs.NextLink.{both_parts, opens_next}
use Rattle.sv_core_laws.proofs.Reported.{all_given}
use Rattle.sv_core_laws.proofs.Walk.{between_both, failed_between, kept_turn, same_between}
use Rattle.sv_core_laws.specs.HaltReplies.{RequestsAreAnswered, closes_last}
use Rattle.sv_core_laws.specs.LinkHistory.{LinkEntry, deeds_of, is_to_link}
use Rattle.sv_core_laws.specs.LinkReplies.{SentReply, bytes_in, replies_in, sent_on}
use Rattle.sv_http.proofs.AskReading.{asks_are}
use Rattle.sv_http.specs.AsksOf.{asks_of}
use Rattle.sv_http.specs.RequestStream.{AreAsks, IsAsk, is_begun}
use Rattle.sv_http.specs.declared.ask.Ask.{Ask as Request}
use Rattle.sv_http.specs.declared.ask.Ask.TheVariants.{Call, Bad}
use Rattle.sv_http.specs.declared.guard.Guard.{Guard}
use Rattle.sv_links.proofs.Accounts.{Account, account, in_order}
use Rattle.sv_links.proofs.Books.{at_apart, at_same}
use Rattle.sv_links.specs.LinkBook.{LinkRecord, asks, ended, ends, is_open, link_at, open_links}
use Rattle.sv_links.specs.LinkBook.Ending.{Closed}
use Rattle.sv_links.specs.LinkDeeds.{AreInOrder, in_hand_of, links_after, replies_on}
use Rattle.sv_links.specs.LinkDeeds.{Reply as LinkReply}
use Rattle.sv_out.specs.declared.input.Input.{Input}
use Rattle.sv_out.specs.declared.order.Order.{Order}
use Rattle.sv_out.specs.declared.order.Order.TheVariants as order

-- ---- over all inputs the daemon goes on, or it halted when all requests were begun

module _ (base : World) where
  -- a turn in hand before a halt
  abbrev Going : Turn → Type 0
  Going (Done w) = Stands base w
  Going (Ask w q k) = Good base (Ask w q k)

  stands_in : (t : Turn) → Going t → Stands base (world_of t)
  stands_in (Done w) going = going
  stands_in (Ask w q k) going = going.0

  fails_on : (failure : Failure) (w : World) → Stands base w → Stands base (failed failure w)
  fails_on failure w stands = stands_on base w (failed failure w) (usual_between base w (failed failure w) (failed_between failure w)) stands

  later : (failure : Failure) (w : World) (q : Question) (k : World → Reply → Turn) → Good base (Ask w q k) → Good base (Ask (failed failure w) q k)
  later failure w q k good = (
    fails_on failure w good.0,
    λ v between reply. good.1 v (between_both w (failed failure w) v (failed_between failure w) between) reply,
  )

  good_failed : (failure : Failure) (w : World) (q : Question) (k : World → Reply → Turn) → Good base (Ask w q k) → Good base (failed_at failure w q k)
  good_failed RefusesQuestion w q k good = good.1 w (same_between w) (refusal q)
  good_failed ChangesNothing w q k good = later ChangesNothing w q k good
  good_failed (LosesStdin run) w q k good = later (LosesStdin run) w q k good
  good_failed (LosesLink link) w q k good = later (LosesLink link) w q k good
  good_failed NeverFails w q k good = later NeverFails w q k good

  good_come : (t : Turn) (f : Followed) → Going t → Good base (come t f)
  good_come (Done w) (followed.Answered reply) going = inl going
  good_come (Done w) (followed.Failed failure) going = inl (fails_on failure w going)
  good_come (Ask w q k) (followed.Answered reply) going = going.1 w (same_between w) reply
  good_come (Ask w q k) (followed.Failed failure) going = good_failed failure w q k going

  good_going : (t : Turn) → Going t → Good base t
  good_going (Done w) going = inl going
  good_going (Ask w q k) going = going

  good_named : (t : Turn) (found : Option Failure) → Going t → Good base (came t (failures_told found))
  good_named t None going = good_going t going
  good_named t (Some failure) going = good_come t (followed.Failed failure) going

  -- where it hasn't halted
  going_on : (t : Turn) → Good base t → (world_of t).course.halted ≡ false → Going t
  going_on (Done w) (inl stands) runs = stands
  going_on (Done w) (inr over) runs = absurd (false≢true (sym runs ∙ ap (λ (v : World). v.course.halted) over.is))
  going_on (Ask w q k) good runs = good

  abbrev IsTaken : Model → Part → Type 0
  IsTaken m part = is_accepted part (asked_of (hand m)) (may_begin_in (now m)) (can_be_named m) ≡ true

  good_part : (m : Model) (part : Part) → IsTaken m part → Going (hand m) → Good base (hand (next_part m part))
  good_part m (Begins at cause) taken going =
      kept_turn (Goes is_usual) (goes_steps is_usual) (λ deed other. ap not other) (Standing base) (standing_leads base) (passed base) cause at (now m)
      (opens_next cause (now m) (both_parts (is_none (asked_of (hand m))) (may_begin_in (now m) cause) taken).1) (stands_in (hand m) going)
  good_part m (Answers reply) taken going =
      subst (Good base) (sym (came_more (turn_of m.begun m.base) m.followed (followed.Answered reply ∷ [])))
      (good_come (hand m) (followed.Answered reply) going)
  good_part m (Fails number) taken going =
      subst (Good base) (sym (came_more (turn_of m.begun m.base) m.followed (failures_told (failure_named m number))))
      (good_named (hand m) (failure_named m number) going)

  good_next : (m : Model) (input : Input) → accepts m input ≡ true → Good base (hand m) → Good base (hand (next m input))
  good_next m input accepted good =
      let parts = both_parts (not (now m).course.halted)
      (is_accepted (part_of input) (asked_of (hand m)) (may_begin_in (now m)) (can_be_named m)) accepted in
      good_part m (part_of input) parts.1 (going_on (hand m) good (runs (now m).course.halted parts.0)) where
        runs : (b : Bool) → not b ≡ true → b ≡ false
        runs true e = absurd (false≢true e)
        runs false e = refl

  good_after : (m : Model) (inputs : List Input) → Good base (hand m) → Good base (hand (after m inputs))
  good_after m [] good = good
  good_after m (i ∷ is) good =
      by_acceptance (accepts m i) refl (λ well. good_after (next m i) is well) (good_after m is good) where
        by_acceptance : (b : Bool) → accepts m i ≡ b → (Good base (hand (next m i)) → Good base (hand (after (next m i) is)))
            → Good base (hand (after m is)) → Good base (hand (if b then after (next m i) is else after m is))
        by_acceptance true accepted rest left = rest (good_next m i accepted good)
        by_acceptance false accepted rest left = left

  over_in : (t : Turn) → Good base t → (world_of t).course.halted ≡ true → IsOver base (world_of t)
  over_in (Done w) (inl stands) halted = absurd (false≢true (sym stands.running ∙ halted))
  over_in (Done w) (inr over) halted = over
  over_in (Ask w q k) good halted = absurd (false≢true (sym good.0.running ∙ halted))

-- ---- the links are closed

-- nothing is sent
sent_closing : (number : ℕ) (links : List LinkId) (w : World) → sent_on number (closes_all links w).given ≡ sent_on number w.given
sent_closing number [] w = refl
sent_closing number (link ∷ links) w =
    sent_closing number links (closes link w) ∙ sent_both number w.given (order.Close link ∷ []) ∙ append-nil (sent_on number w.given)

closed_twice : (r : LinkRecord) → ends Closed (ends Closed r) ≡ ends Closed r
closed_twice r = by_test (is_open r) refl where
  by_test : (b : Bool) → is_open r ≡ b
      → ends Closed (if b then record r { ending = Some Closed } else r) ≡ (if b then record r { ending = Some Closed } else r)
  by_test true opens = refl
  by_test false over = rw over refl

closed_over : (r : LinkRecord) → is_open (ends Closed r) ≡ false
closed_over r = by_test (is_open r) refl where
  by_test : (b : Bool) → is_open r ≡ b → is_open (if b then record r { ending = Some Closed } else r) ≡ false
  by_test true opens = refl
  by_test false over = over

closed_same : (r : LinkRecord) → is_open r ≡ false → ends Closed r ≡ r
closed_same r over = rw over refl

closed_asks : (r : LinkRecord) → asks (ends Closed r) ≡ asks r
closed_asks r = by_test (is_open r) where
  by_test : (b : Bool) → asks (if b then record r { ending = Some Closed } else r) ≡ asks r
  by_test true = refl
  by_test false = refl

no_place : (number : ℕ) (links : List LinkId) (w : World) → link_at number w.links ≡ None → link_at number (closes_all links w).links ≡ None
no_place number [] w none = none
no_place number (link ∷ links) w none = no_place number links (closes link w) (by_test (link.0 == number) refl) where
  by_test : (b : Bool) → (link.0 == number) ≡ b → link_at number (ended link Closed w.links) ≡ None
  by_test true e = rw (eqb-true link.0 number e) (at_same number (ends Closed) w.links ∙ ap (option_map (ends Closed)) none)
  by_test false e = at_apart link.0 number (ends Closed) w.links (eqb-false link.0 number e) ∙ none

closed_place : (number : ℕ) (links : List LinkId) (w : World) (r : LinkRecord) → link_at number w.links ≡ Some r
    → (is_in number links ≡ true) ⊎ (is_open r ≡ false) → link_at number (closes_all links w).links ≡ Some (ends Closed r)
closed_place number [] w r there (inl out) = absurd (false≢true out)
closed_place number [] w r there (inr over) = there ∙ ap Some (sym (closed_same r over))
closed_place number (link ∷ links) w r there which =
    by_test (link.0 == number) refl which
    (λ now. closed_place number links (closes link w) (ends Closed r) now (inr (closed_over r)) ∙ ap Some (closed_twice r))
    (λ now rest. closed_place number links (closes link w) r now rest) where
      by_test : (b : Bool) → (link.0 == number) ≡ b → ((if b then true else is_in number links) ≡ true) ⊎ (is_open r ≡ false)
          → (link_at number (ended link Closed w.links) ≡ Some (ends Closed r) → link_at number (closes_all links (closes link w)).links ≡ Some (ends Closed r))
          → (link_at number (ended link Closed w.links) ≡ Some r → (is_in number links ≡ true) ⊎ (is_open r ≡ false)
          → link_at number (closes_all links (closes link w)).links ≡ Some (ends Closed r))
          → link_at number (closes_all links (closes link w)).links ≡ Some (ends Closed r)
      by_test true e which own other =
          own (rw (eqb-true link.0 number e) (at_same number (ends Closed) w.links ∙ ap (option_map (ends Closed)) there))
      by_test false e which own other = other (at_apart link.0 number (ends Closed) w.links (eqb-false link.0 number e) ∙ there) which

open_in : (number : ℕ) (book : List LinkRecord) (r : LinkRecord) → link_at number book ≡ Some r
    → (is_in number (open_links book) ≡ true) ⊎ (is_open r ≡ false)
open_in zero book r there = cc
open_in (suc place) book r there = by_test (is_open r) refl where
  by_test : (b : Bool) → is_open r ≡ b → (is_in (suc place) (open_links book) ≡ true) ⊎ (is_open r ≡ false)
  by_test true opens = inl (in_from is_open (suc place) 1 place book r (omega arith) there opens)
  by_test false over = inr over

-- a link at the halt is one from before it
record Was (number : ℕ) (before : World) (later : LinkRecord) : Type 0 where
  r : LinkRecord
  there : link_at number before.links ≡ Some r
  is : ends Closed r ≡ later

was_before : (number : ℕ) (before : World) (later : LinkRecord) → link_at number (closes_links before).links ≡ Some later → Was number before later
was_before number before later at = by_place (link_at number before.links) refl where
  some_same : (x y : LinkRecord) → Some x ≡ Some y → x ≡ y
  some_same x y is = cc

  by_place : (o : Option LinkRecord) → link_at number before.links ≡ o → Was number before later
  by_place None there = absurd (none_some (sym (no_place number (open_links before.links) before there) ∙ at)) where
    none_some : None ≡ Some later → ⊥
    none_some is = cc
  by_place (Some r) there = record {
    r = r;
    there = there;
    is = some_same (ends Closed r) later
        (sym (closed_place number (open_links before.links) before r there (open_in number before.links r there)) ∙ at);
  }

-- ---- no request comes of no bytes

no_text : (guard : Guard) (text rest : List ℕ) (ask : Request) → [] ≡ text ++ rest → IsAsk guard text ask → ⊥
no_text guard [] rest ask is its = by_parts its.dropped its.head its.text_is its.begun where
  by_head : (head : List ℕ) (more : List ℕ) → [] ≡ head ++ more → is_begun head ≡ true → ⊥
  by_head [] more is begun = false≢true begun
  by_head (byte ∷ head) more is begun = cc

  by_parts : (dropped head : List ℕ) → [] ≡ dropped ++ head ++ its.body → is_begun head ≡ true → ⊥
  by_parts [] head is begun = by_head head its.body is begun
  by_parts (byte ∷ dropped) head is begun = cc
no_text guard (byte ∷ text) rest ask is its = cc

none_asked : (guard : Guard) → asks_of guard [] ≡ []
none_asked guard = by_asks (asks_of guard []) (asks_are guard []) where
  by_asks : (asks : List Request) → AreAsks guard [] asks → asks ≡ []
  by_asks [] are = refl
  by_asks (Call body close ∷ asks) are = absurd (no_text guard are.0 are.1 (Call body close) are.2 are.3)
  by_asks (Bad refusal ∷ asks) are = absurd (no_text guard are.0 are.1 (Bad refusal) are.2 are.3)

-- ---- at a halt

told_count : (told : ℕ) (r : LinkRecord) → r.in_hand ≡ false → told + in_hand_of r ≡ r.begun → told ≡ r.begun
told_count told r free begun =
    let none : in_hand_of r ≡ 0 = ap (λ (b : Bool). if b then 1 else 0) free in
    omega (arith, begun, none)

-- the replies on a link that was closed at last are as many as its requests
count_all : (number : ℕ) (entries : List LinkEntry) (r later : LinkRecord) → all_may is_usual entries ≡ true
    → link_at number (links_after (deeds_of entries)) ≡ Some r → ends Closed r ≡ later
    → (is_open r ≡ true → r.in_hand ≡ false → length (asks r) ≤ r.begun + 0) → later.ending ≡ Some Closed → later.in_hand ≡ false
    → closes_last (replies_on number (deeds_of entries)) ≡ false → length (replies_on number (deeds_of entries)) ≡ length (asks later)
count_all number entries r later usual there same few closed free last = by_open (is_open r) refl same where
  told : List LinkReply
  told = replies_on number (deeds_of entries)

  its : Account (replies_on number (deeds_of entries)) r
  its = rw there at (account number (deeds_of entries))

  by_open : (b : Bool) → is_open r ≡ b → (if b then record r { ending = Some Closed } else r) ≡ later
      → length (replies_on number (deeds_of entries)) ≡ length (asks later)
  by_open true opens is =
      let unasked : r.in_hand ≡ false = ap (λ (x : LinkRecord). x.in_hand) is ∙ free in
      let size : length (asks r) ≡ length (asks later) = ap (λ (x : LinkRecord). length (asks x)) is in
      let count = told_count (length (replies_on number (deeds_of entries))) r unasked (its.begun opens) in
      let most = its.fits in
      let least = few opens unasked in
      omega (arith, size, count, most, least)
  by_open false over is =
      let nothing = closed_so number entries r usual there (ap (λ (x : LinkRecord). x.ending) is ∙ closed) last in
      let none : asks r ≡ [] = ap (asks_of r.guard) nothing ∙ none_asked r.guard in
      let size : length (asks r) ≡ 0 = ap length none in
      let one : length (asks r) ≡ length (asks later) = ap (λ (x : LinkRecord). length (asks x)) is in
      let most = its.fits in
      omega (arith, size, one, most)

module _ (config : Config) (sizes : List (List ℕ × ℕ)) (host : Host) where
  -- the daemon halted so
  halted_so : (number : ℕ) (w : World) → IsOver (now (opening config sizes host)) w → (m : Model) → now m ≡ w → (given : List Order) → w.given ≡ given
      → RequestsAreAnswered number m given
  halted_so number w over m same given all =
      let before = over.before in
      let told = over.stood.told in
      let entries = told.all in
      let done = deeds_of entries in
      let sent = all_sent number entries [] in
      let are : replies_in sent ≡ replies_on number done = all_same number entries [] in
      let place : (r : LinkRecord) → link_at number before.links ≡ Some r → link_at number (links_after done) ≡ Some r =
      λ r there. ap (link_at number) (sym told.links) ∙ there in
      let last : (r : LinkRecord) → link_at number (now m).links ≡ Some r → Was number before r =
      λ r there. was_before number before r (ap (λ (v : World). link_at number v.links) (sym (same ∙ over.is)) ∙ there) in
      let bytes : sent_on number before.given ≡ bytes_in sent =
      sym (sent_to_links number before.given) ∙ ap (sent_on number) (ap (filter is_to_link) told.added ∙ told.told) ∙ all_bytes number [] [] entries refl in
      record {
        replies = sent;
        sent = ap (sent_on number) (sym all ∙ ap (λ (v : World). v.given) over.is)
            ∙ sent_both number (closes_links before).given (order.Halt ∷ [])
            ∙ append-nil (sent_on number (closes_links before).given)
            ∙ sent_closing number (open_links before.links) before
            ∙ bytes;
        in_order = λ r there.
            let was = last r there in
            subst (λ (x : LinkRecord). AreInOrder (replies_in sent) x) was.is
            (subst (λ (replies : List LinkReply). AreInOrder replies (ends Closed was.r)) (sym are)
            (rw (closed_asks was.r) (in_order done number was.r (place was.r was.there))));
        over = λ r there. let was = last r there in subst (λ (x : LinkRecord). is_open x ≡ false) was.is (closed_over was.r);
        all = λ r there closed free ending.
            let was = last r there in
            sym (length-map sent (λ (one : SentReply). one.reply))
            ∙ ap length are
            ∙ count_all number entries was.r r told.allowed (place was.r was.there) was.is
            (λ opens unasked. over.begun number was.r was.there opens unasked) closed free
            (subst (λ (replies : List LinkReply). closes_last replies ≡ false) are ending);
      }

  pub answered_at_halt : (inputs : List Input) (number : ℕ)
      → (now (after (opening config sizes host) inputs)).course.halted ≡ true
      → RequestsAreAnswered number (after (opening config sizes host) inputs) (deeds (opening config sizes host) inputs)
  answered_at_halt inputs number halted =
      let m = opening config sizes host in
      let start : Stands (now m) (now m) = record { told = tells.same is_usual (now m); running = refl } in
      let good = good_after (now m) m inputs (inl start) in
      let over = over_in (now m) (hand (after m inputs)) good halted in
      halted_so number (now (after m inputs)) over (after m inputs) refl (deeds m inputs) (all_given config sizes host inputs)
