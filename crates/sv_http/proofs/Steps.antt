-- The steps of a reader.
use Rattle.std.proofs.Common.{◌≡◌, ◌≤◌, ◌<◌, ◌+◌, ◌-◌, ◌==◌, ◌⊎◌, inl, inr, ℕ, List, [], ◌∷◌, ◌++◌, length, take, drop, Option, None, Some, Bool, true, false, suc, refl, sym, ap, ◌∙◌, subst, arith, append_assoc, append-nil, length-append, max, nat_lt, MatchOption, cond, ◌&&◌}
use Rattle.std.specs.List.{list_all, prefix_len}
use Rattle.std.proofs.lemmas.List.{take-append-drop, take_all, length-drop, length-take, take-take}
use Rattle.std.proofs.lemmas.Bool.Decides.{nat_tests}
use Rattle.sv_http.proofs.Heads.{by_test, eq_true, unshifted}
use Rattle.sv_http.proofs.Advances.{call_is, no_head, too_large, bad_head}
use Rattle.sv_http.proofs.GoingOn.{goes_more, goes_call, goes_over, goes_dropped}
use Rattle.sv_http.specs.AskTable.{Judged}
use Rattle.sv_http.specs.ReaderPlaces.{Stands, GoesOn, IsOver, IsSearched, IsFound, ReaderState, Advances, reads, refused, called, after_ruling, EndsHead, goes_on}
use Rattle.sv_http.specs.RequestStream.{AreAsks, IsAsk, ends_line, is_begun, IsHead, IsTooLong, head_limit, head_length}
use Rattle.sv_http.specs.declared.ask.Ask.{Ask}
use Rattle.sv_http.specs.declared.ask.Ask.TheVariants.{Call, Bad}
use Rattle.sv_http.specs.declared.guard.Guard.{Guard}
use Rattle.sv_http.specs.declared.head.Ruling.{Ruling}
use Rattle.sv_http.specs.declared.head.Ruling.TheVariants.{Refused, Takes}
use Rattle.sv_http.specs.declared.line.Line.{Line}
use Rattle.sv_http.specs.declared.line.Line.TheVariants as line
use Rattle.sv_http.specs.Undecided.{behind_asks}
use Rattle.sv_http.specs.declared.reader.StreamProgress.{StreamProgress}
use Rattle.sv_http.specs.declared.reader.Size.{Size}
use Rattle.sv_http.specs.declared.reader.StreamProgress.TheVariants as place
use Rattle.sv_http.specs.declared.status.Refusal.{Refusal}
use Rattle.sv_http.specs.declared.status.Refusal.TheVariants.{HeadTooLarge}

pub advances_none : (guard : Guard) (from : ReaderState) → Advances guard from [] from
advances_none guard from = λ stream earlier stands.
    subst (λ (all : List ℕ). Stands guard from.place from.head from.body all (earlier ++ from.asks)) (sym (append-nil stream)) stands

pub advances_more : (guard : Guard) (from between to : ReaderState) (front more : List ℕ) → Advances guard from front between → Advances guard between more to
    → Advances guard from (front ++ more) to
advances_more guard from between to front more one other = λ stream earlier stands.
    subst (λ (all : List ℕ). Stands guard to.place to.head to.body all (earlier ++ to.asks)) (append_assoc stream front more)
    (other (stream ++ front) earlier (one stream earlier stands))

-- CR and LF before a head
pub dropped_advances : (guard : Guard) (at : Line) (head body front : List ℕ) (asks : List Ask) → head ≡ [] → list_all ends_line front ≡ true
    → Advances guard (reads (place.Head at) head body asks) front (reads (place.Head at) head body asks)
dropped_advances guard at head body front asks empty all = λ stream earlier stands. (
  stands.0,
  stands.1,
  stands.2,
  stands.3,
  subst (λ (kept : List ℕ). GoesOn guard kept (stream ++ front) (earlier ++ asks)) (sym empty)
      (goes_dropped guard front stream (earlier ++ asks) all (subst (λ (kept : List ℕ). GoesOn guard kept stream (earlier ++ asks)) empty stands.4)),
)

begins_head : (head front : List ℕ) → (head ≡ []) ⊎ (is_begun head ≡ true) → (head ≡ [] → is_begun front ≡ true) → is_begun (head ++ front) ≡ true
begins_head [] front begun starts = starts refl
begins_head (a ∷ head) front (inl empty) starts = absurd cc
begins_head (a ∷ head) front (inr begun) starts = begun

-- a head that goes on
pub head_advances : (guard : Guard) (at to : Line) (head body front : List ℕ) (asks : List Ask) → (head ≡ [] → is_begun front ≡ true)
    → ((earlier : List ℕ) → IsSearched earlier at → IsSearched (earlier ++ front) to) → length (head ++ front) < head_limit
    → Advances guard (reads (place.Head at) head body asks) front (reads (place.Head to) (head ++ front) body asks)
head_advances guard at to head body front asks starts searched small = λ stream earlier stands. (
  searched head stands.0,
  inr (begins_head head front stands.1 starts),
  small,
  stands.3,
  goes_more guard head front stream (earlier ++ asks) stands.4,
)

-- what is refused ends the stream
refused_stands : (guard : Guard) (kept head body stream : List ℕ) (refusal : Refusal) (earlier asks : List Ask) → GoesOn guard kept stream (earlier ++ asks)
    → IsAsk guard kept (Bad refusal) → Stands guard place.Over head body stream (earlier ++ (asks ++ Bad refusal ∷ []))
refused_stands guard kept head body stream refusal earlier asks goes is =
    subst (λ (all : List Ask). IsOver guard stream all) (append_assoc earlier asks (Bad refusal ∷ []))
    (goes_over guard kept stream refusal (earlier ++ asks) goes is)

-- a head that is too long
pub too_large_advances : (guard : Guard) (at to : Line) (head body front : List ℕ) (asks : List Ask) → (head ≡ [] → is_begun front ≡ true)
    → ((earlier : List ℕ) → IsSearched earlier at → IsSearched (earlier ++ front) to)
    → head_limit ≤ length (head ++ front) → length front ≤ max (head_limit - length head) 1
    → Advances guard (reads (place.Head at) head body asks) front (refused HeadTooLarge body asks)
too_large_advances guard at to head body front asks starts searched large room = λ stream earlier stands.
    let small = stands.2 in
    let exact : length (head ++ front) ≡ head_limit = omega (arith, large, room, small, length-append head front) in
    refused_stands guard (head ++ front) (head ++ front) body (stream ++ front) HeadTooLarge earlier asks
    (goes_more guard head front stream (earlier ++ asks) stands.4)
    (too_large guard (head ++ front) (begins_head head front stands.1 starts) (no_head (head ++ front) to (searched head stands.0), exact))

nothing_searched : IsSearched [] line.Text
nothing_searched = ([], refl, λ more. unshifted (head_length more))

-- a call that is whole
called_stands : (guard : Guard) (kept head body stream : List ℕ) (close : Bool) (earlier asks : List Ask) → head ≡ [] → GoesOn guard kept stream (earlier ++ asks)
    → IsAsk guard kept (Call body close) → Stands guard (place.Head line.Text) head [] stream (earlier ++ (asks ++ Call body close ∷ []))
called_stands guard kept head body stream close earlier asks empty goes is =
    subst (λ (all : List ℕ). Stands guard (place.Head line.Text) all [] stream (earlier ++ (asks ++ Call body close ∷ []))) (sym empty) (
      nothing_searched,
      inl refl,
      omega arith,
      refl,
      subst (λ (all : List Ask). GoesOn guard [] stream all) (append_assoc earlier asks (Call body close ∷ []))
          (goes_call guard kept body stream close (earlier ++ asks) goes is),
    )

some_bytes : (size : ℕ) → (size == 0) ≡ false → 0 < size
some_bytes size some = grind (arith, nat_tests)

ruled_stands : (guard : Guard) (judged : Ruling) (head body stream : List ℕ) (earlier asks : List Ask) → is_begun head ≡ true → IsHead head
    → Judged guard head judged → GoesOn guard head stream (earlier ++ asks)
    → Stands guard (after_ruling judged head body asks).place (after_ruling judged head body asks).head (after_ruling judged head body asks).body stream
    (earlier ++ (after_ruling judged head body asks).asks)
ruled_stands guard (Refused refusal) head body stream earlier asks begun is judged goes =
    refused_stands guard head head body stream refusal earlier asks goes (bad_head guard head refusal begun is judged)
ruled_stands guard (Takes size close) head body stream earlier asks begun is judged goes =
    by_test (λ (to : ReaderState). Stands guard to.place to.head to.body stream (earlier ++ to.asks)) (size == 0)
    (called close [] [] asks) (reads (place.Body (record { head = length head; body = size }) close) [] [] asks)
    (λ none. let zero = eq_true size 0 none in
    called_stands guard head [] [] stream close earlier asks refl goes
    (subst (λ (text : List ℕ). IsAsk guard text (Call [] close)) (append-nil head) (call_is guard head [] size close begun is judged (sym zero))))
    (λ some. (
      head,
      begun,
      is,
      judged,
      some_bytes size some,
      refl,
      subst (λ (kept : List ℕ). GoesOn guard kept stream (earlier ++ asks)) (sym (append-nil head)) goes,
      refl,
    ))

-- a whole head
pub whole_advances : (guard : Guard) (at : Line) (head body front : List ℕ) (asks : List Ask) (to : ReaderState) → (head ≡ [] → is_begun front ≡ true)
    → ((earlier : List ℕ) → IsSearched earlier at → IsFound (earlier ++ front)) → length front ≤ max (head_limit - length head) 1
    → EndsHead guard (head ++ front) body asks to → Advances guard (reads (place.Head at) head body asks) front to
whole_advances guard at head body front asks to starts found room ends = λ stream earlier stands.
    let small = stands.2 in
    let whole = found head stands.0 in
    let fits : length (head ++ front) ≤ head_limit = omega (arith, room, small, length-append head front) in
    subst (λ (end : ReaderState). Stands guard end.place end.head end.body (stream ++ front) (earlier ++ end.asks)) (sym ends.2)
    (ruled_stands guard ends.0 (head ++ front) body (stream ++ front) earlier asks (begins_head head front stands.1 starts)
    (ap head_length (sym (append-nil (head ++ front))) ∙ whole [], fits) ends.1 (goes_more guard head front stream (earlier ++ asks) stands.4))

-- a body that goes on
pub body_advances : (guard : Guard) (size : Size) (close : Bool) (head body front : List ℕ) (asks : List Ask) → length (body ++ front) < size.body
    → Advances guard (reads (place.Body size close) head body asks) front (reads (place.Body size close) head (body ++ front) asks)
body_advances guard size close head body front asks short = λ stream earlier stands. (
  stands.0,
  stands.1,
  stands.2,
  stands.3,
  short,
  stands.5,
  subst (λ (kept : List ℕ). GoesOn guard kept (stream ++ front) (earlier ++ asks)) (append_assoc stands.0 body front)
      (goes_more guard (stands.0 ++ body) front stream (earlier ++ asks) stands.6),
  stands.7,
)

-- a whole body
pub call_advances : (guard : Guard) (size : Size) (close : Bool) (head body front : List ℕ) (asks : List Ask) → size.body ≤ length (body ++ front)
    → length front ≤ max (size.body - length body) 1
    → Advances guard (reads (place.Body size close) head body asks) front (called close head (body ++ front) asks)
call_advances guard size close head body front asks whole room = λ stream earlier stands.
    let short = stands.4 in
    let exact : length (body ++ front) ≡ size.body = omega (arith, whole, room, short, length-append body front) in
    called_stands guard (stands.0 ++ (body ++ front)) head (body ++ front) (stream ++ front) close earlier asks stands.5
    (subst (λ (kept : List ℕ). GoesOn guard kept (stream ++ front) (earlier ++ asks)) (append_assoc stands.0 body front)
    (goes_more guard (stands.0 ++ body) front stream (earlier ++ asks) stands.6))
    (call_is guard stands.0 (body ++ front) size.body close stands.1 stands.2 stands.3 exact)

-- after what was refused
pub over_advances : (guard : Guard) (head body front : List ℕ) (asks : List Ask)
    → Advances guard (reads place.Over head body asks) front (reads place.Over head body asks)
over_advances guard head body front asks = λ stream earlier stands. record {
  asked = λ more.
      subst (λ (all : List ℕ). AreAsks guard all (earlier ++ asks)) (sym (append_assoc stream front more)) (stands.asked (front ++ more));
  left = λ more. ap (behind_asks guard (earlier ++ asks)) (append_assoc stream front more) ∙ stands.left (front ++ more);
}

pub broken_advances : (guard : Guard) (head body front : List ℕ) (asks : List Ask)
    → Advances guard (reads place.Broken head body asks) front (reads place.Broken head body asks)
broken_advances guard head body front asks = λ stream earlier stands. absurd stands

-- the same steps, by what the calls answer

pub call_taken : (guard : Guard) (at : StreamProgress) (size : Size) (close : Bool) (head body longer front : List ℕ) (asks : List Ask) (to : ReaderState)
    → at ≡ place.Body size close → longer ≡ body ++ front → size.body ≤ length longer → length front ≤ max (size.body - length body) 1
    → to ≡ called close head longer asks → Advances guard (reads at head body asks) front to
call_taken guard at size close head body longer front asks to in_body is whole room call =
    subst (λ (end : ReaderState). Advances guard (reads at head body asks) front end) (sym call)
    (subst (λ (kept : List ℕ). Advances guard (reads at head body asks) front (called close head kept asks)) (sym is)
    (subst (λ (from : StreamProgress). Advances guard (reads from head body asks) front (called close head (body ++ front) asks)) (sym in_body)
    (call_advances guard size close head body front asks (subst (λ (kept : List ℕ). size.body ≤ length kept) is whole) room)))

pub searched_taken : (guard : Guard) (at : StreamProgress) (from next : Line) (head body longer front : List ℕ) (asks : List Ask) (to : ReaderState)
    → at ≡ place.Head from → longer ≡ head ++ front → (head ≡ [] → is_begun front ≡ true)
    → ((earlier : List ℕ) → IsSearched earlier from → IsSearched (earlier ++ front) next)
    → length front ≤ max (head_limit - length head) 1 → to ≡ goes_on next longer body asks → Advances guard (reads at head body asks) front to
searched_taken guard at from next head body longer front asks to in_head is starts searched room goes =
    subst (λ (end : ReaderState). Advances guard (reads at head body asks) front end) (sym goes)
    (subst (λ (kept : List ℕ). Advances guard (reads at head body asks) front (goes_on next kept body asks)) (sym is)
    (subst (λ (inside : StreamProgress). Advances guard (reads inside head body asks) front (goes_on next (head ++ front) body asks)) (sym in_head)
    (by_test (Advances guard (reads (place.Head from) head body asks) front) (nat_lt (length (head ++ front)) head_limit)
    (reads (place.Head next) (head ++ front) body asks) (refused HeadTooLarge body asks)
    (λ small. head_advances guard from next head body front asks starts searched (below small))
    (λ large. too_large_advances guard from next head body front asks starts searched (above large) room))))
  where
    below : nat_lt (length (head ++ front)) head_limit ≡ true → length (head ++ front) < head_limit
    below small = grind (arith, nat_tests)

    above : nat_lt (length (head ++ front)) head_limit ≡ false → head_limit ≤ length (head ++ front)
    above large = grind (arith, nat_tests)

pub whole_taken : (guard : Guard) (at : StreamProgress) (from : Line) (head body longer front : List ℕ) (asks : List Ask) (to : ReaderState)
    → at ≡ place.Head from → longer ≡ head ++ front → (head ≡ [] → is_begun front ≡ true)
    → ((earlier : List ℕ) → IsSearched earlier from → IsFound (earlier ++ front)) → length front ≤ max (head_limit - length head) 1
    → EndsHead guard longer body asks to → Advances guard (reads at head body asks) front to
whole_taken guard at from head body longer front asks to in_head is starts found room ends =
    subst (λ (inside : StreamProgress). Advances guard (reads inside head body asks) front to) (sym in_head)
    (whole_advances guard from head body front asks to starts found room (subst (λ (kept : List ℕ). EndsHead guard kept body asks to) is ends))

pub dropped_taken : (guard : Guard) (at : StreamProgress) (from : Line) (head body front : List ℕ) (asks : List Ask) → at ≡ place.Head from → head ≡ []
    → list_all ends_line front ≡ true → Advances guard (reads at head body asks) front (reads at head body asks)
dropped_taken guard at from head body front asks in_head empty all =
    subst (λ (inside : StreamProgress). Advances guard (reads inside head body asks) front (reads inside head body asks)) (sym in_head)
    (dropped_advances guard from head body front asks empty all)

pub when_none : {A : Type 0} (found : Option A) (P : Type 0) (Q : A → Type 0) → found ≡ None → MatchOption found P Q → P
when_none found P Q is holds = subst (λ (o : Option _). MatchOption o P Q) is holds

pub when_some : {A : Type 0} (found : Option A) (P : Type 0) (Q : A → Type 0) (value : A) → found ≡ Some value → MatchOption found P Q → Q value
when_some found P Q value is holds = subst (λ (o : Option _). MatchOption o P Q) is holds

pub no_bytes : {A : Type 0} (bytes : List A) → true ≡ (length bytes == 0) → bytes ≡ []
no_bytes [] e = refl
no_bytes (a ∷ bytes) e = absurd (omega (arith, eq_true (length (a ∷ bytes)) 0 (sym e)))

-- a further part is taken
pub part_taken : (piece taken rest : List ℕ) (count : ℕ) → piece ≡ taken ++ rest
    → piece ≡ (taken ++ take count rest) ++ take (length rest - count) (drop count rest)
part_taken piece taken rest count is =
    is ∙ ap (λ back. taken ++ back) (sym (take-append-drop count rest)) ∙ sym (append_assoc taken (take count rest) (drop count rest))
    ∙ ap (λ back. (taken ++ take count rest) ++ back) (sym (take_all (length rest - count) (drop count rest) (omega (arith, length-drop count rest))))

-- what was looked at of a prefix
pub front_taken : (count most : ℕ) (bytes : List ℕ) → count ≤ length (take most bytes) → take count (take most bytes) ≡ take count bytes
front_taken count most bytes within = take-take count most bytes (omega (arith, within, length-take most bytes))
