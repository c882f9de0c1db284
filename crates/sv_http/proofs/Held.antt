-- How many bytes of a stream are not decided is what its reader keeps or counts.
use Rattle.std.proofs.Common.{◌≡◌, ◌≤◌, ◌<◌, ◌+◌, ◌&&◌, ◌⊎◌, inl, inr, ℕ, suc, List, [], ◌∷◌, ◌++◌, Bool, true, false, length, drop, cond, refl, sym, ap, ◌∙◌, subst, arith, append-nil, length-append, min, nat_lt, if◌then◌else◌}
use Rattle.std.specs.Prelude.{map, not, codes}
use Rattle.std.specs.List.{list_all, prefix_len}
use Rattle.std.specs.Str.{bytes_eq}
use Rattle.std.proofs.lemmas.Bool.{and_parts}
use Rattle.std.proofs.lemmas.Bool.Decides.{nat_tests}
use Rattle.httparse.specs.Grammar.{RequestHead}
use Rattle.httparse.specs.Spans.{name_and_value}
use Rattle.sv_http.proofs.Advances.{settled, no_head, none_in_head, none_in_body}
use Rattle.sv_http.proofs.AskReading.{asks_are}
use Rattle.sv_http.proofs.Streams.{asks_unique, begun_front, never_takes, size_of}
use Rattle.sv_http.specs.Authorization.{Field, is_let_in}
use Rattle.sv_http.specs.AskTable.{Judged, ruled, sized, values_of, has_field, closes, is_target, is_length, body_limit}
use Rattle.sv_base.specs.SizeText.{number_of}
use Rattle.sv_http.specs.AsksOf.{asks_of}
use Rattle.sv_http.specs.ReaderPlaces.{Stands, GoesOn, IsOver, counted}
use Rattle.sv_http.specs.RequestStream.{AreAsks, BeginsNoAsk, ends_line, is_begun, head_limit}
use Rattle.sv_http.specs.Undecided.{behind_asks, held_of}
use Rattle.sv_http.specs.declared.ask.Ask.{Ask}
use Rattle.sv_http.specs.declared.guard.Guard.{Guard}
use Rattle.sv_http.specs.declared.head.Ruling.{Ruling}
use Rattle.sv_http.specs.declared.head.Ruling.TheVariants.{Refused, Takes}
use Rattle.sv_http.specs.declared.reader.StreamProgress.{StreamProgress}
use Rattle.sv_http.specs.declared.reader.StreamProgress.TheVariants as place
use Rattle.sv_http.specs.declared.status.Refusal.{Refusal}
use Rattle.sv_http.specs.declared.status.Refusal.TheVariants.{BadRequest, Unauthorized, NotFound, MethodNotAllowed, LengthRequired, ContentTooLarge}

-- a body that is taken is within its limit

never_refused : (size : ℕ) (close : Bool) (refusal : Refusal) → Refused refusal ≡ Takes size close → ⊥
never_refused size close refusal same = never_takes size close refusal (sym same)

sized_most : (values : List (List ℕ)) (closing close : Bool) (size : ℕ) → sized values closing ≡ Takes size close → size ≤ body_limit
sized_most [] closing close size e = absurd (never_refused size close LengthRequired e)
sized_most (value ∷ []) closing close size e = by_tests (is_length value) (nat_lt body_limit (number_of 0 value)) refl e
  where
    by_tests : (valid large : Bool) → nat_lt body_limit (number_of 0 value) ≡ large
        → (if not valid then Refused BadRequest else if large then Refused ContentTooLarge else Takes (number_of 0 value) closing) ≡ Takes size close
        → size ≤ body_limit
    by_tests false large is e = absurd (never_refused size close BadRequest e)
    by_tests true true is e = absurd (never_refused size close ContentTooLarge e)
    by_tests true false is e = let within : number_of 0 value ≤ body_limit = grind (arith, nat_tests) in omega (arith, ap size_of e, within)
sized_most (value ∷ other ∷ more) closing close size e = absurd (never_refused size close BadRequest e)

ruled_most : (guard : Guard) (request : RequestHead) (close : Bool) (size : ℕ) → ruled guard request ≡ Takes size close → size ≤ body_limit
ruled_most guard request close size e =
    let fields : List Field = map name_and_value request.fields in
    by_tests fields (is_let_in guard fields) (is_target request.target) (bytes_eq request.method (codes "POST"))
    (has_field (codes "Transfer-Encoding") fields) e
  where
    by_tests : (fields : List Field) (let_in known posted coded : Bool)
        → (if not let_in then Refused Unauthorized
        else if not known then Refused NotFound
        else if not posted then Refused MethodNotAllowed
        else if coded then Refused LengthRequired
        else sized (values_of (codes "Content-Length") fields) (closes request.minor fields)) ≡ Takes size close → size ≤ body_limit
    by_tests fields false known posted coded e = absurd (never_refused size close Unauthorized e)
    by_tests fields true false posted coded e = absurd (never_refused size close NotFound e)
    by_tests fields true true false coded e = absurd (never_refused size close MethodNotAllowed e)
    by_tests fields true true true true e = absurd (never_refused size close LengthRequired e)
    by_tests fields true true true false e = sized_most (values_of (codes "Content-Length") fields) (closes request.minor fields) close size e

judged_most : (guard : Guard) (head : List ℕ) (close : Bool) (size : ℕ) → Judged guard head (Takes size close) → size ≤ body_limit
judged_most guard head close size (inl judged) = ruled_most guard judged.0 close size (sym judged.2)
judged_most guard head close size (inr judged) = absurd (never_takes size close BadRequest judged.1)

-- what stands after the CR and LF that are dropped

not_ended : (ends : Bool) → (if ends then false else true) ≡ true → ends ≡ false
not_ended true begun = absurd cc
not_ended false begun = refl

stripped_is : (dropped kept : List ℕ) → list_all ends_line dropped ≡ true → (kept ≡ []) ⊎ (is_begun kept ≡ true)
    → drop (prefix_len ends_line (dropped ++ kept)) (dropped ++ kept) ≡ kept
stripped_is [] [] all begun = refl
stripped_is [] (a ∷ kept) all (inl empty) = absurd cc
stripped_is [] (a ∷ kept) all (inr begun) =
    ap (λ (ends : Bool). drop (cond ends (1 + prefix_len ends_line kept) 0) (a ∷ kept)) (not_ended (ends_line a) begun)
stripped_is (a ∷ dropped) kept all begun =
    let parts = and_parts (ends_line a) (list_all ends_line dropped) all in
    let count = prefix_len ends_line (dropped ++ kept) in
    let one_more : 1 + count ≡ suc count = omega arith in
    ap (λ (ends : Bool). drop (cond ends (1 + count) 0) (a ∷ dropped ++ kept)) parts.0
    ∙ ap (λ (most : ℕ). drop most (a ∷ dropped ++ kept)) one_more ∙ stripped_is dropped kept parts.1 begun

stripped_size : (rest dropped kept : List ℕ) → rest ≡ dropped ++ kept → list_all ends_line dropped ≡ true → (kept ≡ []) ⊎ (is_begun kept ≡ true)
    → length (drop (prefix_len ends_line rest) rest) ≡ length kept
stripped_size rest dropped kept is all begun =
    ap (λ (bytes : List ℕ). length (drop (prefix_len ends_line bytes) bytes)) is ∙ ap length (stripped_is dropped kept all begun)

-- what follows the asks of a stream

asked_behind : (guard : Guard) (stream : List ℕ) (asks : List Ask) → AreAsks guard stream asks → behind_asks guard (asks_of guard stream) stream ≡ behind_asks guard asks stream
asked_behind guard stream asks are =
    ap (λ (all : List Ask). behind_asks guard all stream) (asks_unique guard stream (asks_of guard stream) asks (asks_are guard stream) are)

kept_size : (guard : Guard) (kept stream : List ℕ) (asks : List Ask) → GoesOn guard kept stream asks → BeginsNoAsk guard kept
    → (kept ≡ []) ⊎ (is_begun kept ≡ true) → held_of guard stream ≡ length kept
unfolding held_of
kept_size guard kept stream asks goes none begun =
    let left : behind_asks guard asks stream ≡ goes.dropped ++ kept
    = ap (behind_asks guard asks) (sym (append-nil stream)) ∙ goes.left [] ∙ ap (λ (back : List ℕ). goes.dropped ++ back) (append-nil kept) in
    stripped_size (behind_asks guard (asks_of guard stream) stream) goes.dropped kept
    (asked_behind guard stream asks (settled guard kept stream asks goes none) ∙ left) goes.dropped_is begun

over_size : (guard : Guard) (stream : List ℕ) (asks : List Ask) → IsOver guard stream asks → held_of guard stream ≡ 0
unfolding held_of
over_size guard stream asks over =
    let are = subst (λ (all : List ℕ). AreAsks guard all asks) (append-nil stream) (over.asked []) in
    stripped_size (behind_asks guard (asks_of guard stream) stream) [] []
    (asked_behind guard stream asks are ∙ ap (behind_asks guard asks) (sym (append-nil stream)) ∙ over.left []) refl (inl refl)

-- what a reader keeps or counts is what is undecided
pub counted_is : (guard : Guard) (at : StreamProgress) (head body stream : List ℕ) (asks : List Ask) → Stands guard at head body stream asks
    → counted at head body ≡ held_of guard stream
counted_is guard (place.Head at) head body stream asks stands =
    let none = none_in_head guard head (no_head head at stands.0) stands.2 stands.1 in
    let small : length head < head_limit = stands.2 in
    omega (arith, small, kept_size guard head stream asks stands.4 none stands.1)
counted_is guard (place.Body size close) head body stream asks stands =
    let whole : List ℕ = stands.0 in
    let none = none_in_body guard whole body size.body close stands.1 stands.2 stands.3 stands.4 in
    let fits : length whole ≤ head_limit = stands.2.1 in
    let short : length body < size.body = stands.4 in
    let same : size.head ≡ length whole = stands.7 in
    omega (
      arith,
      fits,
      short,
      same,
      judged_most guard whole close size.body stands.3,
      length-append whole body,
      kept_size guard (whole ++ body) stream asks stands.6 none (inr (begun_front whole body stands.1)),
    )
counted_is guard place.Over head body stream asks stands = sym (over_size guard stream asks stands)
counted_is guard place.Broken head body stream asks stands = absurd stands
