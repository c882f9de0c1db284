-- What stands first in a stream, and what is heard of it, when more follows.
use Rattle.std.proofs.Common.{◌≡◌, ◌<◌, ◌≤◌, ◌+◌, ◌-◌, ◌==◌, ℕ, zero, suc, List, [], ◌∷◌, ◌++◌, Bool, true, false, Option, None, Some, length, take, drop, nat_lt, nat_le, refl, ap, sym, ◌∙◌, subst, arith, append_assoc, append-nil, length-append, length-drop}
use Rattle.std.specs.Prelude.{is_some, option_map, if◌then◌else◌}
use Rattle.std.proofs.lemmas.Bool.Decides.{nat_tests}
use Rattle.std.proofs.lemmas.List.{take-append-le, drop-append-le}
use Rattle.sv_listener.proofs.Cuts.{with_front, cuts}
use Rattle.sv_listener.specs.Reading.{cut_at}
use Rattle.sv_listener.specs.Limits.{header_limit, body_limit}
use Rattle.sv_listener.specs.HeaderLine.{Header, header_of}
use Rattle.sv_listener.specs.Hearing.{Hearing, End, event_of, with_body, with_header, by_line, first_of, end_of, with_event, hears_by, hears_at, hearing_of, fault_of, is_between}
use Rattle.sv_listener.specs.Hearing.End.{Between, Faulty}
use Rattle.sv_listener.specs.Takes.{with_events, GoesOn, IsOver, Stands, Takes}
use Rattle.sv_listener.specs.declared.events.Heard.{Heard}
use Rattle.sv_listener.specs.declared.events.HeardFault.{HeardFault}
use Rattle.sv_listener.specs.declared.events.HeardFault.TheVariants.{BadHeader, TooLong}
use Rattle.sv_listener.specs.declared.first.First.{First}
use Rattle.sv_listener.specs.declared.first.First.TheVariants.{Open, Fault, Whole}
use Rattle.sv_listener.specs.declared.header.Size.{Size}
use Rattle.sv_listener.specs.declared.header.Size.TheVariants.{Bytes, Endless}

lt_true : (a b : ℕ) → nat_lt a b ≡ true → a < b
lt_true a b is = grind (arith, nat_tests)

lt_is : (a b : ℕ) → a < b → nat_lt a b ≡ true
lt_is a b less = grind (arith, nat_tests)

le_true : (a b : ℕ) → nat_le a b ≡ true → a ≤ b
le_true a b is = grind (arith, nat_tests)

le_is : (a b : ℕ) → a ≤ b → nat_le a b ≡ true
le_is a b less = grind (arith, nat_tests)

-- what is judged already stays so

abbrev IsSettled : First → Type 0
IsSettled first = first ≡ Open → ⊥

body_more : (before : ℕ) (header : Header) (size : Size) (after more : List ℕ) (first : First) → with_body before header size after ≡ first → IsSettled first
    → with_body before header size (after ++ more) ≡ first
body_more before header Endless after more first is settled = is
body_more before header (Bytes size) after more first is settled = by_long (nat_lt body_limit size) (nat_le size (length after)) refl is
  where
    by_long : (long fits : Bool) → nat_le size (length after) ≡ fits
        → (if long then Fault TooLong else if fits then Whole (event_of header (take size after)) (before + size) else Open) ≡ first
        → (if long then Fault TooLong else if nat_le size (length (after ++ more)) then Whole (event_of header (take size (after ++ more))) (before + size) else Open) ≡ first
    by_long true fits fit is = is
    by_long false false fit is = absurd (settled (sym is))
    by_long false true fit is =
        let room : size ≤ length after = le_true size (length after) fit in
        let still : nat_le size (length (after ++ more)) ≡ true = le_is size (length (after ++ more)) (omega (arith, room, length-append after more)) in
        ap (λ test. if test then Whole (event_of header (take size (after ++ more))) (before + size) else Open) still
        ∙ ap (λ body. Whole (event_of header body) (before + size)) (take-append-le size after more room) ∙ is

header_more : (before : ℕ) (header : Option Header) (after more : List ℕ) (first : First) → with_header before header after ≡ first → IsSettled first
    → with_header before header (after ++ more) ≡ first
header_more before None after more first is settled = is
header_more before (Some header) after more first is settled = body_more before header header.size after more first is settled

-- one byte before a cut
abbrev onto : ℕ → Option (List ℕ × List ℕ) → Option (List ℕ × List ℕ)
onto byte cut = option_map (λ parts. (byte ∷ parts.0, parts.1)) cut

onto_front : (byte : ℕ) (bytes : List ℕ) (cut : Option (List ℕ × List ℕ)) → onto byte (with_front bytes cut) ≡ with_front (byte ∷ bytes) cut
onto_front byte bytes None = refl
onto_front byte bytes (Some parts) = refl

front_none : (cut : Option (List ℕ × List ℕ)) → cut ≡ with_front [] cut
front_none None = refl
front_none (Some parts) = refl

onto_none : (byte : ℕ) (bytes : List ℕ) (cut other more : Option (List ℕ × List ℕ)) → (cut ≡ None → other ≡ with_front bytes more) → onto byte cut ≡ None
    → onto byte other ≡ with_front (byte ∷ bytes) more
onto_none byte bytes (Some parts) other more further is = absurd (cc)
onto_none byte bytes None other more further is = ap (λ cut. onto byte cut) (further refl) ∙ onto_front byte bytes more

test_none : (test : Bool) (byte : ℕ) (bytes longer : List ℕ) (cut other more : Option (List ℕ × List ℕ)) → (cut ≡ None → other ≡ with_front bytes more)
    → (if test then Some ([], bytes) else onto byte cut) ≡ None → (if test then Some ([], longer) else onto byte other) ≡ with_front (byte ∷ bytes) more
test_none true byte bytes longer cut other more further is = absurd (cc)
test_none false byte bytes longer cut other more further is = onto_none byte bytes cut other more further is

-- bytes without a line feed stay before it
none_front : (stop : ℕ) (bytes more : List ℕ) → cut_at stop bytes ≡ None → cut_at stop (bytes ++ more) ≡ with_front bytes (cut_at stop more)
none_front stop [] more none = front_none (cut_at stop more)
none_front stop (byte ∷ bytes) more none =
    test_none (byte == stop) byte bytes (bytes ++ more) (cut_at stop bytes) (cut_at stop (bytes ++ more)) (cut_at stop more)
    (λ n. none_front stop bytes more n) none

open_more : (bytes more : List ℕ) (cut : Option (List ℕ × List ℕ)) (first : First) → by_line bytes None ≡ first → IsSettled first
    → by_line (bytes ++ more) (with_front bytes cut) ≡ first
open_more bytes more cut first is settled = by_long (nat_lt header_limit (length bytes)) refl cut is
  where
    by_long : (long : Bool) → nat_lt header_limit (length bytes) ≡ long → (cut : Option (List ℕ × List ℕ)) → (if long then Fault BadHeader else Open) ≡ first
        → by_line (bytes ++ more) (with_front bytes cut) ≡ first
    by_long false over cut is = absurd (settled (sym is))
    by_long true over None is =
        let many : header_limit < length bytes = lt_true header_limit (length bytes) over in
        let still : nat_lt header_limit (length (bytes ++ more)) ≡ true
        = lt_is header_limit (length (bytes ++ more)) (omega (arith, many, length-append bytes more)) in
        ap (λ test. if test then Fault BadHeader else Open) still ∙ is
    by_long true over (Some parts) is =
        let many : header_limit < length bytes = lt_true header_limit (length bytes) over in
        let still : nat_lt header_limit (length (bytes ++ parts.0)) ≡ true
        = lt_is header_limit (length (bytes ++ parts.0)) (omega (arith, many, length-append bytes parts.0)) in
        ap (λ test. if test then Fault BadHeader else with_header (length (bytes ++ parts.0) + 1) (header_of (bytes ++ parts.0)) parts.1) still ∙ is

line_more : (bytes all line after more : List ℕ) (first : First) → by_line bytes (Some (line, after)) ≡ first → IsSettled first
    → by_line all (Some (line, after ++ more)) ≡ first
line_more bytes all line after more first is settled = by_long (nat_lt header_limit (length line)) is
  where
    by_long : (long : Bool) → (if long then Fault BadHeader else with_header (length line + 1) (header_of line) after) ≡ first
        → (if long then Fault BadHeader else with_header (length line + 1) (header_of line) (after ++ more)) ≡ first
    by_long true is = is
    by_long false is = header_more (length line + 1) (header_of line) after more first is settled

pub first_more : (bytes more : List ℕ) (first : First) → first_of bytes ≡ first → (first ≡ Open → ⊥) → first_of (bytes ++ more) ≡ first
unfolding first_of
first_more bytes more first is settled = by_cut (cut_at 10 bytes) refl is
  where
    by_cut : (cut : Option (List ℕ × List ℕ)) → cut_at 10 bytes ≡ cut → by_line bytes cut ≡ first → by_line (bytes ++ more) (cut_at 10 (bytes ++ more)) ≡ first
    by_cut None is_cut is = ap (λ c. by_line (bytes ++ more) c) (none_front 10 bytes more is_cut) ∙ open_more bytes more (cut_at 10 more) first is settled
    by_cut (Some parts) is_cut is =
        ap (λ c. by_line (bytes ++ more) c) ((cuts 10 bytes parts.0 parts.1 is_cut).again more)
        ∙ line_more bytes (bytes ++ more) parts.0 parts.1 more first is settled

-- an event has some bytes, and no more than there are

body_within : (before : ℕ) (header : Header) (size : Size) (after : List ℕ) (event : Heard) (count : ℕ) → with_body before header size after ≡ Whole event count
    → (before ≤ count) × (count ≤ before + length after)
body_within before header Endless after event count is = absurd (cc)
body_within before header (Bytes size) after event count is = by_long (nat_lt body_limit size) (nat_le size (length after)) refl is
  where
    by_long : (long fits : Bool) → nat_le size (length after) ≡ fits
        → (if long then Fault TooLong else if fits then Whole (event_of header (take size after)) (before + size) else Open) ≡ Whole event count
        → (before ≤ count) × (count ≤ before + length after)
    by_long true fits fit is = absurd (cc)
    by_long false false fit is = absurd (cc)
    by_long false true fit is =
        let same : before + size ≡ count = cc in
        let room : size ≤ length after = le_true size (length after) fit in
        (omega (arith, same), omega (arith, same, room))

header_within : (before : ℕ) (header : Option Header) (after : List ℕ) (event : Heard) (count : ℕ) → with_header before header after ≡ Whole event count
    → (before ≤ count) × (count ≤ before + length after)
header_within before None after event count is = absurd (cc)
header_within before (Some header) after event count is = body_within before header header.size after event count is

pub first_within : (bytes : List ℕ) (event : Heard) (count : ℕ) → first_of bytes ≡ Whole event count → (1 ≤ count) × (count ≤ length bytes)
unfolding first_of
first_within bytes event count is = by_cut (cut_at 10 bytes) refl is
  where
    by_long : (long : Bool) (line after : List ℕ) → bytes ≡ line ++ 10 ∷ after
        → (if long then Fault BadHeader else with_header (length line + 1) (header_of line) after) ≡ Whole event count → (1 ≤ count) × (count ≤ length bytes)
    by_long true line after parts is = absurd (cc)
    by_long false line after parts is =
        let within = header_within (length line + 1) (header_of line) after event count is in
        (omega (arith, within.0), omega (arith, within.1, ap length parts, length-append line (10 ∷ after)))

    by_none : (long : Bool) → (if long then Fault BadHeader else Open) ≡ Whole event count → (1 ≤ count) × (count ≤ length bytes)
    by_none true is = absurd (cc)
    by_none false is = absurd (cc)

    by_cut : (cut : Option (List ℕ × List ℕ)) → cut_at 10 bytes ≡ cut → by_line bytes cut ≡ Whole event count → (1 ≤ count) × (count ≤ length bytes)
    by_cut None is_cut is = by_none (nat_lt header_limit (length bytes)) is
    by_cut (Some parts) is_cut is =
        by_long (nat_lt header_limit (length parts.0)) parts.0 parts.1 (cuts 10 bytes parts.0 parts.1 is_cut).parts is

pub nothing_first : first_of [] ≡ Open
unfolding first_of
nothing_first = refl

-- what is heard

no_bytes : (bytes : List ℕ) → length bytes ≤ 0 → bytes ≡ []
no_bytes [] none = refl
no_bytes (byte ∷ bytes) none = absurd (omega (arith, none))

hears_nothing : (further : List ℕ → Hearing) (bytes : List ℕ) → bytes ≡ [] → hears_by further bytes (first_of bytes) ≡ record { events = []; end = Between }
hears_nothing further bytes none =
    ap (λ b. hears_by further b (first_of b)) none ∙ ap (λ first. hears_by further [] first) nothing_first

pub fuel_same : (most other : ℕ) (bytes : List ℕ) → length bytes ≤ most → length bytes ≤ other → hears_at most bytes ≡ hears_at other bytes
fuel_same zero zero bytes few also = refl
fuel_same zero (suc other) bytes few also = sym (hears_nothing (hears_at other) bytes (no_bytes bytes few))
fuel_same (suc most) zero bytes few also = hears_nothing (hears_at most) bytes (no_bytes bytes also)
fuel_same (suc most) (suc other) bytes few also =
    by_first (first_of bytes) refl (λ rest few' also'. fuel_same most other rest few' also')
  where
    by_first : (first : First) → first_of bytes ≡ first
        → ((rest : List ℕ) → length rest ≤ most → length rest ≤ other → hears_at most rest ≡ hears_at other rest)
        → hears_by (hears_at most) bytes first ≡ hears_by (hears_at other) bytes first
    by_first Open is further = refl
    by_first (Fault fault) is further = refl
    by_first (Whole event count) is further =
        let within = first_within bytes event count is in
        let shorter : length (drop count bytes) ≡ length bytes - count = length-drop count bytes in
        ap (λ h. with_event event h)
        (further (drop count bytes) (omega (arith, shorter, within.0, within.1, few)) (omega (arith, shorter, within.0, within.1, also)))

pub hears_is : (bytes : List ℕ) → hearing_of bytes ≡ hears_by hearing_of bytes (first_of bytes)
unfolding hearing_of
hears_is bytes =
    fuel_same (length bytes) (suc (length bytes)) bytes (omega arith) (omega arith) ∙ by_first (first_of bytes) refl
  where
    by_first : (first : First) → first_of bytes ≡ first
        → hears_by (hears_at (length bytes)) bytes first ≡ hears_by (λ stream. hears_at (length stream) stream) bytes first
    by_first Open is = refl
    by_first (Fault fault) is = refl
    by_first (Whole event count) is =
        let shorter : length (drop count bytes) ≡ length bytes - count = length-drop count bytes in
        ap (λ h. with_event event h)
        (fuel_same (length bytes) (length (drop count bytes)) (drop count bytes) (omega (arith, shorter)) (omega arith))

-- taking events

pub goes_event : (bytes stream : List ℕ) (events : List Heard) (event : Heard) (count : ℕ) → GoesOn bytes stream events → first_of bytes ≡ Whole event count
    → GoesOn (drop count bytes) stream (events ++ event ∷ [])
goes_event bytes stream events event count goes is = λ more.
    let within = first_within bytes event count is in
    let stays : first_of (bytes ++ more) ≡ Whole event count = first_more bytes more (Whole event count) is (λ wrong. cc) in
    let left : drop count (bytes ++ more) ≡ drop count bytes ++ more = drop-append-le count bytes more within.1 in
    let here : hearing_of (bytes ++ more) ≡ with_event event (hearing_of (drop count bytes ++ more))
    = hears_is (bytes ++ more) ∙ ap (λ first. hears_by hearing_of (bytes ++ more) first) stays ∙ ap (λ b. with_event event (hearing_of b)) left in
    let rest : Hearing = hearing_of (drop count bytes ++ more) in
    goes more ∙ ap (λ h. with_events events h) here
    ∙ ap (λ all. record { events = all; end = rest.end }) (sym (append_assoc events (event ∷ []) rest.events))

pub goes_fault : (bytes stream : List ℕ) (events : List Heard) (fault : HeardFault) → GoesOn bytes stream events → first_of bytes ≡ Fault fault
    → IsOver fault stream events
goes_fault bytes stream events fault goes is = λ more.
    let stays : first_of (bytes ++ more) ≡ Fault fault = first_more bytes more (Fault fault) is (λ wrong. cc) in
    goes more
    ∙ ap (λ h. with_events events h) (hears_is (bytes ++ more) ∙ ap (λ first. hears_by hearing_of (bytes ++ more) first) stays)
    ∙ ap (λ all. record { events = all; end = Faulty fault }) (append-nil events)

-- what a value stands for

no_fault : (fault : Option HeardFault) → is_some fault ≡ false → fault ≡ None
no_fault None is = refl
no_fault (Some fault) is = absurd (cc)

fed_none : (held piece rest : List ℕ) (fault : Option HeardFault) (heard : List Heard) (stream : List ℕ) (events : List Heard)
    → Takes (held ++ piece) [] heard rest fault → GoesOn held stream events → Stands fault rest (stream ++ piece) (events ++ heard)
fed_none held piece rest fault heard stream events takes goes =
    takes (stream ++ piece) events (λ more.
    ap hearing_of (append_assoc stream piece more) ∙ goes (piece ++ more)
    ∙ ap (λ b. with_events events (hearing_of b)) (sym (append_assoc held piece more))
    ∙ ap (λ e. with_events e (hearing_of ((held ++ piece) ++ more))) (sym (append-nil events)))

pub fed : (held piece bytes rest left : List ℕ) (before fault : Option HeardFault) (old heard : List Heard) (stream : List ℕ) (events : List Heard)
    → is_some before ≡ false → bytes ≡ held ++ piece → old ≡ [] → Takes bytes old heard left fault → rest ≡ left → Stands before held stream events
    → Stands fault rest (stream ++ piece) (events ++ heard)
fed held piece bytes rest left before fault old heard stream events none bytes_are old_is takes rest_is stands =
    let plain : Takes (held ++ piece) [] heard rest fault
    = subst (λ (r : List ℕ). Takes (held ++ piece) [] heard r fault) (sym rest_is)
    (subst (λ (o : List Heard). Takes (held ++ piece) o heard left fault) old_is
    (subst (λ (b : List ℕ). Takes b old heard left fault) bytes_are takes)) in
    let still : Stands None held stream events = subst (λ (f : Option HeardFault). Stands f held stream events) (no_fault before none) stands in
    fed_none held piece rest fault heard stream events plain still.0

abbrev end_in : Option HeardFault → List ℕ → End
end_in None held = end_of held
end_in (Some fault) held = Faulty fault

pub stands_hearing : (fault : Option HeardFault) (held stream : List ℕ) (events : List Heard) → Stands fault held stream events
    → hearing_of stream ≡ record { events = events; end = end_in fault held }
stands_hearing (Some fault) held stream events stands = ap hearing_of (sym (append-nil stream)) ∙ stands.0 []
stands_hearing None held stream events stands =
    let here : hearing_of held ≡ record { events = []; end = end_of held }
    = hears_is held ∙ ap (λ first. hears_by hearing_of held first) stands.1 in
    ap hearing_of (sym (append-nil stream)) ∙ stands.0 []
    ∙ ap (λ b. with_events events (hearing_of b)) (append-nil held) ∙ ap (λ h. with_events events h) here
    ∙ ap (λ all. record { events = all; end = end_of held }) (append-nil events)

fault_in : (fault : Option HeardFault) (held : List ℕ) → fault ≡ fault_of (end_in fault held)
fault_in (Some fault) held = refl
fault_in None [] = refl
fault_in None (byte ∷ held) = refl

pub fault_is : (fault : Option HeardFault) (held stream : List ℕ) (events : List Heard) → Stands fault held stream events
    → fault ≡ fault_of (hearing_of stream).end
fault_is fault held stream events stands =
    fault_in fault held ∙ ap (λ (h : Hearing). fault_of h.end) (sym (stands_hearing fault held stream events stands))

between_in : (fault : Option HeardFault) (held stream : List ℕ) (events : List Heard) → Stands fault held stream events
    → (length held == 0) ≡ is_between (end_in fault held)
between_in (Some fault) held stream events stands = ap (λ (h : List ℕ). length h == 0) stands.1
between_in None [] stream events stands = refl
between_in None (byte ∷ held) stream events stands = grind (arith, nat_tests)

pub between_is : (fault : Option HeardFault) (held stream : List ℕ) (events : List Heard) → Stands fault held stream events
    → (length held == 0) ≡ is_between (hearing_of stream).end
between_is fault held stream events stands =
    between_in fault held stream events stands ∙ ap (λ (h : Hearing). is_between h.end) (sym (stands_hearing fault held stream events stands))
