-- What was handled and said, part by part.
use Rattle.std.proofs.Common.{◌≡◌, ◌≤◌, ◌+◌, ◌-◌, ◌++◌, ℕ, List, [], ◌∷◌, Option, None, Some, Result, Ok, Err, true, false, inl, inr, length, take, drop, get_or, ◌<◌, length-append, append_assoc, append-nil, ap, sym, ◌∙◌, subst, refl, arith}
use Rattle.std.specs.Prelude.{IfErr, OnErr, OnOk, is_some}
use Rattle.std.specs.Io.KnownBytes.{Appends, Consumes, IsAtEnd, Keeps}
use Rattle.std.proofs.KnownBytes.{Appends-trans, Appends-nil, Consumes-trans, Consumes-nil, Consumes-kept}
use Rattle.std.proofs.lemmas.List.{take_more, take-append-drop}
use Rattle.sv_listener.proofs.Hearings.{stands_hearing}
use Rattle.sv_listener.specs.Answers.{answer_of, answers, ready, talk_over}
use Rattle.sv_listener.specs.Hearing.{End, Hearing, hearing_of, fault_of, is_between}
use Rattle.sv_listener.specs.Hearing.End.{Between, Within, Faulty}
use Rattle.sv_listener.specs.Listening.{Answers, EndsBetween, EndsBroken, EndsFull, EndsOpen, Goes, Half, HasVerdicts, IsFaulty, IsOpen, IsStop, Listens, Says, Stops, StopsIn, Whole, most_taken}
use Rattle.sv_listener.specs.SidePlaces.{EndsAs, StandsFor}
use Rattle.sv_listener.specs.Takes.{Stands}
use Rattle.sv_listener.specs.declared.events.Heard.{Heard}
use Rattle.sv_listener.specs.declared.events.HeardFault.{HeardFault}
use Rattle.sv_listener.specs.declared.handler.Verdict.{Verdict}
use Rattle.sv_listener.specs.declared.listening.ListenEnd.{ListenEnd}
use Rattle.sv_listener.specs.declared.listening.ListenEnd.TheVariants as ends
use Rattle.sv_listener.specs.declared.side.ListenerSide.{ListenerSide}
use Rattle.sv_out.specs.Written.{AppendsFront}

-- events that come after those that have their verdicts
abbrev pub Joins : (List Heard → List Verdict → Type 0) → (List Heard → List Verdict → Type 0) → (List Heard → List Verdict → Type 0) → Type 0
Joins One Two Both =
    (events more : List Heard) (verdicts others : List Verdict) → length verdicts ≡ length events
    → One events verdicts → Two more others → Both (events ++ more) (verdicts ++ others)

answers_append : (verdicts others : List Verdict) → answers (verdicts ++ others) ≡ answers verdicts ++ answers others
answers_append [] others = refl
answers_append (verdict ∷ verdicts) others =
    ap (λ (text : List ℕ). answer_of verdict ++ text) (answers_append verdicts others)
    ∙ sym (append_assoc (answer_of verdict) (answers verdicts) (answers others))

-- ---- texts

front_of_none : (a : Option (List ℕ)) (text : List ℕ) → AppendsFront a a text
front_of_none a text = record { front = []; rest = text; parts = refl; appends = Appends-nil a }

front_of_all : (a b : Option (List ℕ)) (text : List ℕ) → Appends a b text → AppendsFront a b text
front_of_all a b text wrote = record { front = text; rest = []; parts = sym (append-nil text); appends = wrote }

front_behind : (a b c : Option (List ℕ)) (text more : List ℕ) → Appends a b text → AppendsFront b c more → AppendsFront a c (text ++ more)
front_behind a b c text more wrote part = record {
  front = text ++ part.front;
  rest = part.rest;
  parts = ap (λ (t : List ℕ). text ++ t) part.parts ∙ sym (append_assoc text part.front part.rest);
  appends = Appends-trans a b c text part.front wrote part.appends;
}

-- a prefix of a text is one of a longer text
front_within : (a b : Option (List ℕ)) (text more : List ℕ) → AppendsFront a b text → AppendsFront a b (text ++ more)
front_within a b text more part = record {
  front = part.front;
  rest = part.rest ++ more;
  parts = ap (λ (t : List ℕ). t ++ more) part.parts ∙ append_assoc part.front part.rest more;
  appends = part.appends;
}

-- ---- answers and stops

pub answered_none : (a : Option (List ℕ)) (Told : List Heard → List Verdict → Type 0) → Told [] [] → Answers a a Told []
answered_none a Told told = record { verdicts = []; told = told; each = refl; wrote = Appends-nil a }

pub answered_more : (a b c : Option (List ℕ)) (One Two Both : List Heard → List Verdict → Type 0) (events more : List Heard)
    → Joins One Two Both → Answers a b One events → Answers b c Two more → Answers a c Both (events ++ more)
answered_more a b c One Two Both events more joins first second =
    let P : List ℕ → Type 0 = λ text. Appends a c text in
    record {
      verdicts = first.verdicts ++ second.verdicts;
      told = joins events more first.verdicts second.verdicts first.each first.told second.told;
      each = length-append first.verdicts second.verdicts ∙ omega (arith, first.each, second.each, length-append events more);
      wrote =
          subst P (sym (answers_append first.verdicts second.verdicts))
          (Appends-trans a b c (answers first.verdicts) (answers second.verdicts) first.wrote second.wrote);
    }

has_more : (end : ListenEnd) (verdicts events others more : ℕ) → verdicts ≡ events → HasVerdicts end others more
    → HasVerdicts end (verdicts + others) (events + more)
has_more ends.SinkFailed verdicts events others more same has = omega (arith, same, has)
has_more ends.Ended verdicts events others more same has = omega (arith, same, has)
has_more ends.SourceFailed verdicts events others more same has = omega (arith, same, has)
has_more ends.Broken verdicts events others more same has = omega (arith, same, has)
has_more ends.OutOfMemory verdicts events others more same has = omega (arith, same, has)
has_more ends.HandlerFailed verdicts events others more same has = omega (arith, same, has)
has_more ends.TooMuch verdicts events others more same has = omega (arith, same, has)

-- nothing was given
pub ungiven : (end : ListenEnd) (a b : Option (List ℕ)) (Told : List Heard → List Verdict → Type 0) (events : List Heard)
    → HasVerdicts end 0 0 → Told [] [] → AppendsFront a b [] → Stops end a b Told events
ungiven end a b Told events has told part =
    record { given = []; later = events; parts = refl; verdicts = []; told = told; has = has; wrote = part }

pub stops_behind : (end : ListenEnd) (a b c : Option (List ℕ)) (One Two Both : List Heard → List Verdict → Type 0) (events more : List Heard)
    → Joins One Two Both → Answers a b One events → Stops end b c Two more → Stops end a c Both (events ++ more)
stops_behind end a b c One Two Both events more joins first stop =
    let P : List ℕ → Type 0 = λ text. AppendsFront a c text in
    let Q : ℕ → ℕ → Type 0 = λ n m. HasVerdicts end n m in
    record {
      given = events ++ stop.given;
      later = stop.later;
      parts = ap (λ (l : List Heard). events ++ l) stop.parts ∙ sym (append_assoc events stop.given stop.later);
      verdicts = first.verdicts ++ stop.verdicts;
      told = joins events stop.given first.verdicts stop.verdicts first.each first.told stop.told;
      has =
          rw (length-append first.verdicts stop.verdicts, length-append events stop.given)
          (has_more end (length first.verdicts) (length events) (length stop.verdicts) (length stop.given) first.each stop.has);
      wrote =
          subst P (sym (answers_append first.verdicts stop.verdicts))
          (front_behind a b c (answers first.verdicts) (answers stop.verdicts) first.wrote stop.wrote);
    }

-- further events come after the stop
pub stops_before : (end : ListenEnd) (a b : Option (List ℕ)) (Told : List Heard → List Verdict → Type 0) (events more : List Heard)
    → Stops end a b Told events → Stops end a b Told (events ++ more)
stops_before end a b Told events more stop = record {
  given = stop.given;
  later = stop.later ++ more;
  parts = ap (λ (l : List Heard). l ++ more) stop.parts ∙ append_assoc stop.given stop.later more;
  verdicts = stop.verdicts;
  told = stop.told;
  has = stop.has;
  wrote = stop.wrote;
}

-- one event more of a list
pub one_more : (events : List Heard) (count : ℕ) (event : Heard) → count < length events → event ≡ get_or events count event
    → take count events ++ event ∷ [] ≡ take (count + 1) events
one_more events count event within is =
    ap (λ (e : Heard). take count events ++ e ∷ []) is ∙ sym (take_more events count event within)

pub answers_on : (a b c : Option (List ℕ)) (One Two Both : List Heard → List Verdict → Type 0) (events : List Heard) (count : ℕ) (event : Heard)
    → Joins One Two Both → count < length events → event ≡ get_or events count event → Answers a b One (take count events) → Answers b c Two (event ∷ [])
    → Answers a c Both (take (count + 1) events)
answers_on a b c One Two Both events count event joins within is first second =
    let P : List Heard → Type 0 = λ e. Answers a c Both e in
    subst P (one_more events count event within is) (answered_more a b c One Two Both (take count events) (event ∷ []) joins first second)

pub stops_on : (end : ListenEnd) (a b c : Option (List ℕ)) (One Two Both : List Heard → List Verdict → Type 0) (events : List Heard) (count : ℕ) (event : Heard)
    → Joins One Two Both → count < length events → event ≡ get_or events count event → Answers a b One (take count events) → Stops end b c Two (event ∷ [])
    → Stops end a c Both events
stops_on end a b c One Two Both events count event joins within is first stop =
    let P : List Heard → Type 0 = λ e. Stops end a c Both e in
    subst P (ap (λ (l : List Heard). l ++ drop (count + 1) events) (one_more events count event within is) ∙ take-append-drop (count + 1) events)
    (stops_before end a c Both (take count events ++ event ∷ []) (drop (count + 1) events)
    (stops_behind end a b c One Two Both (take count events) (event ∷ []) joins first stop))

-- ---- answers in a text, which is then said

text_is : (start text said : List ℕ) → start ≡ [] → text ≡ start ++ said → text ≡ said
text_is start text said none is = is ∙ ap (λ (t : List ℕ). t ++ said) none

-- the sink failed: all verdicts were given
answers_unsaid : (start text : List ℕ) (a b : Option (List ℕ)) (Told : List Heard → List Verdict → Type 0) (events : List Heard)
    → start ≡ [] → Answers (Some start) (Some text) Told events → AppendsFront a b text → Stops ends.SinkFailed a b Told events
answers_unsaid start text a b Told events none all part =
    let P : List ℕ → Type 0 = λ t. AppendsFront a b t in
    record {
      given = events;
      later = [];
      parts = sym (append-nil events);
      verdicts = all.verdicts;
      told = all.told;
      has = all.each;
      wrote = subst P (text_is start text (answers all.verdicts) none all.wrote) part;
    }

-- one wasn't handled, and of the answers before it a prefix was said
stops_said : (end : ListenEnd) (start text : List ℕ) (a b : Option (List ℕ)) (Told : List Heard → List Verdict → Type 0) (events : List Heard)
    → start ≡ [] → Stops end (Some start) (Some text) Told events → AppendsFront a b text → Stops end a b Told events
stops_said end start text a b Told events none stop part =
    let P : List ℕ → Type 0 = λ t. AppendsFront a b t in
    let same : text ≡ stop.wrote.front = text_is start text stop.wrote.front none stop.wrote.appends in
    record {
      given = stop.given;
      later = stop.later;
      parts = stop.parts;
      verdicts = stop.verdicts;
      told = stop.told;
      has = stop.has;
      wrote =
          subst P (ap (λ (t : List ℕ). t ++ stop.wrote.rest) same ∙ sym stop.wrote.parts)
          (front_within a b text stop.wrote.rest part);
    }

-- what was said of the text, whether the sink failed or not
front_said : {A E : Type 0} (result : Result A E) (a b : Option (List ℕ)) (text : List ℕ)
    → OnOk result (Appends a b text) → OnErr result (AppendsFront a b text) → AppendsFront a b text
front_said (Ok value) a b text all part = front_of_all a b text all
front_said (Err fault) a b text all part = part

pub said_or_not : {A : Type 0} (result : Result A ListenEnd) (start text shown : List ℕ) (a b : Option (List ℕ))
    (Told : List Heard → List Verdict → Type 0) (events : List Heard) → start ≡ [] → shown ≡ text → Answers (Some start) (Some text) Told events
    → IfErr result (λ end. end ≡ ends.SinkFailed) → OnErr result (AppendsFront a b shown) → IfErr result (λ end. Stops end a b Told events)
said_or_not (Ok value) start text shown a b Told events none same all is part = tt
said_or_not (Err end) start text shown a b Told events none same all is part =
    let P : ListenEnd → Type 0 = λ e. Stops e a b Told events in
    let Q : List ℕ → Type 0 = λ t. AppendsFront a b t in
    subst P (sym is) (answers_unsaid start text a b Told events none all (subst Q same part))

pub stopped_said : {A E : Type 0} (result : Result A E) (end : ListenEnd) (start text shown : List ℕ) (a b : Option (List ℕ))
    (Told : List Heard → List Verdict → Type 0) (events : List Heard) → start ≡ [] → shown ≡ text → Stops end (Some start) (Some text) Told events
    → OnOk result (Appends a b shown) → OnErr result (AppendsFront a b shown) → Stops end a b Told events
stopped_said result end start text shown a b Told events none same stop all part =
    let Q : List ℕ → Type 0 = λ t. AppendsFront a b t in
    stops_said end start text a b Told events none stop (subst Q same (front_said result a b shown all part))

-- ---- the whole stream

-- all but so many bytes were taken, and all of their events were answered
pub record HearsOn (side : ListenerSide) (room : ℕ) (left left_after old new : Option (List ℕ))
    (Told : List Heard → List Verdict → Type 0) : Type 0 where
  pub stream : List ℕ
  pub events : List Heard
  pub taken : Consumes left left_after stream
  pub size : length stream + room ≡ most_taken
  pub stands : StandsFor side stream events
  pub open_end : EndsOpen stream
  pub answered : Answers old new Told events

nothing_heard : hearing_of [] ≡ record { events = []; end = Between }
unfolding hearing_of
nothing_heard = refl

nothing_open : EndsOpen []
nothing_open = ap (λ (h : Hearing). fault_of h.end) nothing_heard

pub hears_start : (side : ListenerSide) (left old : Option (List ℕ)) (Told : List Heard → List Verdict → Type 0)
    → StandsFor side [] [] → Told [] [] → HearsOn side most_taken left left old old Told
hears_start side left old Told stands told = record {
  stream = [];
  events = [];
  taken = Consumes-nil left;
  size = omega arith;
  stands = stands;
  open_end = nothing_open;
  answered = answered_none old Told told;
}

-- what was heard of a stream that a value stands for
heard_so_far : (side : ListenerSide) (stream : List ℕ) (events : List Heard) → StandsFor side stream events → (hearing_of stream).events ≡ events
heard_so_far side stream events stands = ap (λ (h : Hearing). h.events) (stands_hearing side.fault side.held.items stream events stands.1)

is_none : (fault : Option HeardFault) → is_some fault ≡ false → fault ≡ None
is_none None is = refl
is_none (Some fault) is = absurd (cc)

faulty : (end : End) (fault : Option HeardFault) → fault ≡ fault_of end → is_some fault ≡ true → IsFaulty end
faulty Between None is some = absurd (cc)
faulty Between (Some fault) is some = absurd (cc)
faulty Within None is some = absurd (cc)
faulty Within (Some fault) is some = absurd (cc)
faulty (Faulty found) fault is some = (found, refl)

between_ends : (end : End) → IsOpen end → is_between end ≡ true → end ≡ Between
between_ends Between open_end is = refl
between_ends Within open_end is = absurd (cc)
between_ends (Faulty fault) open_end is = absurd (cc)

within_ends : (end : End) → IsOpen end → is_between end ≡ false → end ≡ Within
within_ends Between open_end is = absurd (cc)
within_ends Within open_end is = refl
within_ends (Faulty fault) open_end is = absurd (cc)

-- all events of the stream have their answers
whole : (side : ListenerSide) (room : ℕ) (left left_after last old new : Option (List ℕ)) (Told : List Heard → List Verdict → Type 0)
    (Ends : List ℕ → Type 0) (on : HearsOn side room left left_after old new Told) → Consumes left last on.stream → Ends on.stream
    → Whole answers left last old new Told Ends
whole side room left left_after last old new Told Ends on taken ends =
    let same : on.events ≡ (hearing_of on.stream).events = sym (heard_so_far side on.stream on.events on.stands) in
    let P : List Heard → Type 0 = λ e. Told e on.answered.verdicts in
    record {
      stream = on.stream;
      taken = taken;
      verdicts = on.answered.verdicts;
      told = subst P same on.answered.told;
      each = on.answered.each ∙ ap length same;
      wrote = on.answered.wrote;
      ends = ends;
    }

none_more : (left left_after last : Option (List ℕ)) (stream : List ℕ) → Consumes left left_after stream → Consumes left_after last [] → Consumes left last stream
none_more left left_after last stream taken none =
    let P : List ℕ → Type 0 = λ b. Consumes left last b in
    subst P (append-nil stream) (Consumes-trans left left_after last stream [] taken none)

pub ended_between : (side : ListenerSide) (room : ℕ) (left left_after last old new : Option (List ℕ)) (Told : List Heard → List Verdict → Type 0)
    → HearsOn side room left left_after old new Told → Consumes left_after last [] → IsAtEnd last → EndsAs side (λ end. is_between end ≡ true)
    → Says answers ends.Ended left last old new Told
ended_between side room left left_after last old new Told on none at_end between =
    whole side room left left_after last old new Told (EndsBetween last) on (none_more left left_after last on.stream on.taken none)
    (at_end, between_ends (hearing_of on.stream).end on.open_end (between on.stream on.events on.stands))

pub ended_within : (side : ListenerSide) (room : ℕ) (left left_after last old new : Option (List ℕ)) (Told : List Heard → List Verdict → Type 0)
    → HearsOn side room left left_after old new Told → Consumes left_after last [] → IsAtEnd last → EndsAs side (λ end. is_between end ≡ false)
    → Says answers ends.Broken left last old new Told
ended_within side room left left_after last old new Told on none at_end between =
    whole side room left left_after last old new Told (EndsBroken last) on (none_more left left_after last on.stream on.taken none)
    (inr (at_end, within_ends (hearing_of on.stream).end on.open_end (between on.stream on.events on.stands)))

pub source_failed : (side : ListenerSide) (room : ℕ) (left left_after last old new : Option (List ℕ)) (Told : List Heard → List Verdict → Type 0)
    → HearsOn side room left left_after old new Told → Keeps left_after last → Says answers ends.SourceFailed left last old new Told
source_failed side room left left_after last old new Told on kept =
    whole side room left left_after last old new Told EndsOpen on (Consumes-kept left left_after last on.stream on.taken kept) on.open_end

pub too_much : (side : ListenerSide) (room : ℕ) (left left_after old new : Option (List ℕ)) (Told : List Heard → List Verdict → Type 0)
    → HearsOn side room left left_after old new Told → room ≡ 0 → Says answers ends.TooMuch left left_after old new Told
too_much side room left left_after old new Told on none =
    whole side room left left_after left_after old new Told EndsFull on on.taken (on.open_end, omega (arith, on.size, none))

-- a piece comes, and its events are answered: but for what its end is
pub record HeardPiece (side : ListenerSide) (room : ℕ) (left left_after old new : Option (List ℕ))
    (Told : List Heard → List Verdict → Type 0) : Type 0 where
  pub stream : List ℕ
  pub events : List Heard
  pub taken : Consumes left left_after stream
  pub size : length stream + room ≡ most_taken
  pub stands : StandsFor side stream events
  pub answered : Answers old new Told events

pub hears_piece : (side later : ListenerSide) (room : ℕ) (left mid last old said new : Option (List ℕ)) (One Two Both : List Heard → List Verdict → Type 0)
    (piece : List ℕ) → Joins One Two Both → HearsOn side room left mid old said One → Consumes mid last piece → length piece ≤ room
    → Goes side piece later said new Two → HeardPiece later (room - length piece) left last old new Both
hears_piece side later room left mid last old said new One Two Both piece joins on took fits goes = record {
  stream = on.stream ++ piece;
  events = on.events ++ goes.0;
  taken = Consumes-trans left mid last on.stream piece on.taken took;
  size = omega (arith, on.size, length-append on.stream piece);
  stands = goes.1 on.stream on.events on.stands;
  answered = answered_more old said new One Two Both on.events goes.0 joins on.answered goes.2;
}

pub hears_on : (side : ListenerSide) (room : ℕ) (left last old new : Option (List ℕ)) (Told : List Heard → List Verdict → Type 0) (fault : Option HeardFault)
    → HeardPiece side room left last old new Told → EndsAs side (λ end. fault ≡ fault_of end) → is_some fault ≡ false
    → HearsOn side room left last old new Told
hears_on side room left last old new Told fault piece ends none = record {
  stream = piece.stream;
  events = piece.events;
  taken = piece.taken;
  size = piece.size;
  stands = piece.stands;
  open_end = sym (ends piece.stream piece.events piece.stands) ∙ is_none fault none;
  answered = piece.answered;
}

pub broken : (side : ListenerSide) (room : ℕ) (left last old new : Option (List ℕ)) (Told : List Heard → List Verdict → Type 0) (fault : Option HeardFault)
    → HeardPiece side room left last old new Told → EndsAs side (λ end. fault ≡ fault_of end) → is_some fault ≡ true
    → Says answers ends.Broken left last old new Told
broken side room left last old new Told fault piece ends some =
    let same : piece.events ≡ (hearing_of piece.stream).events = sym (heard_so_far side piece.stream piece.events piece.stands) in
    let P : List Heard → Type 0 = λ e. Told e piece.answered.verdicts in
    record {
      stream = piece.stream;
      taken = piece.taken;
      verdicts = piece.answered.verdicts;
      told = subst P same piece.answered.told;
      each = piece.answered.each ∙ ap length same;
      wrote = piece.answered.wrote;
      ends = inl (faulty (hearing_of piece.stream).end fault (ends piece.stream piece.events piece.stands) some);
    }

half_says : (end : ListenEnd) (left last old new : Option (List ℕ)) (Told : List Heard → List Verdict → Type 0) (says : List Verdict → List ℕ)
    → IsStop end → Half says left last old new Told (HasVerdicts end) → Says says end left last old new Told
half_says ends.OutOfMemory left last old new Told says stop half = half
half_says ends.SinkFailed left last old new Told says stop half = half
half_says ends.HandlerFailed left last old new Told says stop half = half
half_says ends.Ended left last old new Told says stop half = absurd stop
half_says ends.SourceFailed left last old new Told says stop half = absurd stop
half_says ends.Broken left last old new Told says stop half = absurd stop
half_says ends.TooMuch left last old new Told says stop half = absurd stop

pub stopped : (end : ListenEnd) (side : ListenerSide) (room : ℕ) (left mid last old said new : Option (List ℕ)) (One Two Both : List Heard → List Verdict → Type 0)
    (piece : List ℕ) → IsStop end → Joins One Two Both → HearsOn side room left mid old said One → Consumes mid last piece
    → StopsIn end side piece said new Two → Says answers end left last old new Both
stopped end side room left mid last old said new One Two Both piece is joins on took stops =
    let found = stops on.stream on.events on.stands in
    let behind = stops_behind end old said new One Two Both on.events found.0 joins on.answered found.2 in
    half_says end left last old new Both answers is (record {
      stream = on.stream ++ piece;
      taken = Consumes-trans left mid last on.stream piece on.taken took;
      given = behind.given;
      later = behind.later;
      heard = found.1 ∙ behind.parts;
      verdicts = behind.verdicts;
      told = behind.told;
      has = behind.has;
      wrote = behind.wrote;
    })

-- memory was refused while a piece was heard: what was heard before stands before all that follows
pub heard_first : (fault : Option HeardFault) (held stream piece : List ℕ) (events : List Heard) → Stands fault held stream events
    → (later : List Heard) × ((hearing_of (stream ++ piece)).events ≡ events ++ later)
heard_first None held stream piece events stands =
    ((hearing_of (held ++ piece)).events, ap (λ (h : Hearing). h.events) (stands.0 piece))
heard_first (Some fault) held stream piece events stands =
    ([], ap (λ (h : Hearing). h.events) (stands.0 piece) ∙ sym (append-nil events))

-- ---- `READY` before all

ready_whole : (Ends : List ℕ → Type 0) (left last old mid new : Option (List ℕ)) (Told : List Heard → List Verdict → Type 0)
    → Appends old mid ready → Whole answers left last mid new Told Ends → Whole talk_over left last old new Told Ends
ready_whole Ends left last old mid new Told said w = record {
  stream = w.stream;
  taken = w.taken;
  verdicts = w.verdicts;
  told = w.told;
  each = w.each;
  wrote = Appends-trans old mid new ready (answers w.verdicts) said w.wrote;
  ends = w.ends;
}

ready_half : (end : ListenEnd) (left last old mid new : Option (List ℕ)) (Told : List Heard → List Verdict → Type 0)
    → Appends old mid ready → Half answers left last mid new Told (HasVerdicts end) → Half talk_over left last old new Told (HasVerdicts end)
ready_half end left last old mid new Told said h = record {
  stream = h.stream;
  taken = h.taken;
  given = h.given;
  later = h.later;
  heard = h.heard;
  verdicts = h.verdicts;
  told = h.told;
  has = h.has;
  wrote = front_behind old mid new ready (answers h.verdicts) said h.wrote;
}

pub ready_first : (end : ListenEnd) (left last old mid new : Option (List ℕ)) (Told : List Heard → List Verdict → Type 0)
    → Appends old mid ready → Says answers end left last mid new Told → Listens end left last old new Told
ready_first ends.Ended left last old mid new Told said says = ready_whole (EndsBetween last) left last old mid new Told said says
ready_first ends.SourceFailed left last old mid new Told said says = ready_whole EndsOpen left last old mid new Told said says
ready_first ends.Broken left last old mid new Told said says = ready_whole (EndsBroken last) left last old mid new Told said says
ready_first ends.TooMuch left last old mid new Told said says = ready_whole EndsFull left last old mid new Told said says
ready_first ends.OutOfMemory left last old mid new Told said says = ready_half ends.OutOfMemory left last old mid new Told said says
ready_first ends.SinkFailed left last old mid new Told said says = ready_half ends.SinkFailed left last old mid new Told said says
ready_first ends.HandlerFailed left last old mid new Told said says = ready_half ends.HandlerFailed left last old mid new Told said says

-- not even that it is ready was said
pub not_ready : (left old new : Option (List ℕ)) (Told : List Heard → List Verdict → Type 0) → Told [] [] → AppendsFront old new ready
    → Listens ends.SinkFailed left left old new Told
not_ready left old new Told told part = record {
  stream = [];
  taken = Consumes-nil left;
  given = [];
  later = [];
  heard = ap (λ (h : Hearing). h.events) nothing_heard;
  verdicts = [];
  told = told;
  has = refl;
  wrote = front_within old new ready [] part;
}

pub unheard : (side : ListenerSide) (piece : List ℕ) (a : Option (List ℕ)) (Told : List Heard → List Verdict → Type 0) → Told [] []
    → StopsIn ends.OutOfMemory side piece a a Told
unheard side piece a Told told = λ stream events stands.
    let found = heard_first side.fault side.held.items stream piece events stands.1 in
    (found.0, found.1, ungiven ends.OutOfMemory a a Told found.0 (omega arith) told (front_of_none a []))
