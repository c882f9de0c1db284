-- The functions of a whole talk give its cut.
use Rattle.std.proofs.Common.{◌≡◌, ℕ, List, [], ◌∷◌, ◌++◌, codes, refl, ap, sym, ◌∙◌, subst, inl, arith, append_assoc, append-nil}
use Rattle.std.proofs.lemmas.Grind.{flat_map-append}
use Rattle.sv_pipes.proofs.OneTalk.{one_talk, stands_cut}
use Rattle.sv_pipes.proofs.Steps.{step_stands, sent_stands}
use Rattle.sv_pipes.proofs.Talks.{stays_lost, round_more}
use Rattle.sv_pipes.specs.Talk.{Mark, Phrase, said, spelled, talk_of, tokens_of, Leads, IsRound, GoesOn, IsLost, IsCut, result_text}
use Rattle.sv_pipes.specs.Talk.Mark.{Byte, Sent}
use Rattle.sv_pipes.specs.Talk.Phrase.{Ready, Event, Result}
use Rattle.sv_pipes.specs.TalkPlaces.{Stands, Told, goes, state_of}
use Rattle.sv_pipes.specs.TalkCut.{after_event, after_mark, after_marks, told_of, talk_tokens, talk_state, IsAttended}
use Rattle.sv_pipes.specs.declared.talk.TalkProgress.{TalkProgress}
use Rattle.sv_pipes.specs.declared.talk.TalkProgress.TheVariants as place
use Rattle.sv_pipes.specs.declared.tokens.TalkState.{TalkState}
use Rattle.sv_pipes.specs.declared.tokens.TalkState.TheVariants as state
use Rattle.sv_pipes.specs.declared.tokens.Token.{Token}

pub after_marks_more : (told : Told) (marks more : List Mark) → after_marks told (marks ++ more) ≡ after_marks (after_marks told marks) more
after_marks_more told [] more = refl
after_marks_more told (mark ∷ marks) more = after_marks_more (after_mark told mark) marks more

pub told_more : (talk more : List Mark) → told_of (talk ++ more) ≡ after_marks (told_of talk) more
unfolding told_of
told_more talk more = after_marks_more (goes (place.Greeting 0) [] []) talk more

-- what was read of a talk stands for it
abbrev pub IsTold : List Mark → Told → Type 0
IsTold talk told = Stands told.place told.held talk told.tokens

pub told_cut : (talk : List Mark) (told : Told) → IsTold talk told → IsCut talk told.tokens (state_of told.place)
told_cut talk told stands = stands_cut told.place told.held talk told.tokens stands

idle_only : (at : TalkProgress) → state_of at ≡ state.Ready → at ≡ place.Idle
idle_only (place.Greeting count) is = absurd (cc)
idle_only place.Idle is = refl
idle_only (place.Word count) is = absurd (cc)
idle_only (place.Length count number) is = absurd (cc)
idle_only (place.Body count number) is = absurd (cc)
idle_only place.Lost is = absurd (cc)
idle_only place.Broken is = absurd (cc)

byte_told : (talk : List Mark) (told : Told) (byte : ℕ) → IsTold talk told → IsTold (talk ++ Byte byte ∷ []) (after_mark told (Byte byte))
byte_told talk told byte stands = step_stands told.place byte told.held told.tokens [] talk stands

event_told : (talk : List Mark) (told : Told) → IsTold talk told → state_of told.place ≡ state.Ready
    → IsTold (talk ++ Sent ∷ []) (after_mark told Sent)
event_told talk told stands ready =
    subst (λ (at : TalkProgress). Stands (after_event at) told.held (talk ++ Sent ∷ []) told.tokens) (sym (idle_only told.place ready))
    (sent_stands told.place told.held talk told.tokens ready stands)

pub said_told : (bytes : List ℕ) (talk : List Mark) (told : Told) → IsTold talk told → IsTold (talk ++ said bytes) (after_marks told (said bytes))
said_told [] talk told stands = subst (λ (all : List Mark). IsTold all told) (sym (append-nil talk)) stands
said_told (byte ∷ bytes) talk told stands =
    subst (λ (all : List Mark). IsTold all (after_marks (after_mark told (Byte byte)) (said bytes))) (append_assoc talk (Byte byte ∷ []) (said bytes))
    (said_told bytes (talk ++ Byte byte ∷ []) (after_mark told (Byte byte)) (byte_told talk told byte stands))

begin_told : IsTold [] (goes (place.Greeting 0) [] [])
begin_told = (
  [],
  record { phrases = []; cut = refl; round = refl; begun = inl refl; tokens_are = refl },
  (refl, (omega arith), refl),
)

-- a prefix of a talk, as its functions read it
abbrev pub IsRead : List Mark → Type 0
IsRead talk = IsTold talk (told_of talk)

begin_read : IsRead []
unfolding told_of
begin_read = begin_told

more_read : (talk more : List Mark) → IsTold (talk ++ more) (after_marks (told_of talk) more) → IsRead (talk ++ more)
more_read talk more told = subst (λ (t : Told). IsTold (talk ++ more) t) (sym (told_more talk more)) told

said_read : (talk : List Mark) (bytes : List ℕ) → IsRead talk → IsRead (talk ++ said bytes)
said_read talk bytes read = more_read talk (said bytes) (said_told bytes talk (told_of talk) read)

event_read : (talk : List Mark) → IsRead talk → talk_state talk ≡ state.Ready → IsRead (talk ++ Sent ∷ [])
event_read talk read ready = more_read talk (Sent ∷ []) (event_told talk (told_of talk) read ready)

-- where events were sent to a listener that waited for one

attended_from : (marks front : List Mark) → IsRead front
    → ((before behind : List Mark) → front ++ marks ≡ before ++ Sent ∷ behind → talk_state before ≡ state.Ready) → IsRead (front ++ marks)
attended_from [] front read attended = subst (λ (all : List Mark). IsRead all) (sym (append-nil front)) read
attended_from (Byte byte ∷ marks) front read attended =
    let joined : (front ++ Byte byte ∷ []) ++ marks ≡ front ++ Byte byte ∷ marks = append_assoc front (Byte byte ∷ []) marks in
    subst (λ (all : List Mark). IsRead all) joined
    (attended_from marks (front ++ Byte byte ∷ []) (said_read front (byte ∷ []) read) (λ before behind same. attended before behind (sym joined ∙ same)))
attended_from (Sent ∷ marks) front read attended =
    let joined : (front ++ Sent ∷ []) ++ marks ≡ front ++ Sent ∷ marks = append_assoc front (Sent ∷ []) marks in
    subst (λ (all : List Mark). IsRead all) joined
    (attended_from marks (front ++ Sent ∷ []) (event_read front read (attended front marks refl))
    (λ before behind same. attended before behind (sym joined ∙ same)))

pub attended_cut : (talk : List Mark) → IsAttended talk → IsCut talk (talk_tokens talk) (talk_state talk)
attended_cut talk attended = told_cut talk (told_of talk) (attended_from talk [] begin_read attended)

-- where the talk has a cut

state_is : (talk : List Mark) (tokens : List Token) (at : TalkState) → IsRead talk → IsCut talk tokens at → talk_state talk ≡ at
state_is talk tokens at read cut = (one_talk talk (talk_tokens talk) tokens (talk_state talk) at (told_cut talk (told_of talk) read) cut).1

whole_parts : (phrases : List Phrase) (to : TalkState) → IsRound state.Acknowledged phrases to → GoesOn (talk_of phrases) (tokens_of phrases) to []
whole_parts phrases to round =
    record { phrases = phrases; cut = sym (append-nil (talk_of phrases)); round = round; begun = inl refl; tokens_are = refl }

part_read : (from : TalkState) (phrase : Phrase) (next : TalkState) (done : List Phrase) → Leads from phrase next
    → IsRound state.Acknowledged done from → IsRead (talk_of done) → IsRead (talk_of done ++ spelled phrase)
part_read state.Acknowledged Ready state.Ready done leads round read = said_read (talk_of done) (codes "READY\n") read
part_read state.Ready Event state.Busy done leads round read =
    event_read (talk_of done) read (state_is (talk_of done) (tokens_of done) state.Ready read ([], whole_parts done state.Ready round))
part_read state.Busy (Result digits body) state.Acknowledged done leads round read = said_read (talk_of done) (result_text digits body) read
part_read from phrase next done leads round read = absurd leads

parts_read : (phrases done : List Phrase) (from to : TalkState) → IsRound state.Acknowledged done from → IsRound from phrases to
    → IsRead (talk_of done) → IsRead (talk_of done ++ talk_of phrases)
parts_read [] done from to round on read = subst (λ (all : List Mark). IsRead all) (sym (append-nil (talk_of done))) read
parts_read (phrase ∷ phrases) done from to round on read =
    let whole : talk_of (done ++ phrase ∷ []) ≡ talk_of done ++ spelled phrase
    = flat_map-append spelled done (phrase ∷ []) ∙ ap (λ back. talk_of done ++ back) (append-nil (spelled phrase)) in
    let here : IsRead (talk_of (done ++ phrase ∷ []))
    = subst (λ (all : List Mark). IsRead all) (sym whole) (part_read from phrase on.0 done on.1 round read) in
    subst (λ (all : List Mark). IsRead all)
    (ap (λ front. front ++ talk_of phrases) whole ∙ append_assoc (talk_of done) (spelled phrase) (talk_of phrases))
    (parts_read phrases (done ++ phrase ∷ []) on.0 to (round_more state.Acknowledged done from phrase on.0 round on.1) on.2 here)

begun_read : (phrases : List Phrase) (to : TalkState) (rest : List ℕ) → IsRound state.Acknowledged phrases to → IsRead (talk_of phrases ++ said rest)
begun_read phrases to rest round = said_read (talk_of phrases) rest (parts_read phrases [] state.Acknowledged to refl round begin_read)

lost_told : (marks talk : List Mark) (held : List ℕ) (tokens : List Token) → IsLost talk tokens
    → IsTold (talk ++ marks) (after_marks (goes place.Lost held tokens) marks)
lost_told [] talk held tokens lost = subst (λ (all : List Mark). IsLost all tokens) (sym (append-nil talk)) lost
lost_told (Byte byte ∷ marks) talk held tokens lost =
    subst (λ (all : List Mark). IsTold all (after_marks (goes place.Lost held tokens) marks)) (append_assoc talk (Byte byte ∷ []) marks)
    (lost_told marks (talk ++ Byte byte ∷ []) held tokens (stays_lost talk tokens (Byte byte) lost))
lost_told (Sent ∷ marks) talk held tokens lost =
    subst (λ (all : List Mark). IsTold all (after_marks (goes place.Lost held tokens) marks)) (append_assoc talk (Sent ∷ []) marks)
    (lost_told marks (talk ++ Sent ∷ []) held tokens (stays_lost talk tokens Sent lost))

lost_from : (at : TalkProgress) (held : List ℕ) (tokens : List Token) (talk marks : List Mark) → Stands at held talk tokens → state_of at ≡ state.Unknown
    → IsTold (talk ++ marks) (after_marks (goes at held tokens) marks)
lost_from (place.Greeting count) held tokens talk marks stands is = absurd (cc)
lost_from place.Idle held tokens talk marks stands is = absurd (cc)
lost_from (place.Word count) held tokens talk marks stands is = absurd (cc)
lost_from (place.Length count number) held tokens talk marks stands is = absurd (cc)
lost_from (place.Body count number) held tokens talk marks stands is = absurd (cc)
lost_from place.Lost held tokens talk marks stands is = lost_told marks talk held tokens stands
lost_from place.Broken held tokens talk marks stands is = absurd stands.2

lost_read : (talk : List Mark) (tokens : List Token) → IsLost talk tokens → IsRead talk
lost_read talk tokens cut =
    let front : List Mark = talk_of cut.phrases ++ said cut.rest in
    let read : IsRead (front ++ Byte cut.byte ∷ []) = said_read front (cut.byte ∷ []) (begun_read cut.phrases cut.to cut.rest cut.round) in
    let short : IsLost (front ++ Byte cut.byte ∷ []) tokens = record {
      phrases = cut.phrases;
      to = cut.to;
      rest = cut.rest;
      byte = cut.byte;
      behind = [];
      cut = refl;
      round = cut.round;
      begun = cut.begun;
      outside = cut.outside;
      tokens_are = cut.tokens_are;
    } in
    let unknown : talk_state (front ++ Byte cut.byte ∷ []) ≡ state.Unknown
    = state_is (front ++ Byte cut.byte ∷ []) tokens state.Unknown read short in
    let told : Told = told_of (front ++ Byte cut.byte ∷ []) in
    subst (λ (all : List Mark). IsRead all) (append_assoc front (Byte cut.byte ∷ []) cut.behind ∙ sym cut.cut)
    (more_read (front ++ Byte cut.byte ∷ []) cut.behind
    (lost_from told.place told.held told.tokens (front ++ Byte cut.byte ∷ []) cut.behind read unknown))

goes_on_read : (talk : List Mark) (tokens : List Token) (to : TalkState) (rest : List ℕ) → GoesOn talk tokens to rest → IsRead talk
goes_on_read talk tokens to rest cut = subst (λ (all : List Mark). IsRead all) (sym cut.cut) (begun_read cut.phrases to rest cut.round)

pub cut_read : (talk : List Mark) (tokens : List Token) (at : TalkState) → IsCut talk tokens at → IsRead talk
cut_read talk tokens state.Acknowledged cut = goes_on_read talk tokens state.Acknowledged cut.0 cut.1
cut_read talk tokens state.Ready cut = goes_on_read talk tokens state.Ready cut.0 cut.1
cut_read talk tokens state.Busy cut = goes_on_read talk tokens state.Busy cut.0 cut.1
cut_read talk tokens state.Unknown cut = lost_read talk tokens cut

pub cut_of_talk : (talk : List Mark) (tokens : List Token) (at : TalkState) → IsCut talk tokens at
    → (tokens ≡ talk_tokens talk) × (at ≡ talk_state talk)
cut_of_talk talk tokens at cut =
    one_talk talk tokens (talk_tokens talk) at (talk_state talk) cut (told_cut talk (told_of talk) (cut_read talk tokens at cut))

-- a value that stands for a talk gave the tokens of its functions
pub stands_read : (at : TalkProgress) (held : List ℕ) (talk : List Mark) (tokens : List Token) → Stands at held talk tokens
    → (tokens ≡ talk_tokens talk) × (state_of at ≡ talk_state talk)
stands_read at held talk tokens stands = cut_of_talk talk tokens (state_of at) (stands_cut at held talk tokens stands)
