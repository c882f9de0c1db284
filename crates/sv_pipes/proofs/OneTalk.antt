-- A talk has one cut.
use Rattle.std.proofs.Common.{◌≡◌, ◌+◌, ◌⊎◌, ℕ, List, [], ◌∷◌, ◌++◌, length, codes, refl, ap, sym, ◌∙◌, subst, inl, inr, arith, append_assoc, append-nil, length-append}
use Rattle.std.proofs.lemmas.List.{append_cancel_left, length-map, map-append}
use Rattle.sv_pipes.proofs.Digits.{digits_stop}
use Rattle.sv_pipes.proofs.Fronts.{no_bytes}
use Rattle.sv_pipes.specs.Talk.{Mark, Phrase, said, spelled, talk_of, tokens_of, Leads, IsRound, IsSaid, IsBegun, IsOutside, IsLength, GoesOn, IsLost, IsCut, result_text}
use Rattle.sv_base.specs.SizeText.{number_of}
use Rattle.sv_pipes.specs.Talk.Mark.{Byte, Sent}
use Rattle.sv_pipes.specs.Talk.Phrase.{Ready, Event, Result}
use Rattle.sv_pipes.specs.TalkPlaces.{Stands, state_of}
use Rattle.sv_pipes.specs.declared.talk.TalkProgress.{TalkProgress}
use Rattle.sv_pipes.specs.declared.talk.TalkProgress.TheVariants as place
use Rattle.sv_pipes.specs.declared.tokens.TalkState.{TalkState}
use Rattle.sv_pipes.specs.declared.tokens.TalkState.TheVariants as state
use Rattle.sv_pipes.specs.declared.tokens.Token.{Token}
use Rattle.sv_pipes.specs.declared.tokens.Token.TheVariants as token

-- of two words said at one place, one goes on where the other ends
compare : (one other : List ℕ) (after more : List Mark) → said one ++ after ≡ said other ++ more
    → ((left : List ℕ) × (one ≡ other ++ left)) ⊎ ((byte : ℕ) × (left : List ℕ) × (other ≡ one ++ byte ∷ left) × (after ≡ Byte byte ∷ (said left ++ more)))
compare one [] after more same = inl (one, refl)
compare [] (b ∷ bs) after more same = inr (b, bs, refl, same)
compare (a ∷ as') (b ∷ bs) after more same =
    let heads : a ≡ b = cc in
    let tails : said as' ++ after ≡ said bs ++ more = cc in
    elim (compare as' bs after more tails) [
      | inl on ↦ inl (on.0, cc)
      | inr on ↦ inr (on.0, on.1, cc, on.3)
    ]

-- words of one length at one place are one word
same_front : (one other more rest : List ℕ) → length one ≡ length other → one ++ more ≡ other ++ rest → one ≡ other
same_front [] [] more rest size same = refl
same_front [] (b ∷ bs) more rest size same = absurd (omega (arith, size))
same_front (a ∷ as') [] more rest size same = absurd (omega (arith, size))
same_front (a ∷ as') (b ∷ bs) more rest size same =
    let heads : a ≡ b = cc in
    let tails : as' ++ more ≡ bs ++ rest = cc in
    let again = same_front as' bs more rest (omega (arith, size)) tails in
    cc

-- a result at a place is the only one there
one_result : (digits others body other more rest : List ℕ) → IsLength digits (length body) → IsLength others (length other)
    → result_text digits body ++ more ≡ result_text others other ++ rest → (digits ≡ others) × (body ≡ other)
one_result digits others body other more rest is also same =
    let left : (digits ++ 10 ∷ body) ++ more ≡ (others ++ 10 ∷ other) ++ rest
    = append_cancel_left (codes "RESULT ") ((digits ++ 10 ∷ body) ++ more) ((others ++ 10 ∷ other) ++ rest) same in
    let apart : digits ++ 10 ∷ (body ++ more) ≡ others ++ 10 ∷ (other ++ rest)
    = sym (append_assoc digits (10 ∷ body) more) ∙ left ∙ append_assoc others (10 ∷ other) rest in
    let stop = digits_stop digits others (body ++ more) (other ++ rest) 10 is.decimal also.decimal refl apart in
    let digits_are : digits ≡ others = sym stop.0 in
    let size : length body ≡ length other = sym is.number_is ∙ ap (λ d. number_of 0 d) digits_are ∙ also.number_is in
    let bodies : digits ++ 10 ∷ (body ++ more) ≡ digits ++ 10 ∷ (other ++ rest) = apart ∙ ap (λ d. d ++ 10 ∷ (other ++ rest)) stop.0 in
    let behind : 10 ∷ (body ++ more) ≡ 10 ∷ (other ++ rest) = append_cancel_left digits (10 ∷ (body ++ more)) (10 ∷ (other ++ rest)) bodies in
    let tails : body ++ more ≡ other ++ rest = cc in
    (digits_are, same_front body other more rest size tails)

-- what is said at a place is the only thing that may be said there
one_said : (from : TalkState) (one other more rest : List ℕ) → IsSaid from one → IsSaid from other → one ++ more ≡ other ++ rest → one ≡ other
one_said state.Acknowledged one other more rest is also same = is ∙ sym also
one_said state.Ready one other more rest is also same = absurd is
one_said state.Unknown one other more rest is also same = absurd is
one_said state.Busy one other more rest is also same =
    let texts : result_text is.0 is.1 ++ more ≡ result_text also.0 also.1 ++ rest
    = ap (λ bytes. bytes ++ more) (sym is.3) ∙ same ∙ ap (λ bytes. bytes ++ rest) also.3 in
    let both = one_result is.0 also.0 is.1 also.1 more rest is.2 also.2 texts in
    is.3 ∙ ap (λ d. result_text d is.1) both.0 ∙ ap (λ b. result_text also.0 b) both.1 ∙ sym also.3

said_some : (from : TalkState) (bytes : List ℕ) → IsSaid from bytes → bytes ≡ [] → ⊥
said_some state.Acknowledged bytes is none = let wrong : codes "READY\n" ≡ [] = sym is ∙ none in cc
said_some state.Ready bytes is none = absurd is
said_some state.Unknown bytes is none = absurd is
said_some state.Busy bytes is none = let wrong : result_text is.0 is.1 ≡ [] = sym is.3 ∙ none in cc

-- the marks from a place on at which the cut stops: what is begun there, and then nothing, or a byte outside
record Stops (from : TalkState) (marks : List Mark) : Type 0 where
  rest : List ℕ
  after : List Mark
  cut : marks ≡ said rest ++ after
  begun : IsBegun from rest
  outside : (byte : ℕ) (behind : List Mark) → after ≡ Byte byte ∷ behind → IsOutside from rest byte
  no_event : (behind : List Mark) → after ≡ Sent ∷ behind → ⊥

-- nothing whole is said where the cut stops
nothing_said : (from : TalkState) (marks : List Mark) (whole : List ℕ) (more : List Mark) → Stops from marks → IsSaid from whole
    → marks ≡ said whole ++ more → ⊥
nothing_said from marks whole more stops is same =
    elim (compare stops.rest whole stops.after more (sym stops.cut ∙ same)) [
      | inl on ↦ elim stops.begun [
        | inl none ↦
            let size = ap length (sym on.1 ∙ none) in
            said_some from whole is (no_bytes whole (omega (arith, size, length-append whole on.0)))
        | inr begun ↦
            let joined : whole ++ (on.0 ++ begun.0) ≡ (stops.rest ++ begun.0) ++ []
            = sym (append_assoc whole on.0 begun.0) ∙ ap (λ bytes. bytes ++ begun.0) (sym on.1) ∙ sym (append-nil (stops.rest ++ begun.0)) in
            let equal = one_said from whole (stops.rest ++ begun.0) (on.0 ++ begun.0) [] is begun.2 joined in
            let sizes : length whole ≡ length whole + (length on.0 + length begun.0)
            = ap length equal ∙ ap length (sym (append-nil (stops.rest ++ begun.0)) ∙ sym joined) ∙ length-append whole (on.0 ++ begun.0)
            ∙ ap (λ n. length whole + n) (length-append on.0 begun.0) in
            begun.1 (no_bytes begun.0 (omega (arith, sizes)))
      ]
      | inr on ↦ stops.outside on.0 (said on.1 ++ more) on.3 on.1 (subst (λ (bytes : List ℕ). IsSaid from bytes) on.2 is)
    ]

starts_otherwise : (rest : List ℕ) (after more : List Mark) → ((behind : List Mark) → after ≡ Sent ∷ behind → ⊥) → said rest ++ after ≡ Sent ∷ more → ⊥
starts_otherwise [] after more none same = none more same
starts_otherwise (b ∷ bs) after more none same = let wrong : Byte b ≡ Sent = cc in cc

no_event_said : (from : TalkState) (marks more : List Mark) → Stops from marks → marks ≡ Sent ∷ more → ⊥
no_event_said from marks more stops same = starts_otherwise stops.rest stops.after more stops.no_event (sym stops.cut ∙ same)

-- nor does a part end there
no_part : (from : TalkState) (phrase : Phrase) (to : TalkState) (marks more : List Mark) → Stops from marks → Leads from phrase to
    → marks ≡ spelled phrase ++ more → ⊥
no_part state.Acknowledged Ready state.Ready marks more stops leads same = nothing_said state.Acknowledged marks (codes "READY\n") more stops refl same
no_part state.Ready Event state.Busy marks more stops leads same = no_event_said state.Ready marks more stops same
no_part state.Busy (Result digits body) state.Acknowledged marks more stops leads same =
    nothing_said state.Busy marks (result_text digits body) more stops (digits, body, leads, refl) same
no_part from phrase to marks more stops leads same = absurd leads

-- the part that begins at a place, and the state after it, are the only ones
record OnePart (one other : Phrase) (to also : TalkState) (more rest : List Mark) : Type 0 where
  phrase : one ≡ other
  to_is : to ≡ also
  more_is : more ≡ rest

abbrev next_of : TalkState → TalkState
next_of state.Acknowledged = state.Ready
next_of state.Ready = state.Busy
next_of state.Busy = state.Acknowledged
next_of state.Unknown = state.Unknown

leads_next : (from : TalkState) (phrase : Phrase) (to : TalkState) → Leads from phrase to → to ≡ next_of from
leads_next state.Acknowledged Ready state.Ready leads = refl
leads_next state.Ready Event state.Busy leads = refl
leads_next state.Busy (Result digits body) state.Acknowledged leads = refl
leads_next from phrase to leads = absurd leads

result_part : (digits others body other : List ℕ) (more rest : List Mark) → IsLength digits (length body) → IsLength others (length other)
    → said (result_text digits body) ++ more ≡ said (result_text others other) ++ rest → (digits ≡ others) × (body ≡ other)
result_part digits others body other more rest is also same =
    elim (compare (result_text digits body) (result_text others other) more rest same) [
      | inl on ↦
          let back = one_result others digits other body on.0 [] also is (sym on.1 ∙ sym (append-nil (result_text digits body))) in
          (sym back.0, sym back.1)
      | inr on ↦ one_result digits others body other (on.0 ∷ on.1) [] is also (sym on.2 ∙ sym (append-nil (result_text others other)))
    ]

same_part : (from : TalkState) (one other : Phrase) (more rest : List Mark) → Leads from one (next_of from) → Leads from other (next_of from)
    → spelled one ++ more ≡ spelled other ++ rest → (one ≡ other) × (more ≡ rest)
same_part state.Acknowledged Ready Ready more rest is also same = (refl, append_cancel_left (said (codes "READY\n")) more rest same)
same_part state.Ready Event Event more rest is also same = (refl, append_cancel_left (Sent ∷ []) more rest same)
same_part state.Busy (Result digits body) (Result others other) more rest is also same =
    let both = result_part digits others body other more rest is also same in
    let parts : Result digits body ≡ Result others other = ap (λ d. Result d body) both.0 ∙ ap (λ b. Result others b) both.1 in
    (parts, append_cancel_left (spelled (Result others other)) more rest (ap (λ p. spelled p ++ more) (sym parts) ∙ same))
same_part state.Acknowledged Ready other more rest is also same = absurd also
same_part state.Ready Event other more rest is also same = absurd also
same_part state.Busy (Result digits body) other more rest is also same = absurd also
same_part from one other more rest is also same = absurd is

-- two cuts have the same parts up to where they stop, and stop in one state
record SameParts (phrases others : List Phrase) (to also : TalkState) (marks behind : List Mark) : Type 0 where
  parts : phrases ≡ others
  to_is : to ≡ also
  marks_are : marks ≡ behind

same_parts : (from : TalkState) (phrases others : List Phrase) (to also : TalkState) (marks behind : List Mark)
    → IsRound from phrases to → IsRound from others also → Stops to marks → Stops also behind
    → talk_of phrases ++ marks ≡ talk_of others ++ behind → SameParts phrases others to also marks behind
same_parts from [] [] to also marks behind round round' stops stops' same =
    record { parts = refl; to_is = sym round ∙ round'; marks_are = same }
same_parts from [] (other ∷ others) to also marks behind round round' stops stops' same =
    let here : Stops from marks = subst (λ (s : TalkState). Stops s marks) (sym round) stops in
    absurd (no_part from other round'.0 marks (talk_of others ++ behind) here round'.1 (same ∙ append_assoc (spelled other) (talk_of others) behind))
same_parts from (phrase ∷ phrases) [] to also marks behind round round' stops stops' same =
    let here : Stops from behind = subst (λ (s : TalkState). Stops s behind) (sym round') stops' in
    absurd (no_part from phrase round.0 behind (talk_of phrases ++ marks) here round.1 (sym same ∙ append_assoc (spelled phrase) (talk_of phrases) marks))
same_parts from (phrase ∷ phrases) (other ∷ others) to also marks behind round round' stops stops' same =
    let one = leads_next from phrase round.0 round.1 in
    let two = leads_next from other round'.0 round'.1 in
    let first = same_part from phrase other (talk_of phrases ++ marks) (talk_of others ++ behind)
    (subst (λ (s : TalkState). Leads from phrase s) one round.1) (subst (λ (s : TalkState). Leads from other s) two round'.1)
    (sym (append_assoc (spelled phrase) (talk_of phrases) marks) ∙ same ∙ append_assoc (spelled other) (talk_of others) behind) in
    let rest = same_parts (next_of from) phrases others to also marks behind
    (subst (λ (s : TalkState). IsRound s phrases to) one round.2) (subst (λ (s : TalkState). IsRound s others also) two round'.2)
    stops stops' first.1 in
    record { parts = ap (λ p. p ∷ phrases) first.0 ∙ ap (λ ps. other ∷ ps) rest.parts; to_is = rest.to_is; marks_are = rest.marks_are }

-- how a cut ends: up to a rest that goes on, or with a byte outside
abbrev Ends : List Phrase → TalkState → List Mark → List Token → TalkState → Type 0
Ends phrases to after tokens at =
    ((after ≡ []) × (at ≡ to) × (tokens ≡ tokens_of phrases))
    ⊎ ((byte : ℕ) × (behind : List Mark) × (after ≡ Byte byte ∷ behind) × (at ≡ state.Unknown) × (tokens ≡ tokens_of phrases ++ token.Wrong ∷ []))

record Seen (talk : List Mark) (tokens : List Token) (at : TalkState) : Type 0 where
  phrases : List Phrase
  to : TalkState
  marks : List Mark
  cut : talk ≡ talk_of phrases ++ marks
  round : IsRound state.Acknowledged phrases to
  stops : Stops to marks
  ends : Ends phrases to stops.after tokens at

going_on : (talk : List Mark) (tokens : List Token) (to : TalkState) (rest : List ℕ) → GoesOn talk tokens to rest → Seen talk tokens to
going_on talk tokens to rest cut = record {
  phrases = cut.phrases;
  to = to;
  marks = said rest;
  cut = cut.cut;
  round = cut.round;
  stops = record {
    rest = rest;
    after = [];
    cut = sym (append-nil (said rest));
    begun = cut.begun;
    outside = λ byte behind none. cc;
    no_event = λ behind none. cc;
  };
  ends = inl (refl, refl, cut.tokens_are);
}

lost : (talk : List Mark) (tokens : List Token) → IsLost talk tokens → Seen talk tokens state.Unknown
lost talk tokens cut = record {
  phrases = cut.phrases;
  to = cut.to;
  marks = said cut.rest ++ Byte cut.byte ∷ cut.behind;
  cut = cut.cut ∙ append_assoc (talk_of cut.phrases) (said cut.rest) (Byte cut.byte ∷ cut.behind);
  round = cut.round;
  stops = record {
    rest = cut.rest;
    after = Byte cut.byte ∷ cut.behind;
    cut = refl;
    begun = cut.begun;
    outside = λ byte behind is. let same : cut.byte ≡ byte = cc in subst (λ (b : ℕ). IsOutside cut.to cut.rest b) same cut.outside;
    no_event = λ behind is. let wrong : Byte cut.byte ≡ Sent = cc in cc;
  };
  ends = inr (cut.byte, cut.behind, refl, refl, cut.tokens_are);
}

seen : (talk : List Mark) (tokens : List Token) (at : TalkState) → IsCut talk tokens at → Seen talk tokens at
seen talk tokens state.Acknowledged cut = going_on talk tokens state.Acknowledged cut.0 cut.1
seen talk tokens state.Ready cut = going_on talk tokens state.Ready cut.0 cut.1
seen talk tokens state.Busy cut = going_on talk tokens state.Busy cut.0 cut.1
seen talk tokens state.Unknown cut = lost talk tokens cut

-- what goes on has no byte outside
not_both : (to also : TalkState) (marks others : List Mark) (one : Stops to marks) (other : Stops also others) (byte : ℕ) (behind : List Mark)
    → to ≡ also → marks ≡ others → one.after ≡ [] → other.after ≡ Byte byte ∷ behind → ⊥
not_both to also marks others one other byte behind to_is marks_are none some =
    let same : said other.rest ++ other.after ≡ said one.rest ++ []
    = sym other.cut ∙ sym marks_are ∙ one.cut ∙ ap (λ after. said one.rest ++ after) none in
    elim (compare other.rest one.rest other.after [] same) [
      | inl on ↦
          let sizes : length (said one.rest ++ (said on.0 ++ Byte byte ∷ behind)) ≡ length (said one.rest ++ [])
          = ap length (sym (append_assoc (said one.rest) (said on.0) (Byte byte ∷ behind)) ∙ ap (λ front. front ++ Byte byte ∷ behind) (sym (map-append Byte one.rest on.0))
          ∙ ap (λ bytes. said bytes ++ Byte byte ∷ behind) (sym on.1) ∙ ap (λ after. said other.rest ++ after) (sym some) ∙ same) in
          absurd (omega (arith, sizes, length-append (said one.rest) (said on.0 ++ Byte byte ∷ behind), length-append (said on.0) (Byte byte ∷ behind), length-append (said one.rest) []))
      | inr on ↦ elim one.begun [
        | inl none' ↦
            let wrong : other.rest ++ on.0 ∷ on.1 ≡ [] = sym on.2 ∙ none' in
            absurd (omega (arith, ap length wrong, length-append other.rest (on.0 ∷ on.1)))
        | inr begun ↦
            other.outside on.0 (said on.1 ++ []) on.3 (on.1 ++ begun.0)
            (subst (λ (bytes : List ℕ). IsSaid also bytes) (ap (λ bytes. bytes ++ begun.0) on.2 ∙ append_assoc other.rest (on.0 ∷ on.1) begun.0)
            (subst (λ (s : TalkState). IsSaid s (one.rest ++ begun.0)) to_is begun.2))
      ]
    ]

-- a talk has one cut: its tokens, and the state in which it leaves the listener
pub one_talk : (talk : List Mark) (tokens others : List Token) (at also : TalkState) → IsCut talk tokens at → IsCut talk others also
    → (tokens ≡ others) × (at ≡ also)
one_talk talk tokens others at also cut cut' =
    let one = seen talk tokens at cut in
    let two = seen talk others also cut' in
    let same = same_parts state.Acknowledged one.phrases two.phrases one.to two.to one.marks two.marks one.round two.round one.stops two.stops
    (sym one.cut ∙ two.cut) in
    let told : tokens_of one.phrases ≡ tokens_of two.phrases = ap tokens_of same.parts in
    elim one.ends [
      | inl on ↦ elim two.ends [
        | inl on' ↦ (on.2 ∙ told ∙ sym on'.2, on.1 ∙ same.to_is ∙ sym on'.1)
        | inr off ↦ absurd (not_both one.to two.to one.marks two.marks one.stops two.stops off.0 off.1 same.to_is same.marks_are on.0 off.2)
      ]
      | inr off ↦ elim two.ends [
        | inl on ↦
            absurd (not_both two.to one.to two.marks one.marks two.stops one.stops off.0 off.1 (sym same.to_is) (sym same.marks_are) on.0 off.2)
        | inr off' ↦ (off.4 ∙ ap (λ front. front ++ token.Wrong ∷ []) told ∙ sym off'.4, off.3 ∙ sym off'.3)
      ]
    ]

-- and one rest
pub one_rest : (talk : List Mark) (tokens others : List Token) (to also : TalkState) (rest other : List ℕ) → GoesOn talk tokens to rest
    → GoesOn talk others also other → length rest ≡ length other
unfolding going_on
one_rest talk tokens others to also rest other cut cut' =
    let one = going_on talk tokens to rest cut in
    let two = going_on talk others also other cut' in
    let same = same_parts state.Acknowledged one.phrases two.phrases one.to two.to one.marks two.marks one.round two.round one.stops two.stops
    (sym one.cut ∙ two.cut) in
    sym (length-map rest Byte) ∙ ap length same.marks_are ∙ length-map other Byte

-- a reader in a place was told a talk that has such a cut
pub stands_cut : (at : TalkProgress) (held : List ℕ) (talk : List Mark) (tokens : List Token) → Stands at held talk tokens → IsCut talk tokens (state_of at)
stands_cut (place.Greeting count) held talk tokens stands = (stands.0, stands.1)
stands_cut place.Idle held talk tokens stands = (stands.0, stands.1)
stands_cut (place.Word count) held talk tokens stands = (stands.0, stands.1)
stands_cut (place.Length count number) held talk tokens stands = (stands.0, stands.1)
stands_cut (place.Body count number) held talk tokens stands = (stands.0, stands.1)
stands_cut place.Lost held talk tokens stands = stands
stands_cut place.Broken held talk tokens stands = absurd stands.2
