-- What a daemon and a listener keep true, whatever is done.
use Rattle.std.proofs.Common.{◌≡◌, ◌≢◌, ◌<◌, ◌^◌, ◌%◌, ◌++◌, ℕ, List, [], ◌∷◌, Bool, true, false, Option, None, Some, length, map, take, drop, codes, refl, ap, sym, ◌∙◌, subst, arith, append_assoc, append-nil, inr}
use Rattle.std.specs.Prelude.{slice_set, if◌then◌else◌}
use Rattle.std.proofs.lemmas.Grind.{flat_map-append}
use Rattle.std.proofs.lemmas.List.{map-append}
use Rattle.sv_listener.specs.Answers.{answer_of, ready, result_of}
use Rattle.sv_listener.specs.declared.handler.Verdict.{Verdict}
use Rattle.sv_listener.specs.declared.handler.Verdict.TheVariants as verdict
use Rattle.sv_listener_laws.proofs.Envelopes.{AllCan, envelope, envelopes}
use Rattle.sv_listener_laws.proofs.Outcomes.{can_append, can_drop}
use Rattle.sv_listener_laws.specs.BothEnds.{IsSound, Names, State}
use Rattle.sv_listener_laws.specs.InStep.{result_body, results_in, with_fail, with_ok}
use Rattle.sv_events.specs.declared.event.Event.{Event as AnEvent}
use Rattle.sv_pipes.proofs.TalkReading.{cut_of_talk}
use Rattle.sv_pipes.specs.Talk.{GoesOn, IsBegun, IsCut, IsRound, Leads, Mark, Phrase, said, spelled, talk_of, told_by, tokens_of}
use Rattle.sv_pipes.specs.Talk.Mark.{Byte}
use Rattle.sv_pipes.specs.Talk.Phrase.{Result}
use Rattle.sv_pipes.specs.TalkCut.{talk_state, talk_tokens}
use Rattle.sv_pipes.specs.declared.tokens.TalkState.{TalkState}
use Rattle.sv_pipes.specs.declared.tokens.TalkState.TheVariants as talks
use Rattle.sv_pipes.specs.declared.tokens.Token.{Token}
use Rattle.sv_pool.specs.PoolLists.{Lists, accepted, has_room, holding, make_room, numbered}
use Rattle.sv_pool.specs.declared.taken.Taken.{Taken}

-- where the last event is, or its answer
pub data Place (names : Names) (at : TalkState) (rest : List ℕ) (done : List Taken) (settled : List Verdict)
    (held : Option Taken) (handed : List Taken) (verdicts : List Verdict) (to_listener to_daemon stream : List ℕ) : Type 0 where
  -- `READY` is on its way
  greets : (more : ℕ) (left : List ℕ) → at ≡ talks.Acknowledged → to_daemon ≡ more ∷ left → rest ++ more ∷ left ≡ ready → held ≡ None
      → handed ≡ done → verdicts ≡ settled → to_listener ≡ [] → stream ≡ envelopes names done
      → Place names at rest done settled held handed verdicts to_listener to_daemon stream
  -- nothing is on its way
  waits : at ≡ talks.Ready → to_daemon ≡ [] → rest ≡ [] → held ≡ None
      → handed ≡ done → verdicts ≡ settled → to_listener ≡ [] → stream ≡ envelopes names done
      → Place names at rest done settled held handed verdicts to_listener to_daemon stream
  -- an event is on its way
  travels : (taken : Taken) (front : List ℕ) (more : ℕ) (left : List ℕ) → at ≡ talks.Busy → to_daemon ≡ [] → rest ≡ [] → held ≡ Some taken
      → handed ≡ done ++ taken ∷ [] → verdicts ≡ settled → to_listener ≡ more ∷ left → front ++ more ∷ left ≡ envelope names taken
      → stream ≡ envelopes names done ++ front
      → Place names at rest done settled held handed verdicts to_listener to_daemon stream
  -- a result is on its way
  answers : (taken : Taken) (v : Verdict) (more : ℕ) (left : List ℕ) → at ≡ talks.Busy → rest ++ to_daemon ≡ answer_of v → rest ++ more ∷ left ≡ result_of v
      → held ≡ Some taken → handed ≡ done ++ taken ∷ [] → verdicts ≡ settled ++ v ∷ [] → to_listener ≡ [] → stream ≡ envelopes names handed
      → Place names at rest done settled held handed verdicts to_listener to_daemon stream

pub record Keeps (names : Names) (state : State) : Type 0 where
  -- the cut of the talk: its parts, where they lead, and what stands after them
  pub phrases : List Phrase
  pub at : TalkState
  pub rest : List ℕ
  pub cut : state.talk ≡ talk_of phrases ++ said rest
  pub round : IsRound talks.Acknowledged phrases at
  pub begun : IsBegun at rest
  pub known : at ≢ talks.Unknown
  -- the events whose results arrived, with their verdicts
  pub done : List Taken
  pub settled : List Verdict
  pub results : results_in (tokens_of phrases) ≡ map result_body settled
  pub each : length settled ≡ length done
  pub acknowledged : state.pool.acknowledged ≡ with_ok done settled
  pub returned : state.returned ≡ with_fail done settled
  -- the pool
  pub one : length state.pool.held ≡ 1
  pub waiting : AllCan state.pool.waiting
  pub can : AllCan state.handed
  pub place : Place names at rest done settled (holding 0 state.pool.held) state.handed state.verdicts state.to_listener state.to_daemon state.stream

-- ---- the talk

pub is_cut : (talk : List Mark) (phrases : List Phrase) (at : TalkState) (rest : List ℕ) → talk ≡ talk_of phrases ++ said rest
    → IsRound talks.Acknowledged phrases at → IsBegun at rest → at ≢ talks.Unknown → IsCut talk (tokens_of phrases) at
is_cut talk phrases at rest cut round begun known = by_state at known (record { phrases = phrases; cut = cut; round = round; begun = begun; tokens_are = refl })
  where
    by_state : (at : TalkState) → at ≢ talks.Unknown → GoesOn talk (tokens_of phrases) at rest → IsCut talk (tokens_of phrases) at
    by_state talks.Acknowledged known goes = (rest, goes)
    by_state talks.Ready known goes = (rest, goes)
    by_state talks.Busy known goes = (rest, goes)
    by_state talks.Unknown known goes = absurd (known refl)

pub read_cut : (talk : List Mark) (phrases : List Phrase) (at : TalkState) (rest : List ℕ) → talk ≡ talk_of phrases ++ said rest
    → IsRound talks.Acknowledged phrases at → IsBegun at rest → at ≢ talks.Unknown → (tokens_of phrases ≡ talk_tokens talk) × (at ≡ talk_state talk)
read_cut talk phrases at rest cut round begun known = cut_of_talk talk (tokens_of phrases) at (is_cut talk phrases at rest cut round begun known)

-- more bytes are said
pub said_on : (talk : List Mark) (phrases : List Phrase) (rest piece : List ℕ) → talk ≡ talk_of phrases ++ said rest
    → talk ++ said piece ≡ talk_of phrases ++ said (rest ++ piece)
said_on talk phrases rest piece cut =
    ap (λ (t : List Mark). t ++ said piece) cut ∙ append_assoc (talk_of phrases) (said rest) (said piece)
    ∙ ap (λ (t : List Mark). talk_of phrases ++ t) (sym (map-append Byte rest piece))

-- a part that is said whole, and what is said after it
pub part_on : (phrases : List Phrase) (phrase : Phrase) (text behind : List ℕ) → spelled phrase ≡ said text
    → talk_of phrases ++ said (text ++ behind) ≡ talk_of (phrases ++ phrase ∷ []) ++ said behind
part_on phrases phrase text behind spells =
    ap (λ (t : List Mark). talk_of phrases ++ t) (map-append Byte text behind)
    ∙ sym (append_assoc (talk_of phrases) (said text) (said behind))
    ∙ ap (λ (t : List Mark). (talk_of phrases ++ t) ++ said behind) (sym spells ∙ sym (append-nil (spelled phrase)))
    ∙ ap (λ (t : List Mark). t ++ said behind) (sym (flat_map-append spelled phrases (phrase ∷ [])))

pub tokens_on : (phrases : List Phrase) (phrase : Phrase) → tokens_of (phrases ++ phrase ∷ []) ≡ tokens_of phrases ++ told_by phrase
tokens_on phrases phrase =
    flat_map-append told_by phrases (phrase ∷ []) ∙ ap (λ (t : List Token). tokens_of phrases ++ t) (append-nil (told_by phrase))

-- the result of a verdict
abbrev pub digits_of : Verdict → List ℕ
digits_of verdict.Ok = codes "2"
digits_of verdict.Fail = codes "4"

pub result_spelled : (v : Verdict) → spelled (Result (digits_of v) (result_body v)) ≡ said (result_of v)
result_spelled verdict.Ok = refl
result_spelled verdict.Fail = refl

pub result_leads : (v : Verdict) → Leads talks.Busy (Result (digits_of v) (result_body v)) talks.Acknowledged
result_leads verdict.Ok = record { decimal = refl; least = omega arith; most = omega arith; number_is = refl; limit = omega arith }
result_leads verdict.Fail = record { decimal = refl; least = omega arith; most = omega arith; number_is = refl; limit = omega arith }

-- a result is begun
pub result_begun : (v : Verdict) (rest : List ℕ) (more : ℕ) (left : List ℕ) → rest ++ more ∷ left ≡ result_of v → IsBegun talks.Busy rest
result_begun verdict.Ok rest more left same = inr (more ∷ left, (λ none. cc), (digits_of verdict.Ok, result_body verdict.Ok, result_leads verdict.Ok, same))
result_begun verdict.Fail rest more left same = inr (more ∷ left, (λ none. cc), (digits_of verdict.Fail, result_body verdict.Fail, result_leads verdict.Fail, same))

pub ready_begun : (rest : List ℕ) (more : ℕ) (left : List ℕ) → rest ++ more ∷ left ≡ ready → IsBegun talks.Acknowledged rest
ready_begun rest more left same = inr (more ∷ left, (λ none. cc), same)

-- ---- the pool

pub one_held : (held : List (Option Taken)) (new : Option Taken) → length held ≡ 1 → (length (slice_set held 0 new) ≡ 1) × (holding 0 (slice_set held 0 new) ≡ new)
one_held [] new one = absurd (omega (arith, one))
one_held (old ∷ []) new one = (refl, refl)
one_held (old ∷ other ∷ held) new one = absurd (omega (arith, one))

pub room_held : (lists : Lists) → (make_room lists).held ≡ lists.held
room_held lists = by_room (has_room lists)
  where
    by_room : (room : Bool) → (if room then lists else record lists { waiting = drop 1 lists.waiting; dropped = lists.dropped ++ take 1 lists.waiting }).held ≡ lists.held
    by_room true = refl
    by_room false = refl

pub room_acknowledged : (lists : Lists) → (make_room lists).acknowledged ≡ lists.acknowledged
room_acknowledged lists = by_room (has_room lists)
  where
    by_room : (room : Bool) → (if room then lists else record lists { waiting = drop 1 lists.waiting; dropped = lists.dropped ++ take 1 lists.waiting }).acknowledged ≡ lists.acknowledged
    by_room true = refl
    by_room false = refl

pub room_can : (lists : Lists) → AllCan lists.waiting → AllCan (make_room lists).waiting
room_can lists can = by_room (has_room lists)
  where
    by_room : (room : Bool) → AllCan (if room then lists else record lists { waiting = drop 1 lists.waiting; dropped = lists.dropped ++ take 1 lists.waiting }).waiting
    by_room true = can
    by_room false = can_drop lists.waiting can

-- ---- an event is accepted

pub kept_accept : (names : Names) (state : State) (event : AnEvent) → Keeps names state → IsSound event
    → Keeps names (record state { pool = accepted event state.pool })
kept_accept names state event k sound =
    let P : Option Taken → Type 0 = λ held. Place names k.at k.rest k.done k.settled held state.handed state.verdicts state.to_listener state.to_daemon state.stream in
    record {
      phrases = k.phrases;
      at = k.at;
      rest = k.rest;
      cut = k.cut;
      round = k.round;
      begun = k.begun;
      known = k.known;
      done = k.done;
      settled = k.settled;
      results = k.results;
      each = k.each;
      acknowledged = room_acknowledged state.pool ∙ k.acknowledged;
      returned = k.returned;
      one = ap length (room_held state.pool) ∙ k.one;
      waiting = can_append (make_room state.pool).waiting (numbered event state.pool.taken ∷ []) (room_can state.pool k.waiting)
          (record { sound = sound; number = below_limit state.pool.taken }, tt);
      can = k.can;
      place = subst P (ap (λ (held : List (Option Taken)). holding 0 held) (sym (room_held state.pool))) k.place;
    }
  where
    below_limit : (number : ℕ) → number % 2 ^ 64 < 2 ^ 64
    below_limit number = omega arith
