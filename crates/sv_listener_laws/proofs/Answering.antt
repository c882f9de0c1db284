-- Bytes arrive at the daemon.
use Rattle.std.proofs.Common.{◌≡◌, ◌≢◌, ◌++◌, ℕ, zero, suc, List, [], ◌∷◌, Option, None, Some, length, map, take, drop, refl, ap, sym, ◌∙◌, subst, arith, append_assoc, append-nil, length-append, inl}
use Rattle.std.specs.Prelude.{slice_set}
use Rattle.std.specs.Option.{option_to_list}
use Rattle.std.proofs.Math.Seq.{drop-append_seam}
use Rattle.std.proofs.lemmas.List.{take-append-drop}
use Rattle.sv_listener.specs.Answers.{ready, result_of}
use Rattle.sv_listener.specs.declared.handler.Verdict.{Verdict}
use Rattle.sv_listener.specs.declared.handler.Verdict.TheVariants as verdict
use Rattle.sv_listener.proofs.Written.{Splits, splits}
use Rattle.sv_listener.proofs.Written.Splits.{within, behind}
use Rattle.sv_listener_laws.proofs.Envelopes.{AllCan, CanBeHeard, envelopes}
use Rattle.sv_listener_laws.proofs.Keeping.{Keeps, Place, digits_of, one_held, part_on, read_cut, ready_begun, result_begun, result_leads, result_spelled, room_acknowledged, room_can, said_on, tokens_on}
use Rattle.sv_listener_laws.proofs.Keeping.Place.{greets, waits, travels, answers}
use Rattle.sv_listener_laws.proofs.Outcomes.{can_append, can_last, results_more, with_fail_more, with_ok_more}
use Rattle.sv_listener_laws.specs.BothEnds.{Names, State, done_with, gives_back, reads, settles_all}
use Rattle.sv_listener_laws.specs.InStep.{result_body, results_in, with_fail, with_ok}
use Rattle.sv_pipes.proofs.Talks.{round_more}
use Rattle.sv_pipes.specs.Talk.{IsBegun, IsRound, Mark, Phrase, said, talk_of, tokens_of}
use Rattle.sv_pipes.specs.Talk.Phrase.{Ready, Result}
use Rattle.sv_pipes.specs.TalkCut.{talk_tokens}
use Rattle.sv_pipes.specs.declared.tokens.TalkState.{TalkState}
use Rattle.sv_pipes.specs.declared.tokens.TalkState.TheVariants as talks
use Rattle.sv_pipes.specs.declared.tokens.Token.{Token}
use Rattle.sv_pipes.specs.declared.tokens.Token.TheVariants as token
use Rattle.sv_pool.specs.PoolLists.{holding}
use Rattle.sv_pool.specs.declared.taken.Taken.{Taken}

-- the daemon has read this
abbrev pub spoken : State → List ℕ → List ℕ → State
spoken state piece left = record state { talk = state.talk ++ said piece; to_daemon = left }

-- the tokens that further bytes end
new_tokens : (talk : List Mark) (piece : List ℕ) (earlier later : List Token) → earlier ≡ talk_tokens talk → later ≡ talk_tokens (talk ++ said piece)
    → (new : List Token) → later ≡ earlier ++ new → drop (length (talk_tokens talk)) (talk_tokens (talk ++ said piece)) ≡ new
new_tokens talk piece earlier later was is new more =
    ap (λ (t : List Token). drop (length t) (talk_tokens (talk ++ said piece))) (sym was)
    ∙ ap (λ (t : List Token). drop (length earlier) t) (sym is ∙ more) ∙ drop-append_seam earlier new

-- what is read, by the cut of the longer talk
by_cut : (names : Names) (state : State) (k : Keeps names state) (piece left : List ℕ) (phrases : List Phrase) (at : TalkState) (rest : List ℕ) (new : List Token)
    → state.talk ++ said piece ≡ talk_of phrases ++ said rest → IsRound talks.Acknowledged phrases at → IsBegun at rest → at ≢ talks.Unknown
    → tokens_of phrases ≡ tokens_of k.phrases ++ new → Keeps names (settles_all (spoken state piece left) new) → Keeps names (reads state piece left)
by_cut names state k piece left phrases at rest new cut round begun known tokens keeps =
    let P : List Token → Type 0 = λ t. Keeps names (settles_all (spoken state piece left) t) in
    subst P (sym (new_tokens state.talk piece (tokens_of k.phrases) (tokens_of phrases)
    (read_cut state.talk k.phrases k.at k.rest k.cut k.round k.begun k.known).0
    (read_cut (state.talk ++ said piece) phrases at rest cut round begun known).0 new tokens)) keeps

-- the same parts, and more after them
same_parts : (names : Names) (state : State) (k : Keeps names state) (piece left : List ℕ) → IsBegun k.at (k.rest ++ piece)
    → Place names k.at (k.rest ++ piece) k.done k.settled (holding 0 state.pool.held) state.handed state.verdicts state.to_listener left state.stream
    → Keeps names (reads state piece left)
same_parts names state k piece left begun place =
    let cut = said_on state.talk k.phrases k.rest piece k.cut in
    by_cut names state k piece left k.phrases k.at (k.rest ++ piece) [] cut k.round begun k.known (sym (append-nil (tokens_of k.phrases)))
    (record {
      phrases = k.phrases;
      at = k.at;
      rest = k.rest ++ piece;
      cut = cut;
      round = k.round;
      begun = begun;
      known = k.known;
      done = k.done;
      settled = k.settled;
      results = k.results;
      each = k.each;
      acknowledged = k.acknowledged;
      returned = k.returned;
      one = k.one;
      waiting = k.waiting;
      can = k.can;
      place = place;
    })

-- ---- `READY` arrives

ready_whole : (names : Names) (state : State) (k : Keeps names state) (piece : List ℕ) → k.at ≡ talks.Acknowledged → k.rest ++ piece ≡ ready
    → holding 0 state.pool.held ≡ None → state.handed ≡ k.done → state.verdicts ≡ k.settled → state.to_listener ≡ [] → state.stream ≡ envelopes names k.done
    → Keeps names (reads state piece [])
ready_whole names state k piece at text held handed verdicts empty stream =
    let cut : state.talk ++ said piece ≡ talk_of (k.phrases ++ Ready ∷ []) ++ said []
    = said_on state.talk k.phrases k.rest piece k.cut ∙ ap (λ (r : List ℕ). talk_of k.phrases ++ said r) text ∙ part_on k.phrases Ready ready [] refl in
    let round : IsRound talks.Acknowledged (k.phrases ++ Ready ∷ []) talks.Ready
    = round_more talks.Acknowledged k.phrases talks.Acknowledged Ready talks.Ready (subst (λ (s : TalkState). IsRound talks.Acknowledged k.phrases s) at k.round) tt in
    by_cut names state k piece [] (k.phrases ++ Ready ∷ []) talks.Ready [] (token.Ready ∷ []) cut round (inl refl) (λ wrong. cc) (tokens_on k.phrases Ready)
    (record {
      phrases = k.phrases ++ Ready ∷ [];
      at = talks.Ready;
      rest = [];
      cut = cut;
      round = round;
      begun = inl refl;
      known = λ wrong. cc;
      done = k.done;
      settled = k.settled;
      results = ap (λ (t : List Token). results_in t) (tokens_on k.phrases Ready) ∙ no_result (tokens_of k.phrases) ∙ k.results;
      each = k.each;
      acknowledged = k.acknowledged;
      returned = k.returned;
      one = k.one;
      waiting = k.waiting;
      can = k.can;
      place = waits refl refl refl held handed verdicts empty stream;
    })
  where
    no_result : (tokens : List Token) → results_in (tokens ++ token.Ready ∷ []) ≡ results_in tokens
    no_result [] = refl
    no_result (token.Ready ∷ tokens) = no_result tokens
    no_result (token.Result body ∷ tokens) = ap (λ (l : List (List ℕ)). body ∷ l) (no_result tokens)
    no_result (token.Wrong ∷ tokens) = no_result tokens

-- ---- a result arrives

-- the event is acknowledged, or given back
abbrev pub settled_by : Verdict → State → State
settled_by verdict.Ok state = done_with state
settled_by verdict.Fail state = gives_back state

settles_as : (v : Verdict) (state : State) (more : List Token) → settles_all state (token.Result (result_body v) ∷ more) ≡ settles_all (settled_by v state) more
settles_as verdict.Ok state more = refl
settles_as verdict.Fail state more = refl

-- what stays the same in both
pub record SettledAs (names : Names) (state : State) (done : List Taken) (settled : List Verdict) : Type 0 where
  pub acknowledged : state.pool.acknowledged ≡ with_ok done settled
  pub returned : state.returned ≡ with_fail done settled
  pub one : length state.pool.held ≡ 1
  pub free : holding 0 state.pool.held ≡ None
  pub waiting : AllCan state.pool.waiting

with_none : (l : List Taken) → l ≡ l ++ []
with_none l = sym (append-nil l)

settled_as : (names : Names) (state : State) (k : Keeps names state) (taken : Taken) (v : Verdict) → holding 0 state.pool.held ≡ Some taken → CanBeHeard taken
    → SettledAs names (settled_by v state) (k.done ++ taken ∷ []) (k.settled ++ v ∷ [])
settled_as names state k taken verdict.Ok held can =
    let freed = one_held state.pool.held None k.one in
    record {
      acknowledged =
          ap (λ (l : List Taken). l ++ option_to_list (holding 0 state.pool.held)) k.acknowledged
          ∙ ap (λ (o : Option Taken). with_ok k.done k.settled ++ option_to_list o) held
          ∙ sym (with_ok_more k.done k.settled (taken ∷ []) (verdict.Ok ∷ []) k.each);
      returned = k.returned ∙ with_none (with_fail k.done k.settled) ∙ sym (with_fail_more k.done k.settled (taken ∷ []) (verdict.Ok ∷ []) k.each);
      one = freed.0;
      free = freed.1;
      waiting = k.waiting;
    }
settled_as names state k taken verdict.Fail held can =
    let freed = one_held state.pool.held None k.one in
    let P : Option Taken → Type 0 = λ o. AllCan (option_to_list o) in
    record {
      acknowledged =
          room_acknowledged state.pool ∙ k.acknowledged ∙ with_none (with_ok k.done k.settled)
          ∙ sym (with_ok_more k.done k.settled (taken ∷ []) (verdict.Fail ∷ []) k.each);
      returned =
          ap (λ (l : List Taken). l ++ option_to_list (holding 0 state.pool.held)) k.returned
          ∙ ap (λ (o : Option Taken). with_fail k.done k.settled ++ option_to_list o) held
          ∙ sym (with_fail_more k.done k.settled (taken ∷ []) (verdict.Fail ∷ []) k.each);
      one = freed.0;
      free = freed.1;
      waiting = can_append (option_to_list (holding 0 state.pool.held)) _ (subst P (sym held) (can, tt)) (room_can state.pool k.waiting);
    }

-- the state after a result, by what stands after it
settled_keeps : (names : Names) (state : State) (k : Keeps names state) (piece left : List ℕ) (taken : Taken) (v : Verdict) (phrases : List Phrase) (at : TalkState) (rest : List ℕ)
    → state.talk ++ said piece ≡ talk_of phrases ++ said rest → IsRound talks.Acknowledged phrases at → IsBegun at rest → at ≢ talks.Unknown
    → results_in (tokens_of phrases) ≡ map result_body (k.settled ++ v ∷ []) → holding 0 state.pool.held ≡ Some taken → CanBeHeard taken
    → ((held : Option Taken) → held ≡ None → Place names at rest (k.done ++ taken ∷ []) (k.settled ++ v ∷ []) held state.handed state.verdicts state.to_listener left state.stream)
    → Keeps names (settled_by v (spoken state piece left))
settled_keeps names state k piece left taken v phrases at rest cut round begun known results held can place = by_verdict v results place (settled_as names state k taken v held can)
  where
    counts : (v : Verdict) → length (k.settled ++ v ∷ []) ≡ length (k.done ++ taken ∷ [])
    counts v = omega (arith, length-append k.settled (v ∷ []), length-append k.done (taken ∷ []), k.each)

    by_verdict : (v : Verdict) → results_in (tokens_of phrases) ≡ map result_body (k.settled ++ v ∷ [])
        → ((held : Option Taken) → held ≡ None → Place names at rest (k.done ++ taken ∷ []) (k.settled ++ v ∷ []) held state.handed state.verdicts state.to_listener left state.stream)
        → SettledAs names (settled_by v state) (k.done ++ taken ∷ []) (k.settled ++ v ∷ []) → Keeps names (settled_by v (spoken state piece left))
    by_verdict verdict.Ok results place is = record {
      phrases = phrases;
      at = at;
      rest = rest;
      cut = cut;
      round = round;
      begun = begun;
      known = known;
      done = k.done ++ taken ∷ [];
      settled = k.settled ++ verdict.Ok ∷ [];
      results = results;
      each = counts verdict.Ok;
      acknowledged = is.acknowledged;
      returned = is.returned;
      one = is.one;
      waiting = is.waiting;
      can = k.can;
      place = place (holding 0 (slice_set state.pool.held 0 None)) is.free;
    }
    by_verdict verdict.Fail results place is = record {
      phrases = phrases;
      at = at;
      rest = rest;
      cut = cut;
      round = round;
      begun = begun;
      known = known;
      done = k.done ++ taken ∷ [];
      settled = k.settled ++ verdict.Fail ∷ [];
      results = results;
      each = counts verdict.Fail;
      acknowledged = is.acknowledged;
      returned = is.returned;
      one = is.one;
      waiting = is.waiting;
      can = k.can;
      place = place (holding 0 (slice_set state.pool.held 0 None)) is.free;
    }

-- a result is whole, and `READY` after it is said in part or whole
result_whole : (names : Names) (state : State) (k : Keeps names state) (piece left : List ℕ) (taken : Taken) (v : Verdict) (text : List ℕ)
    → k.at ≡ talks.Busy → k.rest ++ piece ≡ result_of v ++ text → ready ≡ text ++ left → holding 0 state.pool.held ≡ Some taken
    → state.handed ≡ k.done ++ taken ∷ [] → state.verdicts ≡ k.settled ++ v ∷ [] → state.to_listener ≡ [] → state.stream ≡ envelopes names state.handed
    → Keeps names (reads state piece left)
result_whole names state k piece left taken v text at parts tail held handed verdicts empty stream = by_left left tail
  where
    result : Phrase
    result = Result (digits_of v) (result_body v)

    phrases : List Phrase
    phrases = k.phrases ++ Result (digits_of v) (result_body v) ∷ []

    can : CanBeHeard taken
    can = can_last k.done taken (subst (λ (l : List Taken). AllCan l) handed k.can)

    sent : state.stream ≡ envelopes names (k.done ++ taken ∷ [])
    sent = stream ∙ ap (λ (l : List Taken). envelopes names l) handed

    cut : (text : List ℕ) → k.rest ++ piece ≡ result_of v ++ text
        → state.talk ++ said piece ≡ talk_of (k.phrases ++ Result (digits_of v) (result_body v) ∷ []) ++ said text
    cut text parts =
        said_on state.talk k.phrases k.rest piece k.cut ∙ ap (λ (r : List ℕ). talk_of k.phrases ++ said r) parts
        ∙ part_on k.phrases (Result (digits_of v) (result_body v)) (result_of v) text (result_spelled v)

    round : IsRound talks.Acknowledged (k.phrases ++ Result (digits_of v) (result_body v) ∷ []) talks.Acknowledged
    round = round_more talks.Acknowledged k.phrases talks.Busy (Result (digits_of v) (result_body v)) talks.Acknowledged
        (subst (λ (s : TalkState). IsRound talks.Acknowledged k.phrases s) at k.round) (result_leads v)

    tokens : tokens_of (k.phrases ++ Result (digits_of v) (result_body v) ∷ []) ≡ tokens_of k.phrases ++ token.Result (result_body v) ∷ []
    tokens = tokens_on k.phrases (Result (digits_of v) (result_body v))

    by_left : (left : List ℕ) → ready ≡ text ++ left → Keeps names (reads state piece left)
    by_left (more ∷ left) tail =
        let begun : IsBegun talks.Acknowledged text = ready_begun text more left (sym tail) in
        let P : State → Type 0 = λ s. Keeps names s in
        by_cut names state k piece (more ∷ left) (k.phrases ++ Result (digits_of v) (result_body v) ∷ []) talks.Acknowledged text (token.Result (result_body v) ∷ [])
        (cut text parts) round begun (λ wrong. cc) tokens
        (subst P (sym (settles_as v (spoken state piece (more ∷ left)) []))
        (settled_keeps names state k piece (more ∷ left) taken v (k.phrases ++ Result (digits_of v) (result_body v) ∷ []) talks.Acknowledged text
        (cut text parts) round begun (λ wrong. cc)
        (ap (λ (t : List Token). results_in t) tokens ∙ results_more (tokens_of k.phrases) (token.Result (result_body v) ∷ []) k.settled v k.results refl)
        held can (λ now free. greets more left refl refl (sym tail) free handed verdicts empty sent)))
    by_left [] tail =
        let all : k.rest ++ piece ≡ result_of v ++ ready = parts ∙ ap (λ (t : List ℕ). result_of v ++ t) (sym (append-nil text) ∙ sym tail) in
        let P : State → Type 0 = λ s. Keeps names s in
        let longer : List Phrase = (k.phrases ++ Result (digits_of v) (result_body v) ∷ []) ++ Ready ∷ [] in
        let cut_all : state.talk ++ said piece ≡ talk_of ((k.phrases ++ Result (digits_of v) (result_body v) ∷ []) ++ Ready ∷ []) ++ said []
        = cut ready all ∙ part_on (k.phrases ++ Result (digits_of v) (result_body v) ∷ []) Ready ready [] refl in
        let round_all : IsRound talks.Acknowledged ((k.phrases ++ Result (digits_of v) (result_body v) ∷ []) ++ Ready ∷ []) talks.Ready
        = round_more talks.Acknowledged (k.phrases ++ Result (digits_of v) (result_body v) ∷ []) talks.Acknowledged Ready talks.Ready round tt in
        let tokens_all : tokens_of ((k.phrases ++ Result (digits_of v) (result_body v) ∷ []) ++ Ready ∷ []) ≡ tokens_of k.phrases ++ token.Result (result_body v) ∷ token.Ready ∷ []
        = tokens_on (k.phrases ++ Result (digits_of v) (result_body v) ∷ []) Ready ∙ ap (λ (t : List Token). t ++ token.Ready ∷ []) tokens
        ∙ append_assoc (tokens_of k.phrases) (token.Result (result_body v) ∷ []) (token.Ready ∷ []) in
        by_cut names state k piece [] longer talks.Ready [] (token.Result (result_body v) ∷ token.Ready ∷ [])
        cut_all round_all (inl refl) (λ wrong. cc) tokens_all
        (subst P (sym (settles_as v (spoken state piece []) (token.Ready ∷ [])))
        (settled_keeps names state k piece [] taken v longer talks.Ready []
        cut_all round_all (inl refl) (λ wrong. cc)
        (ap (λ (t : List Token). results_in t) tokens_all ∙ results_more (tokens_of k.phrases) (token.Result (result_body v) ∷ token.Ready ∷ []) k.settled v k.results refl)
        held can (λ now free. waits refl refl refl free handed verdicts empty sent)))

-- ---- any bytes

take_none : (count : ℕ) → take {A = ℕ} count [] ≡ []
take_none zero = refl
take_none (suc count) = refl

drop_none : (count : ℕ) → drop {A = ℕ} count [] ≡ []
drop_none zero = refl
drop_none (suc count) = refl

pub kept_answer : (names : Names) (state : State) (count : ℕ) → Keeps names state
    → Keeps names (reads state (take count state.to_daemon) (drop count state.to_daemon))
kept_answer names state count k = by_place k.place
  where
    parts : take count state.to_daemon ++ drop count state.to_daemon ≡ state.to_daemon
    parts = take-append-drop count state.to_daemon

    -- nothing was on its way
    silent : state.to_daemon ≡ [] → k.rest ≡ []
        → ((rest left : List ℕ) → rest ≡ [] → left ≡ []
        → Place names k.at rest k.done k.settled (holding 0 state.pool.held) state.handed state.verdicts state.to_listener left state.stream)
        → Keeps names (reads state (take count state.to_daemon) (drop count state.to_daemon))
    silent none rest place =
        let piece : take count state.to_daemon ≡ [] = ap (λ (l : List ℕ). take count l) none ∙ take_none count in
        let left : drop count state.to_daemon ≡ [] = ap (λ (l : List ℕ). drop count l) none ∙ drop_none count in
        let both : k.rest ++ take count state.to_daemon ≡ [] = ap (λ (r : List ℕ). r ++ take count state.to_daemon) rest ∙ piece in
        same_parts names state k (take count state.to_daemon) (drop count state.to_daemon) (inl both)
        (place (k.rest ++ take count state.to_daemon) (drop count state.to_daemon) both left)

    greeting : (piece left : List ℕ) → k.at ≡ talks.Acknowledged → (k.rest ++ piece) ++ left ≡ ready
        → holding 0 state.pool.held ≡ None → state.handed ≡ k.done → state.verdicts ≡ k.settled → state.to_listener ≡ [] → state.stream ≡ envelopes names k.done
        → Keeps names (reads state piece left)
    greeting piece [] at text held handed verdicts empty stream =
        ready_whole names state k piece at (sym (append-nil (k.rest ++ piece)) ∙ text) held handed verdicts empty stream
    greeting piece (more ∷ left) at text held handed verdicts empty stream =
        same_parts names state k piece (more ∷ left)
        (subst (λ (s : TalkState). IsBegun s (k.rest ++ piece)) (sym at) (ready_begun (k.rest ++ piece) more left text))
        (greets more left at refl text held handed verdicts empty stream)

    answering : (piece left : List ℕ) (taken : Taken) (v : Verdict) → k.at ≡ talks.Busy → (k.rest ++ piece) ++ left ≡ result_of v ++ ready
        → holding 0 state.pool.held ≡ Some taken → state.handed ≡ k.done ++ taken ∷ [] → state.verdicts ≡ k.settled ++ v ∷ [] → state.to_listener ≡ []
        → state.stream ≡ envelopes names state.handed → Keeps names (reads state piece left)
    answering piece left taken v at text held handed verdicts empty stream = by_split (splits (k.rest ++ piece) left (result_of v) ready text)
      where
        by_split : Splits (k.rest ++ piece) left (result_of v) ready → Keeps names (reads state piece left)
        by_split (within more further is after) =
            same_parts names state k piece left
            (subst (λ (s : TalkState). IsBegun s (k.rest ++ piece)) (sym at) (result_begun v (k.rest ++ piece) more further (sym is)))
            (answers taken v more further at text (sym is) held handed verdicts empty stream)
        by_split (behind further is after) = result_whole names state k piece left taken v further at is after held handed verdicts empty stream

    by_place : Place names k.at k.rest k.done k.settled (holding 0 state.pool.held) state.handed state.verdicts state.to_listener state.to_daemon state.stream
        → Keeps names (reads state (take count state.to_daemon) (drop count state.to_daemon))
    by_place (greets more left at way text held handed verdicts empty stream) =
        greeting (take count state.to_daemon) (drop count state.to_daemon) at
        (append_assoc k.rest (take count state.to_daemon) (drop count state.to_daemon) ∙ ap (λ (l : List ℕ). k.rest ++ l) (parts ∙ way) ∙ text)
        held handed verdicts empty stream
    by_place (waits at none rest held handed verdicts empty stream) =
        silent none rest (λ now left is also. waits at also is held handed verdicts empty stream)
    by_place (travels taken front more left at none rest held handed verdicts way same stream) =
        silent none rest (λ now left' is also. travels taken front more left at also is held handed verdicts way same stream)
    by_place (answers taken v more left at text open_result held handed verdicts empty stream) =
        answering (take count state.to_daemon) (drop count state.to_daemon) taken v at
        (append_assoc k.rest (take count state.to_daemon) (drop count state.to_daemon) ∙ ap (λ (l : List ℕ). k.rest ++ l) parts ∙ text)
        held handed verdicts empty stream
