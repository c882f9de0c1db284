-- Bytes arrive at the listener.
use Rattle.std.proofs.Common.{◌≡◌, ◌+◌, ◌-◌, ◌++◌, ℕ, zero, suc, List, [], ◌∷◌, Some, length, map, take, drop, replicate, refl, ap, sym, ◌∙◌, subst, arith, append_assoc, append-nil, length-append}
use Rattle.std.proofs.lemmas.Grind.{flat_map-append}
use Rattle.std.proofs.lemmas.List.{map-append, take-append-drop}
use Rattle.sv_listener.specs.Answers.{answer_of, result_of}
use Rattle.sv_listener.specs.Answers.{answers as said_over}
use Rattle.sv_listener.specs.Hearing.{hearing_of}
use Rattle.sv_listener.specs.declared.events.Heard.{Heard}
use Rattle.sv_listener.specs.declared.handler.Verdict.{Verdict}
use Rattle.sv_listener.specs.declared.handler.Verdict.TheVariants as verdict
use Rattle.sv_listener_laws.proofs.Envelopes.{AllCan, CanBeHeard, envelope, envelopes, hears_all, hears_front}
use Rattle.sv_listener_laws.proofs.Keeping.{Keeps, Place}
use Rattle.sv_listener_laws.proofs.Keeping.Place.{greets, waits, travels, answers}
use Rattle.sv_listener_laws.proofs.Outcomes.{can_front, can_last}
use Rattle.sv_listener_laws.specs.BothEnds.{AreFit, Names, State, completed, hears}
use Rattle.sv_listener_laws.specs.InStep.{heard_as}
use Rattle.sv_pipes.specs.declared.tokens.TalkState.TheVariants as talks
use Rattle.sv_pool.specs.PoolLists.{holding}
use Rattle.sv_pool.specs.declared.taken.Taken.{Taken}

nothing : (hearing_of []).events ≡ []
unfolding hearing_of
nothing = refl

-- what is heard of whole envelopes, and of a prefix of one more
pub heard_whole : (names : Names) (handed : List Taken) → AreFit names → AllCan handed
    → (hearing_of (envelopes names handed)).events ≡ map (heard_as names) handed
heard_whole names handed fit can =
    ap (λ (b : List ℕ). (hearing_of b).events) (sym (append-nil (envelopes names handed))) ∙ hears_all names handed [] fit can
    ∙ ap (λ (l : List Heard). map (heard_as names) handed ++ l) nothing ∙ append-nil (map (heard_as names) handed)

pub heard_half : (names : Names) (done : List Taken) (taken : Taken) (front : List ℕ) (more : ℕ) (left : List ℕ) → AreFit names → AllCan done → CanBeHeard taken
    → front ++ more ∷ left ≡ envelope names taken → (hearing_of (envelopes names done ++ front)).events ≡ map (heard_as names) done
heard_half names done taken front more left fit can also same =
    hears_all names done front fit can
    ∙ ap (λ (l : List Heard). map (heard_as names) done ++ l) (hears_front names taken front more left fit also same) ∙ append-nil (map (heard_as names) done)

pub envelopes_more : (names : Names) (done : List Taken) (taken : Taken) → envelopes names (done ++ taken ∷ []) ≡ envelopes names done ++ envelope names taken
envelopes_more names done taken =
    flat_map-append (envelope names) done (taken ∷ []) ∙ ap (λ (b : List ℕ). envelopes names done ++ b) (append-nil (envelope names taken))

-- the listener with these fields
abbrev listens : State → List ℕ → List ℕ → List ℕ → List Verdict → State
listens state to_listener to_daemon stream verdicts =
    record state { to_listener = to_listener; to_daemon = to_daemon; stream = stream; verdicts = verdicts }

-- nothing new
same_place : (names : Names) (state : State) (k : Keeps names state) (to_listener to_daemon stream : List ℕ) (verdicts : List Verdict)
    → Place names k.at k.rest k.done k.settled (holding 0 state.pool.held) state.handed verdicts to_listener to_daemon stream
    → Keeps names (listens state to_listener to_daemon stream verdicts)
same_place names state k to_listener to_daemon stream verdicts place = record {
  phrases = k.phrases;
  at = k.at;
  rest = k.rest;
  cut = k.cut;
  round = k.round;
  begun = k.begun;
  known = k.known;
  done = k.done;
  settled = k.settled;
  results = k.results;
  each = k.each;
  acknowledged = k.acknowledged;
  returned = k.returned;
  one = k.one;
  waiting = k.waiting;
  can = k.can;
  place = place;
}

none_completed : (stream piece : List ℕ) → piece ≡ [] → completed stream piece ≡ 0
none_completed stream piece none =
    ap (λ (b : List ℕ). length (hearing_of b).events - length (hearing_of stream).events) (ap (λ (p : List ℕ). stream ++ p) none ∙ append-nil stream)
    ∙ omega arith

-- no byte arrives
kept_still : (names : Names) (state : State) (k : Keeps names state) (piece behind : List ℕ) (v : Verdict) → piece ≡ [] → behind ≡ state.to_listener
    → Keeps names (hears state piece behind v)
kept_still names state k piece behind v none same =
    let few = none_completed state.stream piece none in
    let over : state.to_daemon ++ said_over (replicate (completed state.stream piece) v) ≡ state.to_daemon
    = ap (λ (n : ℕ). state.to_daemon ++ said_over (replicate n v)) few ∙ append-nil state.to_daemon in
    let stream : state.stream ++ piece ≡ state.stream = ap (λ (p : List ℕ). state.stream ++ p) none ∙ append-nil state.stream in
    let verdicts : state.verdicts ++ replicate (completed state.stream piece) v ≡ state.verdicts
    = ap (λ (n : ℕ). state.verdicts ++ replicate n v) few ∙ append-nil state.verdicts in
    let A : List ℕ → Type 0 = λ l. Keeps names (listens state l (state.to_daemon ++ said_over (replicate (completed state.stream piece) v)) (state.stream ++ piece) (state.verdicts ++ replicate (completed state.stream piece) v)) in
    let B : List ℕ → Type 0 = λ d. Keeps names (listens state state.to_listener d (state.stream ++ piece) (state.verdicts ++ replicate (completed state.stream piece) v)) in
    let C : List ℕ → Type 0 = λ s. Keeps names (listens state state.to_listener state.to_daemon s (state.verdicts ++ replicate (completed state.stream piece) v)) in
    let D : List Verdict → Type 0 = λ w. Keeps names (listens state state.to_listener state.to_daemon state.stream w) in
    subst A (sym same) (subst B (sym over) (subst C (sym stream) (subst D (sym verdicts) k)))

-- ---- the event on its way

-- its last byte doesn't come yet
kept_travels : (names : Names) (state : State) (k : Keeps names state) (fit : AreFit names) (taken : Taken) (front piece : List ℕ) (more : ℕ) (left : List ℕ) (v : Verdict)
    → k.at ≡ talks.Busy → state.to_daemon ≡ [] → k.rest ≡ [] → holding 0 state.pool.held ≡ Some taken
    → state.handed ≡ k.done ++ taken ∷ [] → state.verdicts ≡ k.settled → AllCan k.done → CanBeHeard taken
    → (front ++ piece) ++ more ∷ left ≡ envelope names taken → state.stream ≡ envelopes names k.done ++ front
    → (hearing_of state.stream).events ≡ map (heard_as names) k.done
    → Keeps names (hears state piece (more ∷ left) v)
kept_travels names state k fit taken front piece more left v at none rest held handed verdicts can also same stream heard =
    let longer : state.stream ++ piece ≡ envelopes names k.done ++ (front ++ piece)
    = ap (λ (s : List ℕ). s ++ piece) stream ∙ append_assoc (envelopes names k.done) front piece in
    let now : (hearing_of (state.stream ++ piece)).events ≡ map (heard_as names) k.done
    = ap (λ (b : List ℕ). (hearing_of b).events) longer ∙ heard_half names k.done taken (front ++ piece) more left fit can also same in
    let few : completed state.stream piece ≡ 0 = omega (arith, ap length now, ap length heard) in
    let P : ℕ → Type 0 = λ n. Keeps names (listens state (more ∷ left) (state.to_daemon ++ said_over (replicate n v)) (state.stream ++ piece) (state.verdicts ++ replicate n v)) in
    subst P (sym few) (same_place names state k (more ∷ left) (state.to_daemon ++ []) (state.stream ++ piece) (state.verdicts ++ [])
    (travels taken (front ++ piece) more left at (append-nil state.to_daemon ∙ none) rest held handed (append-nil state.verdicts ∙ verdicts) refl same longer))

-- it comes
kept_arrives : (names : Names) (state : State) (k : Keeps names state) (fit : AreFit names) (taken : Taken) (front piece : List ℕ) (v : Verdict)
    → k.at ≡ talks.Busy → state.to_daemon ≡ [] → k.rest ≡ [] → holding 0 state.pool.held ≡ Some taken
    → state.handed ≡ k.done ++ taken ∷ [] → state.verdicts ≡ k.settled → AllCan k.done → CanBeHeard taken
    → front ++ piece ≡ envelope names taken → state.stream ≡ envelopes names k.done ++ front
    → (hearing_of state.stream).events ≡ map (heard_as names) k.done
    → Keeps names (hears state piece [] v)
kept_arrives names state k fit taken front piece v at none rest held handed verdicts can also same stream heard =
    let longer : state.stream ++ piece ≡ envelopes names state.handed
    = ap (λ (s : List ℕ). s ++ piece) stream ∙ append_assoc (envelopes names k.done) front piece ∙ ap (λ (b : List ℕ). envelopes names k.done ++ b) same
    ∙ sym (envelopes_more names k.done taken) ∙ ap (λ (l : List Taken). envelopes names l) (sym handed) in
    let now : (hearing_of (state.stream ++ piece)).events ≡ map (heard_as names) (k.done ++ taken ∷ [])
    = ap (λ (b : List ℕ). (hearing_of b).events) longer ∙ heard_whole names state.handed fit k.can ∙ ap (λ (l : List Taken). map (heard_as names) l) handed in
    let all : length (map (heard_as names) (k.done ++ taken ∷ [])) ≡ length (map (heard_as names) k.done) + 1
    = ap length (map-append (heard_as names) k.done (taken ∷ [])) ∙ length-append (map (heard_as names) k.done) (heard_as names taken ∷ []) in
    let few : completed state.stream piece ≡ 1 = omega (arith, ap length now, ap length heard, all) in
    let P : ℕ → Type 0 = λ n. Keeps names (listens state [] (state.to_daemon ++ said_over (replicate n v)) (state.stream ++ piece) (state.verdicts ++ replicate n v)) in
    let spoken : k.rest ++ (state.to_daemon ++ (answer_of v ++ [])) ≡ answer_of v
    = ap (λ (r : List ℕ). r ++ (state.to_daemon ++ (answer_of v ++ []))) rest ∙ ap (λ (d : List ℕ). d ++ (answer_of v ++ [])) none ∙ append-nil (answer_of v) in
    subst P (sym few) (same_place names state k [] (state.to_daemon ++ (answer_of v ++ [])) (state.stream ++ piece) (state.verdicts ++ v ∷ [])
    (begins v (λ first left is. answers taken v first left at spoken (ap (λ (r : List ℕ). r ++ first ∷ left) rest ∙ is) held handed
    (ap (λ (w : List Verdict). w ++ v ∷ []) verdicts) refl longer)))
  where
    begins : {P : Type 0} (v : Verdict) → ((first : ℕ) (left : List ℕ) → first ∷ left ≡ result_of v → P) → P
    begins verdict.Ok goes = goes 82 (drop 1 (result_of verdict.Ok)) refl
    begins verdict.Fail goes = goes 82 (drop 1 (result_of verdict.Fail)) refl

take_none : (count : ℕ) → take {A = ℕ} count [] ≡ []
take_none zero = refl
take_none (suc count) = refl

drop_none : (count : ℕ) → drop {A = ℕ} count [] ≡ []
drop_none zero = refl
drop_none (suc count) = refl

pub kept_hear : (names : Names) (state : State) (count : ℕ) (v : Verdict) → AreFit names → Keeps names state
    → Keeps names (hears state (take count state.to_listener) (drop count state.to_listener) v)
kept_hear names state count v fit k = by_place k.place
  where
    silent : state.to_listener ≡ [] → Keeps names (hears state (take count state.to_listener) (drop count state.to_listener) v)
    silent none =
        kept_still names state k (take count state.to_listener) (drop count state.to_listener) v (ap (λ (l : List ℕ). take count l) none ∙ take_none count)
        (ap (λ (l : List ℕ). drop count l) none ∙ drop_none count ∙ sym none)

    by_behind : (taken : Taken) (front : List ℕ) (piece behind : List ℕ) → piece ++ behind ≡ state.to_listener
        → k.at ≡ talks.Busy → state.to_daemon ≡ [] → k.rest ≡ [] → holding 0 state.pool.held ≡ Some taken
        → state.handed ≡ k.done ++ taken ∷ [] → state.verdicts ≡ k.settled → AllCan k.done → CanBeHeard taken
        → front ++ state.to_listener ≡ envelope names taken → state.stream ≡ envelopes names k.done ++ front
        → (hearing_of state.stream).events ≡ map (heard_as names) k.done
        → Keeps names (hears state piece behind v)
    by_behind taken front piece [] parts at none rest held handed verdicts can also same stream heard =
        kept_arrives names state k fit taken front piece v at none rest held handed verdicts can also
        (ap (λ (l : List ℕ). front ++ l) (sym (append-nil piece) ∙ parts) ∙ same) stream heard
    by_behind taken front piece (more ∷ left) parts at none rest held handed verdicts can also same stream heard =
        kept_travels names state k fit taken front piece more left v at none rest held handed verdicts can also
        (append_assoc front piece (more ∷ left) ∙ ap (λ (l : List ℕ). front ++ l) parts ∙ same) stream heard

    by_place : Place names k.at k.rest k.done k.settled (holding 0 state.pool.held) state.handed state.verdicts state.to_listener state.to_daemon state.stream
        → Keeps names (hears state (take count state.to_listener) (drop count state.to_listener) v)
    by_place (greets more left at a b c d e empty g) = silent empty
    by_place (waits at a b c d e empty g) = silent empty
    by_place (answers taken w more left at a b c d e empty g) = silent empty
    by_place (travels taken front more left at none rest held handed verdicts way same stream) =
        let all : AllCan (k.done ++ taken ∷ []) = subst (λ (l : List Taken). AllCan l) handed k.can in
        let can = can_front k.done (taken ∷ []) all in
        let also = can_last k.done taken all in
        by_behind taken front (take count state.to_listener) (drop count state.to_listener) (take-append-drop count state.to_listener)
        at none rest held handed verdicts can also (ap (λ (l : List ℕ). front ++ l) way ∙ same) stream
        (ap (λ (b : List ℕ). (hearing_of b).events) stream ∙ heard_half names k.done taken front more left fit can also same)
