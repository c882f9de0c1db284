-- The front of the pool is handed out.
use Rattle.std.proofs.Common.{◌≡◌, ◌<◌, ◌++◌, ℕ, List, [], ◌∷◌, length, refl, ap, sym, ◌∙◌, subst, arith, append-nil, length-append, inl}
use Rattle.std.specs.Prelude.{slice_get}
use Rattle.std.proofs.lemmas.Grind.{flat_map-append}
use Rattle.sv_events.specs.EventText.{envelope_head}
use Rattle.sv_listener_laws.proofs.Envelopes.{AllCan, envelope, envelopes}
use Rattle.sv_listener_laws.proofs.Keeping.{Keeps, Place, one_held, read_cut, tokens_on}
use Rattle.sv_listener_laws.proofs.Keeping.Place.{greets, waits, travels, answers}
use Rattle.sv_listener_laws.proofs.Outcomes.{can_append, can_drop}
use Rattle.sv_listener_laws.specs.BothEnds.{Names, State, hands_out, sends}
use Rattle.sv_listener_laws.specs.InStep.{results_in}
use Rattle.sv_pipes.proofs.Talks.{round_more}
use Rattle.sv_pipes.specs.Talk.{IsRound, Mark, Phrase, said, talk_of, tokens_of}
use Rattle.sv_pipes.specs.Talk.Mark.{Sent}
use Rattle.sv_pipes.specs.Talk.Phrase.{Event}
use Rattle.sv_pipes.specs.TalkCut.{talk_state}
use Rattle.sv_pipes.specs.declared.tokens.TalkState.{TalkState}
use Rattle.sv_pipes.specs.declared.tokens.TalkState.TheVariants as talks
use Rattle.sv_pipes.specs.declared.tokens.Token.{Token}
use Rattle.sv_pool.specs.PoolLists.{holding}
use Rattle.sv_pool.specs.declared.taken.Taken.{Taken}

-- an envelope has a first byte
pub record Opens (bytes : List ℕ) : Type 0 where
  pub first : ℕ
  pub left : List ℕ
  pub is : bytes ≡ first ∷ left

opens : (bytes : List ℕ) → 0 < length bytes → Opens bytes
opens [] some = absurd (omega (arith, some))
opens (first ∷ left) some = record { first = first; left = left; is = refl }

envelope_opens : (names : Names) (taken : Taken) → Opens (envelope names taken)
envelope_opens names taken =
    opens (envelope names taken) (omega (arith, length-append (envelope_head names.server names.pool taken.poolserial taken.event) (10 ∷ taken.event.body)))

-- a mark after a talk that waits for it
marked : (talk : List Mark) (phrases : List Phrase) (rest : List ℕ) → talk ≡ talk_of phrases ++ said rest → rest ≡ []
    → talk ++ Sent ∷ [] ≡ talk_of (phrases ++ Event ∷ []) ++ said []
marked talk phrases rest cut none =
    ap (λ (t : List Mark). t ++ Sent ∷ []) (cut ∙ ap (λ (r : List ℕ). talk_of phrases ++ said r) none ∙ append-nil (talk_of phrases))
    ∙ sym (ends phrases) ∙ sym (append-nil (talk_of (phrases ++ Event ∷ [])))
  where
    ends : (phrases : List Phrase) → talk_of (phrases ++ Event ∷ []) ≡ talk_of phrases ++ Sent ∷ []
    ends phrases = simp (flat_map-append, append-nil) refl

kept_send : (names : Names) (state : State) (k : Keeps names state) (waiting : List Taken) → state.pool.waiting ≡ waiting → k.at ≡ talks.Ready
    → state.to_daemon ≡ [] → k.rest ≡ [] → state.handed ≡ k.done → state.verdicts ≡ k.settled → state.to_listener ≡ [] → state.stream ≡ envelopes names k.done
    → Keeps names (sends names state (slice_get waiting 0))
kept_send names state k [] is at none rest handed verdicts empty stream = k
kept_send names state k (taken ∷ waiting) is at none rest handed verdicts empty stream =
    let can : AllCan (taken ∷ waiting) = subst (λ (l : List Taken). AllCan l) is k.waiting in
    let held = one_held state.pool.held (slice_get state.pool.waiting 0) k.one in
    let opening = envelope_opens names taken in
    record {
      phrases = k.phrases ++ Event ∷ [];
      at = talks.Busy;
      rest = [];
      cut = marked state.talk k.phrases k.rest k.cut rest;
      round = round_more talks.Acknowledged k.phrases talks.Ready Event talks.Busy (subst (λ (s : TalkState). IsRound talks.Acknowledged k.phrases s) at k.round) tt;
      begun = inl refl;
      known = λ wrong. cc;
      done = k.done;
      settled = k.settled;
      results = ap (λ (t : List Token). results_in t) (tokens_on k.phrases Event ∙ append-nil (tokens_of k.phrases)) ∙ k.results;
      each = k.each;
      acknowledged = k.acknowledged;
      returned = k.returned;
      one = held.0;
      waiting = can_drop state.pool.waiting k.waiting;
      can = can_append state.handed (taken ∷ []) k.can (can.0, tt);
      place =
          travels taken [] opening.first opening.left refl none refl
          (held.1 ∙ ap (λ (l : List Taken). slice_get l 0) is)
          (ap (λ (l : List Taken). l ++ taken ∷ []) handed) verdicts
          (ap (λ (b : List ℕ). b ++ envelope names taken) empty ∙ opening.is) (sym opening.is) (stream ∙ sym (append-nil (envelopes names k.done)));
    }

pub kept_hand_out : (names : Names) (state : State) → Keeps names state → Keeps names (hands_out names state (talk_state state.talk))
kept_hand_out names state k =
    let P : TalkState → Type 0 = λ s. Keeps names (hands_out names state s) in
    subst P (read_cut state.talk k.phrases k.at k.rest k.cut k.round k.begun k.known).1 (by_place k.place)
  where
    by_place : Place names k.at k.rest k.done k.settled (holding 0 state.pool.held) state.handed state.verdicts state.to_listener state.to_daemon state.stream
        → Keeps names (hands_out names state k.at)
    by_place (greets more left at a b c d e f g) = subst (λ (s : TalkState). Keeps names (hands_out names state s)) (sym at) k
    by_place (waits at none rest held handed verdicts empty stream) =
        subst (λ (s : TalkState). Keeps names (hands_out names state s)) (sym at)
        (kept_send names state k state.pool.waiting refl at none rest handed verdicts empty stream)
    by_place (travels taken front more left at a b c d e f g h) = subst (λ (s : TalkState). Keeps names (hands_out names state s)) (sym at) k
    by_place (answers taken v more left at a b c d e f g) = subst (λ (s : TalkState). Keeps names (hands_out names state s)) (sym at) k
