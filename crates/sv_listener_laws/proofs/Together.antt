-- A daemon and a listener keep in step.
use Rattle.std.proofs.Common.{◌≡◌, ◌≢◌, ◌≤◌, ◌++◌, ℕ, suc, List, [], ◌∷◌, length, map, refl, ap, sym, ◌∙◌, subst, arith, append-nil, length-append, inl}
use Rattle.std.proofs.lemmas.List.{map-append}
use Rattle.sv_listener.specs.Hearing.{hearing_of}
use Rattle.sv_listener.specs.declared.events.Heard.{Heard}
use Rattle.sv_listener.specs.declared.handler.Verdict.{Verdict}
use Rattle.sv_listener_laws.proofs.Answering.{kept_answer}
use Rattle.sv_listener_laws.proofs.Arriving.{heard_half, heard_whole, kept_hear}
use Rattle.sv_listener_laws.proofs.Envelopes.{AllCan, envelopes}
use Rattle.sv_listener_laws.proofs.HandingOut.{kept_hand_out}
use Rattle.sv_listener_laws.proofs.Keeping.{Keeps, Place, is_cut, kept_accept, read_cut}
use Rattle.sv_listener_laws.proofs.Keeping.Place.{greets, waits, travels, answers}
use Rattle.sv_listener_laws.proofs.Outcomes.{can_front, can_last, fail_front, ok_front}
use Rattle.sv_listener_laws.specs.BothEnds.{AreFit, AreSound, Names, State, Step, after, after_all, begun}
use Rattle.sv_listener_laws.specs.BothEnds.Step.{Accept, Hand_out, Hear, Answer}
use Rattle.sv_listener_laws.specs.InStep.{AreInStep, heard_as, results_in, with_fail, with_ok}
use Rattle.sv_pipes.specs.Talk.{IsCut}
use Rattle.sv_pipes.specs.TalkCut.{talk_tokens}
use Rattle.sv_pipes.specs.declared.tokens.TalkState.{TalkState}
use Rattle.sv_pipes.specs.declared.tokens.TalkState.TheVariants as talks
use Rattle.sv_pipes.specs.declared.tokens.Token.{Token}
use Rattle.sv_pool.specs.PoolLists.{holding}
use Rattle.sv_pool.specs.declared.taken.Taken.{Taken}

kept_begun : (names : Names) (buffer : ℕ) → Keeps names (begun buffer)
kept_begun names buffer = record {
  phrases = [];
  at = talks.Acknowledged;
  rest = [];
  cut = refl;
  round = refl;
  begun = inl refl;
  known = λ wrong. cc;
  done = [];
  settled = [];
  results = refl;
  each = refl;
  acknowledged = refl;
  returned = refl;
  one = refl;
  waiting = tt;
  can = tt;
  place = greets 82 (69 ∷ 65 ∷ 68 ∷ 89 ∷ 10 ∷ []) refl refl refl refl refl refl refl refl;
}

kept_all : (names : Names) (state : State) (steps : List Step) → AreFit names → Keeps names state → AreSound steps → Keeps names (after_all names state steps)
kept_all names state [] fit k sound = k
kept_all names state (Accept event ∷ steps) fit k sound =
    kept_all names (after names state (Accept event)) steps fit (kept_accept names state event k sound.0) sound.1
kept_all names state (Hand_out ∷ steps) fit k sound = kept_all names (after names state Hand_out) steps fit (kept_hand_out names state k) sound
kept_all names state (Hear count v ∷ steps) fit k sound =
    kept_all names (after names state (Hear count v)) steps fit (kept_hear names state count v fit k) sound
kept_all names state (Answer count ∷ steps) fit k sound =
    kept_all names (after names state (Answer count)) steps fit (kept_answer names state count k) sound

-- what was heard, and which verdicts are on their way
pub record Told (names : Names) (state : State) (done : List Taken) (settled : List Verdict) : Type 0 where
  pub later : List Heard
  pub heard : map (heard_as names) state.handed ≡ (hearing_of state.stream).events ++ later
  pub few : length later ≤ 1
  pub each : length state.verdicts ≡ length (hearing_of state.stream).events
  pub unsettled : List Verdict
  pub verdicts : state.verdicts ≡ settled ++ unsettled
  pub further : List Taken
  pub handed : state.handed ≡ done ++ further

told : (names : Names) (state : State) (k : Keeps names state) → AreFit names → Told names state k.done k.settled
told names state k fit = by_place k.place
  where
    all : state.handed ≡ k.done → state.verdicts ≡ k.settled → state.stream ≡ envelopes names k.done → Told names state k.done k.settled
    all handed verdicts stream =
        let heard : (hearing_of state.stream).events ≡ map (heard_as names) k.done
        = ap (λ (b : List ℕ). (hearing_of b).events) stream ∙ heard_whole names k.done fit (subst (λ (l : List Taken). AllCan l) handed k.can) in
        record {
          later = [];
          heard = ap (λ (l : List Taken). map (heard_as names) l) handed ∙ sym heard ∙ sym (append-nil (hearing_of state.stream).events);
          few = omega arith;
          each = ap length verdicts ∙ k.each ∙ sym (sizes k.done) ∙ sym (ap length heard);
          unsettled = [];
          verdicts = verdicts ∙ sym (append-nil k.settled);
          further = [];
          handed = handed ∙ sym (append-nil k.done);
        }
      where
        sizes : (l : List Taken) → length (map (heard_as names) l) ≡ length l
        sizes [] = refl
        sizes (t ∷ l) = ap (λ (n : ℕ). suc n) (sizes l)

    sizes : (l : List Taken) → length (map (heard_as names) l) ≡ length l
    sizes [] = refl
    sizes (t ∷ l) = ap (λ (n : ℕ). suc n) (sizes l)

    by_place : Place names k.at k.rest k.done k.settled (holding 0 state.pool.held) state.handed state.verdicts state.to_listener state.to_daemon state.stream
        → Told names state k.done k.settled
    by_place (greets more left a b c d handed verdicts e stream) = all handed verdicts stream
    by_place (waits a b c d handed verdicts e stream) = all handed verdicts stream
    by_place (travels taken front more left a b c d handed verdicts e same stream) =
        let can : AllCan (k.done ++ taken ∷ []) = subst (λ (l : List Taken). AllCan l) handed k.can in
        let heard : (hearing_of state.stream).events ≡ map (heard_as names) k.done
        = ap (λ (b : List ℕ). (hearing_of b).events) stream
        ∙ heard_half names k.done taken front more left fit (can_front k.done (taken ∷ []) can) (can_last k.done taken can) same in
        record {
          later = heard_as names taken ∷ [];
          heard = ap (λ (l : List Taken). map (heard_as names) l) handed ∙ map-append (heard_as names) k.done (taken ∷ [])
              ∙ ap (λ (l : List Heard). l ++ heard_as names taken ∷ []) (sym heard);
          few = omega arith;
          each = ap length verdicts ∙ k.each ∙ sym (sizes k.done) ∙ sym (ap length heard);
          unsettled = [];
          verdicts = verdicts ∙ sym (append-nil k.settled);
          further = taken ∷ [];
          handed = handed;
        }
    by_place (answers taken v more left a b c d handed verdicts e stream) =
        let heard : (hearing_of state.stream).events ≡ map (heard_as names) state.handed
        = ap (λ (b : List ℕ). (hearing_of b).events) stream ∙ heard_whole names state.handed fit k.can in
        record {
          later = [];
          heard = sym heard ∙ sym (append-nil (hearing_of state.stream).events);
          few = omega arith;
          each = omega (arith, ap length verdicts, length-append k.settled (v ∷ []), k.each, sizes state.handed, ap length heard, ap length handed, length-append k.done (taken ∷ []));
          unsettled = v ∷ [];
          verdicts = verdicts;
          further = taken ∷ [];
          handed = handed;
        }

kept_in_step : (names : Names) (state : State) → AreFit names → Keeps names state → AreInStep names state
kept_in_step names state fit k =
    let is = told names state k fit in
    let read = read_cut state.talk k.phrases k.at k.rest k.cut k.round k.begun k.known in
    let P : List Token → Type 0 = λ t. IsCut state.talk t k.at in
    let Q : TalkState → Type 0 = λ s. IsCut state.talk (talk_tokens state.talk) s in
    let R : TalkState → Type 0 = λ s. s ≢ talks.Unknown in
    record {
      cut = subst Q read.1 (subst P read.0 (is_cut state.talk k.phrases k.at k.rest k.cut k.round k.begun k.known));
      known = subst R read.1 k.known;
      later = is.later;
      heard = is.heard;
      few = is.few;
      each = is.each;
      settled = k.settled;
      unsettled = is.unsettled;
      verdicts = is.verdicts;
      results = ap (λ (t : List Token). results_in t) (sym read.0) ∙ k.results;
      acknowledged = k.acknowledged ∙ sym (ok_front k.done k.settled is.further k.each) ∙ ap (λ (l : List Taken). with_ok l k.settled) (sym is.handed);
      returned = k.returned ∙ sym (fail_front k.done k.settled is.further k.each) ∙ ap (λ (l : List Taken). with_fail l k.settled) (sym is.handed);
    }

pub in_step : (names : Names) (buffer : ℕ) (steps : List Step) → AreFit names → AreSound steps → AreInStep names (after_all names (begun buffer) steps)
in_step names buffer steps fit sound =
    kept_in_step names (after_all names (begun buffer) steps) fit (kept_all names (begun buffer) steps fit (kept_begun names buffer) sound)
