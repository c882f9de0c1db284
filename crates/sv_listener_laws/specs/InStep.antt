-- A daemon and a listener that are in step.
use Rattle.std.specs.Prelude.{◌≡◌, ◌≢◌, ◌≤◌, ◌++◌, ◌∷◌, ℕ, List, [], codes, length, map}
use Rattle.sv_base.specs.KindNames.{kind_name}
use Rattle.sv_listener.specs.Hearing.{hearing_of}
use Rattle.sv_listener.specs.declared.events.Heard.{Heard}
use Rattle.sv_listener.specs.declared.handler.Verdict.{Verdict}
use Rattle.sv_listener.specs.declared.handler.Verdict.TheVariants as verdict
use Rattle.sv_listener_laws.specs.BothEnds.{Names, State}
use Rattle.sv_pipes.specs.Talk.{IsCut}
use Rattle.sv_pipes.specs.TalkCut.{talk_state, talk_tokens}
use Rattle.sv_pipes.specs.declared.tokens.TalkState.TheVariants as talks
use Rattle.sv_pipes.specs.declared.tokens.Token.{Token}
use Rattle.sv_pipes.specs.declared.tokens.Token.TheVariants as token
use Rattle.sv_pool.specs.declared.taken.Taken.{Taken}

-- an event that was handed out, as the listener is to hear it
abbrev pub heard_as : Names → Taken → Heard
heard_as names taken = record {
  eventname = kind_name taken.event.kind;
  pool = names.pool;
  serial = taken.event.serial;
  poolserial = taken.poolserial;
  body = taken.event.body;
}

-- the bytes of a verdict's result
abbrev pub result_body : Verdict → List ℕ
result_body verdict.Ok = codes "OK"
result_body verdict.Fail = codes "FAIL"

-- the results among what a listener said
abbrev pub results_in : List Token → List (List ℕ)
results_in [] = []
results_in (token.Result body ∷ tokens) = body ∷ results_in tokens
results_in (other ∷ tokens) = results_in tokens

-- of these events those with the verdict OK
abbrev pub with_ok : List Taken → List Verdict → List Taken
with_ok (taken ∷ events) (verdict.Ok ∷ verdicts) = taken ∷ with_ok events verdicts
with_ok (taken ∷ events) (verdict.Fail ∷ verdicts) = with_ok events verdicts
with_ok events verdicts = []

-- and those with the verdict FAIL
abbrev pub with_fail : List Taken → List Verdict → List Taken
with_fail (taken ∷ events) (verdict.Ok ∷ verdicts) = with_fail events verdicts
with_fail (taken ∷ events) (verdict.Fail ∷ verdicts) = taken ∷ with_fail events verdicts
with_fail events verdicts = []

-- what holds of both ends at any time
pub record AreInStep (names : Names) (state : State) : Type 0 where
  -- the talk has its cut, and the listener is never UNKNOWN
  pub cut : IsCut state.talk (talk_tokens state.talk) (talk_state state.talk)
  pub known : talk_state state.talk ≢ talks.Unknown
  -- what was heard is what was handed out, but for one event at most
  pub later : List Heard
  pub heard : map (heard_as names) state.handed ≡ (hearing_of state.stream).events ++ later
  pub few : length later ≤ 1
  -- there is a verdict on each event that was heard, and the results that arrived are those of the
  -- first verdicts
  pub each : length state.verdicts ≡ length (hearing_of state.stream).events
  pub settled : List Verdict
  pub unsettled : List Verdict
  pub verdicts : state.verdicts ≡ settled ++ unsettled
  pub results : results_in (talk_tokens state.talk) ≡ map result_body settled
  -- each event whose result arrived was acknowledged once where the verdict was OK, and else given
  -- back once
  pub acknowledged : state.pool.acknowledged ≡ with_ok state.handed settled
  pub returned : state.returned ≡ with_fail state.handed settled
