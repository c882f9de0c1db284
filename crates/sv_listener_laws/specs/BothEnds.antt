-- Both ends of the talk between a daemon and one listener of a pool (the manual's chapter on
-- events, "Event Listener Notification Protocol"): the pool, the talk, the bytes on their way, and
-- what the listener heard and judged.
use Rattle.std.specs.Prelude.{◌≡◌, ◌≤◌, ◌<◌, ◌^◌, ◌+◌, ◌-◌, ◌++◌, ◌∷◌, ℕ, List, [], Option, None}
use Rattle.std.specs.Prelude.{Some, codes, drop, length, replicate, slice_get, take, if◌then◌else◌}
use Rattle.std.specs.Option.{option_to_list}
use Rattle.std.specs.Str.{bytes_eq}
use Rattle.sv_events.specs.EventText.{envelope_of}
use Rattle.sv_events.specs.declared.event.Event.{Event}
use Rattle.sv_listener.specs.Answers.{answers, ready}
use Rattle.sv_listener.specs.HeaderLine.{IsWord}
use Rattle.sv_listener.specs.Hearing.{hearing_of}
use Rattle.sv_listener.specs.Reading.{cut_at}
use Rattle.sv_listener.specs.declared.handler.Verdict.{Verdict}
use Rattle.sv_pipes.specs.Talk.{Mark, said}
use Rattle.sv_pipes.specs.Talk.Mark.{Sent}
use Rattle.sv_pipes.specs.TalkCut.{talk_state, talk_tokens}
use Rattle.sv_pipes.specs.declared.tokens.TalkState.{TalkState}
use Rattle.sv_pipes.specs.declared.tokens.TalkState.TheVariants as talks
use Rattle.sv_pipes.specs.declared.tokens.Token.{Token}
use Rattle.sv_pipes.specs.declared.tokens.Token.TheVariants as token
use Rattle.sv_pool.specs.PoolLists.{Lists, accepted, acknowledged, holding, opened, rejected, took}
use Rattle.sv_pool.specs.declared.taken.Taken.{Taken}

-- the daemon's name for itself, and the pool's
pub record Names : Type 0 where
  pub server : List ℕ
  pub pool : List ℕ

-- they have neither space nor line feed, and are short enough for a header line
pub record AreFit (names : Names) : Type 0 where
  pub server : IsWord names.server
  pub pool : IsWord names.pool
  pub server_line : cut_at 10 names.server ≡ None
  pub pool_line : cut_at 10 names.pool ≡ None
  pub short : length names.server + length names.pool ≤ 3900

-- the pool, the talk, the bytes on their way, the listener, and what was done with the events
pub record State : Type 0 where
  pub pool : Lists
  -- the talk so far, as the daemon has it
  pub talk : List Mark
  -- the bytes that are on their way to the listener, and to the daemon
  pub to_listener : List ℕ
  pub to_daemon : List ℕ
  -- all that the listener read, and its verdicts
  pub stream : List ℕ
  pub verdicts : List Verdict
  -- the events that were handed out, and those that were given back
  pub handed : List Taken
  pub returned : List Taken

-- an empty pool of one listener, of which only `READY` is on its way
abbrev pub begun : ℕ → State
begun buffer = record {
  pool = opened buffer 1;
  talk = [];
  to_listener = [];
  to_daemon = ready;
  stream = [];
  verdicts = [];
  handed = [];
  returned = [];
}

-- what may happen
pub data Step : Type 0 where
  -- the pool takes an event
  Accept : (event : Event) → Step
  -- the front is handed out, where the listener is READY
  Hand_out : Step
  -- so many bytes arrive at the listener, which has this verdict on the event that they complete
  Hear : (count : ℕ) (verdict : Verdict) → Step
  -- so many bytes arrive at the daemon
  Answer : (count : ℕ) → Step

-- an event is sent to the listener, which holds it
abbrev pub sends : Names → State → Option Taken → State
sends names state None = state
sends names state (Some taken) = record state {
  pool = took 0 state.pool;
  talk = state.talk ++ Sent ∷ [];
  to_listener =
      state.to_listener ++ envelope_of names.server names.pool taken.poolserial taken.event;
  handed = state.handed ++ taken ∷ [];
}

-- only a listener that is READY is handed an event
abbrev pub hands_out : Names → State → TalkState → State
hands_out names state talks.Ready = sends names state (slice_get state.pool.waiting 0)
hands_out names state other = state

-- how many events further bytes complete
abbrev pub completed : List ℕ → List ℕ → ℕ
completed stream piece =
    length (hearing_of (stream ++ piece)).events - length (hearing_of stream).events

-- the listener reads these bytes, of which those after them are still on their way
abbrev pub hears : State → List ℕ → List ℕ → Verdict → State
hears state piece behind verdict = record state {
  to_listener = behind;
  to_daemon = state.to_daemon ++ answers (replicate (completed state.stream piece) verdict);
  stream = state.stream ++ piece;
  verdicts = state.verdicts ++ replicate (completed state.stream piece) verdict;
}

-- the listener's event is done with
abbrev pub done_with : State → State
done_with state = record state { pool = acknowledged 0 state.pool }

-- the listener's event goes back to the pool
abbrev pub gives_back : State → State
gives_back state = record state {
  pool = rejected 0 state.pool;
  returned = state.returned ++ option_to_list (holding 0 state.pool.held);
}

-- what the tokens of the talk do
abbrev pub settles : State → Token → State
settles state token.Ready = state
settles state (token.Result body) =
    if bytes_eq body (codes "OK") then done_with state else gives_back state
settles state token.Wrong = gives_back state

-- token by token
abbrev pub settles_all : State → List Token → State
settles_all state [] = state
settles_all state (first ∷ tokens) = settles_all (settles state first) tokens

-- the daemon reads these bytes, of which those after them are still on their way
abbrev pub reads : State → List ℕ → List ℕ → State
reads state piece behind =
    settles_all (record state { talk = state.talk ++ said piece; to_daemon = behind })
    (drop (length (talk_tokens state.talk)) (talk_tokens (state.talk ++ said piece)))

-- the state after a step
abbrev pub after : Names → State → Step → State
after names state (Accept event) = record state { pool = accepted event state.pool }
after names state Hand_out = hands_out names state (talk_state state.talk)
after names state (Hear count verdict) =
    hears state (take count state.to_listener) (drop count state.to_listener) verdict
after names state (Answer count) =
    reads state (take count state.to_daemon) (drop count state.to_daemon)

-- step by step
abbrev pub after_all : Names → State → List Step → State
after_all names state [] = state
after_all names state (step ∷ steps) = after_all names (after names state step) steps

-- an event that a listener can hear: its number has 64 bits, and its body isn't too long
pub record IsSound (event : Event) : Type 0 where
  pub serial : event.serial < 2 ^ 64
  pub body : length event.body ≤ 33554432

-- each event that the pool takes is such a one
abbrev pub AreSound : List Step → Type 0
AreSound [] = Unit {0}
AreSound (Accept event ∷ steps) = IsSound event × AreSound steps
AreSound (step ∷ steps) = AreSound steps
