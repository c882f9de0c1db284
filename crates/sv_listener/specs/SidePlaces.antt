-- What a listener's reader keeps of its stream.
use Rattle.std.specs.Prelude.{◌≡◌, ℕ, List, ◌++◌, false, true}
use Rattle.sv_listener.specs.Hearing.{End, hearing_of}
use Rattle.sv_listener.specs.Takes.{Stands}
use Rattle.sv_listener.specs.declared.events.Heard.{Heard}
use Rattle.sv_listener.specs.declared.side.ListenerSide.{ListenerSide}

-- the value stands for a stream of which these events were heard
abbrev pub StandsFor : ListenerSide → List ℕ → List Heard → Type 0
StandsFor side stream events =
    (side.broken ≡ false) × Stands side.fault side.held.items stream events

-- memory was refused, so the value stands for no stream
abbrev pub IsBroken : ListenerSide → Type 0
IsBroken side = side.broken ≡ true

-- the piece comes, and these events are heard
abbrev pub Feeds : ListenerSide → List ℕ → List Heard → ListenerSide → Type 0
Feeds old piece heard new =
    (stream : List ℕ) (events : List Heard) → StandsFor old stream events
    → StandsFor new (stream ++ piece) (events ++ heard)

-- they are what is new in what is heard of the whole stream
abbrev pub Tells : ListenerSide → List ℕ → List Heard → Type 0
Tells old piece heard =
    (stream : List ℕ) (events : List Heard) → StandsFor old stream events
    → events ++ heard ≡ (hearing_of (stream ++ piece)).events

-- the end of the stream so far
abbrev pub EndsAs : ListenerSide → (End → Type 0) → Type 0
EndsAs side P =
    (stream : List ℕ) (events : List Heard) → StandsFor side stream events
    → P (hearing_of stream).end

-- there is no stream that the value stands for
abbrev pub StandsForNone : ListenerSide → Type 0
StandsForNone side = (stream : List ℕ) (events : List Heard) → StandsFor side stream events → ⊥
