-- What a listener has heard, handled and said, for each way to end.
use Rattle.std.specs.Prelude.{◌≡◌, ◌≤◌, ◌^◌, ◌⊎◌, ◌++◌, ℕ, List, Option, None, length}
use Rattle.std.specs.Io.KnownBytes.{Appends, Consumes, IsAtEnd}
use Rattle.sv_listener.specs.Answers.{answers, talk_over}
use Rattle.sv_listener.specs.Hearing.{End, hearing_of, fault_of}
use Rattle.sv_listener.specs.Hearing.End.{Between, Within, Faulty}
use Rattle.sv_listener.specs.SidePlaces.{StandsFor, Feeds}
use Rattle.sv_listener.specs.declared.events.Heard.{Heard}
use Rattle.sv_listener.specs.declared.events.HeardFault.{HeardFault}
use Rattle.sv_listener.specs.declared.handler.Verdict.{Verdict}
use Rattle.sv_listener.specs.declared.listening.ListenEnd.{ListenEnd}
use Rattle.sv_listener.specs.declared.listening.ListenEnd.TheVariants as ends
use Rattle.sv_listener.specs.declared.side.ListenerSide.{ListenerSide}
use Rattle.sv_out.specs.Written.{AppendsFront}

-- the number of each end
abbrev pub end_number : ListenEnd → ℕ
end_number ends.Ended = 0
end_number ends.SourceFailed = 1
end_number ends.Broken = 2
end_number ends.OutOfMemory = 3
end_number ends.SinkFailed = 4
end_number ends.HandlerFailed = 5
end_number ends.TooMuch = 6

-- the most bytes that are taken
abbrev pub most_taken : ℕ
most_taken = 2 ^ 63

-- the stream isn't at a fault
abbrev pub IsOpen : End → Type 0
IsOpen end = fault_of end ≡ None

-- the stream is at a fault
abbrev pub IsFaulty : End → Type 0
IsFaulty end = (fault : HeardFault) × (end ≡ Faulty fault)

-- the bytes that were taken have this end, each of their events was handled, and all was said
pub record Whole (says : List Verdict → List ℕ) (left left_after old new : Option (List ℕ))
    (Told : List Heard → List Verdict → Type 0) (Ends : List ℕ → Type 0) : Type 0 where
  pub stream : List ℕ
  pub taken : Consumes left left_after stream
  pub verdicts : List Verdict
  pub told : Told (hearing_of stream).events verdicts
  pub each : length verdicts ≡ length (hearing_of stream).events
  pub wrote : Appends old new (says verdicts)
  pub ends : Ends stream

-- only the first events were given, and a prefix of what there is to say was written
pub record Half (says : List Verdict → List ℕ) (left left_after old new : Option (List ℕ))
    (Told : List Heard → List Verdict → Type 0) (Has : ℕ → ℕ → Type 0) : Type 0 where
  pub stream : List ℕ
  pub taken : Consumes left left_after stream
  pub given : List Heard
  pub later : List Heard
  pub heard : (hearing_of stream).events ≡ given ++ later
  pub verdicts : List Verdict
  pub told : Told given verdicts
  pub has : Has (length verdicts) (length given)
  pub wrote : AppendsFront old new (says verdicts)

-- how many verdicts there are on so many events: one on each, unless the last has none
abbrev pub HasVerdicts : ListenEnd → ℕ → ℕ → Type 0
HasVerdicts ends.SinkFailed verdicts events = verdicts ≡ events
HasVerdicts end verdicts events = verdicts ≤ events

-- the input is at its end, between two events
abbrev pub EndsBetween : Option (List ℕ) → List ℕ → Type 0
EndsBetween left_after stream = IsAtEnd left_after × ((hearing_of stream).end ≡ Between)

-- it has a fault, or is at its end inside an event
abbrev pub EndsBroken : Option (List ℕ) → List ℕ → Type 0
EndsBroken left_after stream =
    IsFaulty (hearing_of stream).end ⊎ (IsAtEnd left_after × ((hearing_of stream).end ≡ Within))

-- it has no fault
abbrev pub EndsOpen : List ℕ → Type 0
EndsOpen stream = IsOpen (hearing_of stream).end

-- nor has it, and so many bytes were taken
abbrev pub EndsFull : List ℕ → Type 0
EndsFull stream = IsOpen (hearing_of stream).end × (length stream ≡ most_taken)

-- the table of ends, where over all verdicts this is said
abbrev pub Says : (List Verdict → List ℕ) → ListenEnd → Option (List ℕ) → Option (List ℕ)
    → Option (List ℕ) → Option (List ℕ) → (List Heard → List Verdict → Type 0) → Type 0
Says says ends.Ended left left_after old new Told =
    Whole says left left_after old new Told (EndsBetween left_after)
Says says ends.SourceFailed left left_after old new Told =
    Whole says left left_after old new Told EndsOpen
Says says ends.Broken left left_after old new Told =
    Whole says left left_after old new Told (EndsBroken left_after)
Says says ends.TooMuch left left_after old new Told =
    Whole says left left_after old new Told EndsFull
Says says end left left_after old new Told =
    Half says left left_after old new Told (HasVerdicts end)

-- the table of ends: `READY` first, and after each event the verdict's result and `READY`
abbrev pub Listens : ListenEnd → Option (List ℕ) → Option (List ℕ) → Option (List ℕ)
    → Option (List ℕ)
    → (List Heard → List Verdict → Type 0) → Type 0
Listens end left left_after old new Told = Says talk_over end left left_after old new Told

-- ---- parts of it

-- these events were given, each has its verdict, and the answers were written
pub record Answers (old new : Option (List ℕ)) (Told : List Heard → List Verdict → Type 0)
    (events : List Heard) : Type 0 where
  pub verdicts : List Verdict
  pub told : Told events verdicts
  pub each : length verdicts ≡ length events
  pub wrote : Appends old new (answers verdicts)

-- only the first of these events were given, and a prefix of the answers was written
pub record Stops (end : ListenEnd) (old new : Option (List ℕ))
    (Told : List Heard → List Verdict → Type 0) (events : List Heard) : Type 0 where
  pub given : List Heard
  pub later : List Heard
  pub parts : events ≡ given ++ later
  pub verdicts : List Verdict
  pub told : Told given verdicts
  pub has : HasVerdicts end (length verdicts) (length given)
  pub wrote : AppendsFront old new (answers verdicts)

-- a stop has one of the three causes that leave something unsaid
abbrev pub IsStop : ListenEnd → Type 0
IsStop ends.OutOfMemory = Unit {0}
IsStop ends.SinkFailed = Unit {0}
IsStop ends.HandlerFailed = Unit {0}
IsStop end = ⊥

-- there is no verdict, or no memory for its answer
abbrev pub IsUnhandled : ListenEnd → Type 0
IsUnhandled ends.OutOfMemory = Unit {0}
IsUnhandled ends.HandlerFailed = Unit {0}
IsUnhandled end = ⊥

-- the piece comes, its events are handled and answered
abbrev pub Goes : ListenerSide → List ℕ → ListenerSide → Option (List ℕ) → Option (List ℕ)
    → (List Heard → List Verdict → Type 0) → Type 0
Goes side piece after old new Told =
    (heard : List Heard) × Feeds side piece heard after × Answers old new Told heard

-- the piece comes, and something is left unsaid on what is heard of it
abbrev pub StopsIn : ListenEnd → ListenerSide → List ℕ → Option (List ℕ) → Option (List ℕ)
    → (List Heard → List Verdict → Type 0) → Type 0
StopsIn end side piece old new Told =
    (stream : List ℕ) (events : List Heard) → StandsFor side stream events
    → (heard : List Heard) × ((hearing_of (stream ++ piece)).events ≡ events ++ heard)
    × Stops end old new Told heard
