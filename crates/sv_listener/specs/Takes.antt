-- How events are taken from the front of what a listener got.
use Rattle.std.specs.Prelude.{◌≡◌, ℕ, List, [], ◌++◌, Option, None, Some}
use Rattle.sv_listener.specs.Hearing.{Hearing, hearing_of, first_of}
use Rattle.sv_listener.specs.Hearing.End.{Faulty}
use Rattle.sv_listener.specs.declared.events.Heard.{Heard}
use Rattle.sv_listener.specs.declared.events.HeardFault.{HeardFault}
use Rattle.sv_listener.specs.declared.first.First.TheVariants.{Open}

-- these events, and then what is heard further
abbrev pub with_events : List Heard → Hearing → Hearing
with_events events hearing = record { events = events ++ hearing.events; end = hearing.end }

-- whatever follows, what is heard of it comes after these events, and what is kept stands before it
abbrev pub GoesOn : List ℕ → List ℕ → List Heard → Type 0
GoesOn held stream events =
    (more : List ℕ) → hearing_of (stream ++ more) ≡ with_events events (hearing_of (held ++ more))

-- whatever follows, nothing more is heard
abbrev pub IsOver : HeardFault → List ℕ → List Heard → Type 0
IsOver fault stream events =
    (more : List ℕ) → hearing_of (stream ++ more) ≡ record { events = events; end = Faulty fault }

-- the fault and the bytes kept stand for a stream of which these events were heard
abbrev pub Stands : Option HeardFault → List ℕ → List ℕ → List Heard → Type 0
Stands None held stream events = GoesOn held stream events × (first_of held ≡ Open)
Stands (Some fault) held stream events = IsOver fault stream events × (held ≡ [])

-- what stands for a stream before the events are taken, stands for it after that
abbrev pub Takes : List ℕ → List Heard → List Heard → List ℕ → Option HeardFault → Type 0
Takes bytes old new rest fault =
    (stream : List ℕ) (earlier : List Heard) → GoesOn bytes stream (earlier ++ old)
    → Stands fault rest stream (earlier ++ new)
