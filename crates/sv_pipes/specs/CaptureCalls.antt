-- What the calls of a capture do to the stream that it stands for.
use Rattle.std.specs.Prelude.{◌≡◌, ◌++◌, ℕ, List}
use Rattle.sv_pipes.specs.CaptureCut.{Decided, IsClosed, grouped}
use Rattle.sv_pipes.specs.CapturePlaces.{StandsFor}
use Rattle.sv_pipes.specs.StreamCut.{decided_of, closed_of, undecided_of}
use Rattle.sv_pipes.specs.declared.captured.Capture.{Capture}
use Rattle.sv_pipes.specs.declared.parts.Part.{Part}

-- the piece comes, and what it decides makes these parts
abbrev pub Feeds : Capture → List ℕ → List Part → Capture → Type 0
Feeds old piece parts new =
    (limit : ℕ) (stream : List ℕ) (decided : List Decided) → StandsFor old limit stream decided
    → (fresh : List Decided) × (parts ≡ grouped fresh)
    × StandsFor new limit (stream ++ piece) (decided ++ fresh)

-- they are what is new in what is decided of the whole stream
abbrev pub Tells : Capture → List ℕ → List Part → Type 0
Tells old piece parts =
    (limit : ℕ) (stream : List ℕ) (decided : List Decided) → StandsFor old limit stream decided
    → (fresh : List Decided) × (parts ≡ grouped fresh)
    × (decided ++ fresh ≡ decided_of limit (stream ++ piece))

-- the stream ends, and what that decides makes these parts
abbrev pub Closes : Capture → List Part → Type 0
Closes value parts =
    (limit : ℕ) (stream : List ℕ) (decided : List Decided) → StandsFor value limit stream decided
    → (fresh : List Decided) × (parts ≡ grouped fresh) × IsClosed limit stream (decided ++ fresh)

-- they are what is new in what is decided of the stream that ended
abbrev pub TellsEnd : Capture → List Part → Type 0
TellsEnd value parts =
    (limit : ℕ) (stream : List ℕ) (decided : List Decided) → StandsFor value limit stream decided
    → (fresh : List Decided) × (parts ≡ grouped fresh)
    × (decided ++ fresh ≡ closed_of limit stream)

-- so many bytes of the whole stream aren't decided yet
abbrev pub Holds : Capture → ℕ → Type 0
Holds value count =
    (limit : ℕ) (stream : List ℕ) (decided : List Decided) → StandsFor value limit stream decided
    → count ≡ undecided_of limit stream

-- there is no stream that the value stands for
abbrev pub StandsForNone : Capture → Type 0
StandsForNone value =
    (limit : ℕ) (stream : List ℕ) (decided : List Decided) → StandsFor value limit stream decided
    → ⊥
