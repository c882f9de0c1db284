-- What is told of how a journal's reading ended.
use Rattle.std.specs.Prelude.{◌≡◌, ℕ, List, [], ◌∷◌, ◌+◌, ◌⊎◌, Option}
use Rattle.std.specs.Io.KnownBytes.{Appends, Consumes, IsAtEnd}
use Rattle.sv_loop.specs.Replaying.{bad_line, not_accepted, configuration_fault, source_failed}
use Rattle.sv_loop.specs.Replaying.{too_long}
use Rattle.sv_judge.specs.Judging.{IsRunning}
use Rattle.sv_loop.specs.declared.replaying.Ending.{Ending}
use Rattle.sv_loop.specs.declared.replaying.Ending.TheVariants.{Whole, Broken, Full, Stopped}
use Rattle.sv_loop.specs.declared.replaying.Status.{Status}
use Rattle.sv_loop.specs.declared.replaying.Status.TheVariants as status
use Rattle.sv_loop.specs.declared.run.End.{End}
use Rattle.sv_loop.specs.declared.run.End.TheVariants.{BadLine, NotAccepted, NotConfigured}
use Rattle.sv_loop.specs.declared.run.End.TheVariants.{NoMemory, SinkFailed}
use Rattle.sv_loop.specs.declared.run.Run.{Run}
use Rattle.sv_out.specs.Written.{AppendsFront}

-- the text was told, or a prefix of it
abbrev pub Tells : List ℕ → Status → Option (List ℕ) → Option (List ℕ) → Status → Type 0
Tells text want old new got =
    ((got ≡ want) × Appends old new text) ⊎ ((got ≡ status.SinkFailed) × AppendsFront old new text)

-- the same, or no memory was left for the text
abbrev pub TellsLine : List ℕ → Status → Option (List ℕ) → Option (List ℕ) → Status → Type 0
TellsLine text want old new got =
    Tells text want old new got ⊎ ((got ≡ status.NoMemory) × Appends old new [])

-- what stands at the limit
abbrev pub IsBehind : Ending → Option (List ℕ) → Option (List ℕ) → Type 0
IsBehind Whole left left_after = Consumes left left_after [] × IsAtEnd left_after
IsBehind Broken left left_after = Consumes left left_after []
IsBehind Full left left_after = (one : ℕ) × Consumes left left_after (one ∷ [])
IsBehind (Stopped end) left left_after = ⊥

-- a journal that ended at its source's end was whole, or its next line is at fault
abbrev pub TellsOfWhole : Run → Option (List ℕ) → Option (List ℕ) → Status → Type 0
TellsOfWhole run old new got =
    ((got ≡ status.Done) × (run.line.items ≡ []) × IsRunning run.place × Appends old new [])
    ⊎
    ((((run.line.items ≡ []) × IsRunning run.place) → ⊥)
    × TellsLine (bad_line (run.lines + 1)) status.BadLine old new got)

-- what the end of the reading at a line is told by
abbrev pub TellsOfLine : End → Run → Option (List ℕ) → Option (List ℕ) → Status → Type 0
TellsOfLine BadLine run old new got =
    TellsLine (bad_line (run.lines + 1)) status.BadLine old new got
TellsOfLine NotAccepted run old new got =
    TellsLine (not_accepted (run.lines + 1)) status.NotAccepted old new got
TellsOfLine (NotConfigured fault) run old new got =
    TellsLine (configuration_fault fault) status.NotConfigured old new got
TellsOfLine NoMemory run old new got = (got ≡ status.NoMemory) × Appends old new []
TellsOfLine SinkFailed run old new got = (got ≡ status.SinkFailed) × Appends old new []

-- what the end of the reading is told by
abbrev pub TellsOf : Ending → Run → Option (List ℕ) → Option (List ℕ) → Status → Type 0
TellsOf Whole run old new got = TellsOfWhole run old new got
TellsOf Broken run old new got = Tells source_failed status.SourceFailed old new got
TellsOf Full run old new got = Tells too_long status.TooLong old new got
TellsOf (Stopped end) run old new got = TellsOfLine end run old new got
