-- What became of a daemon, over a shelf, a world and a journal that tell.
use Rattle.std.specs.Prelude.{◌≡◌, ◌⊎◌, ℕ, List, Bool, None, Some, Option, Ok, Err, if◌then◌else◌}
use Rattle.std.specs.Io.KnownBytes.{Appends}
use Rattle.sv_supervise.specs.Arguments.{arguments_of}
use Rattle.sv_supervise.specs.declared.arguments.Arguments.{Arguments}
use Rattle.sv_base.specs.declared.config.Host.{Host}
use Rattle.sv_supervise.specs.Begin.Beginnings.{BeginsWith}
use Rattle.sv_supervise.specs.declared.begin.beginning.Beginning.{Beginning}
use Rattle.sv_core.specs.MachineState.{Model, opening}
use Rattle.sv_supervise.specs.MainLoop.Course.{Stops}
use Rattle.sv_supervise.specs.MainLoop.Telling.{Told}
use Rattle.sv_supervise.specs.declared.main_loop.serving.End.{End}
use Rattle.sv_supervise.specs.declared.main_loop.serving.End.TheVariants as end_is
use Rattle.sv_out.specs.Faults.{Rose}
use Rattle.sv_out.specs.Files.{Files}
use Rattle.sv_out.specs.Written.{AppendsFront}
use Rattle.sv_supervise.specs.Outcomes.{Tells}
use Rattle.sv_supervise.specs.declared.outcome.Outcome.{Outcome}
use Rattle.sv_supervise.specs.declared.outcome.Outcome.TheVariants.{Usage, NoFile, Refused}
use Rattle.sv_supervise.specs.declared.outcome.Outcome.TheVariants.{Unreadable, NoMemory, Unwritten}
use Rattle.sv_supervise.specs.declared.outcome.Outcome.TheVariants.{Halted, WorldFailed, InputEnded}
use Rattle.sv_supervise.specs.declared.outcome.Outcome.TheVariants.{Full, Misplaced}
use Rattle.sv_supervise.specs.Journal.Begun.{begun}
use Rattle.sv_supervise.specs.Journal.Header.{header_text}
use Rattle.sv_supervise.specs.Journal.Lines.{texts_of}
use Rattle.sv_supervise.specs.declared.journal.lines.JournalLines.{JournalLines}
use Rattle.sv_supervise.specs.declared.journal.lines.JournalLines.TheVariants.{Kept, Quiet}
use Rattle.sv_supervise.specs.Machines.{core_rules}

-- whether a journal is kept
abbrev pub lines_of : Bool → JournalLines
lines_of is_kept = if is_kept then Kept else Quiet

-- the header of a daemon that begins so, which is empty where no journal is kept
abbrev pub header_of : JournalLines → Beginning → Host → List ℕ
header_of lines beginning host =
    begun lines
    (header_text host beginning.sizes.items beginning.loaded.main beginning.loaded.included)

-- the state of its machine
abbrev pub machine_of : Beginning → Host → Model
machine_of beginning host = opening beginning.loaded.config beginning.sizes.items host

-- no input was given and no order handed over
pub record IsStill (old new : Told) : Type 0 where
  pub given : new.given ≡ old.given
  pub left : new.left ≡ old.left
  pub handed : new.handed ≡ old.handed

-- the header was written, and the loop came to this end
pub record Serves (lines : JournalLines) (beginning : Beginning) (host : Host) (old new : Told)
    (end : End) : Type 0 where
  pub mid : Told
  pub still : IsStill old mid
  pub header : Appends old.journal mid.journal (header_of lines beginning host)
  pub stops : Stops core_rules (texts_of lines) 0 (machine_of beginning host) mid new end

-- the header was written, and nothing else was done
pub record IsIdle (lines : JournalLines) (beginning : Beginning) (host : Host) (old new : Told)
    : Type 0 where
  pub still : IsStill old new
  pub header : Appends old.journal new.journal (header_of lines beginning host)

-- a part of the header was written, and nothing else was done
pub record IsCutShort (lines : JournalLines) (beginning : Beginning) (host : Host) (old new : Told)
    : Type 0 where
  pub still : IsStill old new
  pub header : AppendsFront old.journal new.journal (header_of lines beginning host)

-- what an end of the loop is for the daemon
abbrev pub outcome_of : End → Outcome
outcome_of end_is.Halted = Halted
outcome_of end_is.NoMemory = NoMemory
outcome_of end_is.Broken = WorldFailed
outcome_of end_is.Ended = InputEnded
outcome_of end_is.Full = Full
outcome_of end_is.Unwritten = Unwritten
outcome_of (end_is.Misplaced number) = Misplaced number

-- what becomes of a daemon that has read what it begins with
abbrev pub RunsTo : JournalLines → Beginning → Host → Told → Told → Outcome → Type 0
RunsTo lines beginning host old new Usage = ⊥
RunsTo lines beginning host old new (NoFile name) = ⊥
RunsTo lines beginning host old new (Refused text) = ⊥
RunsTo lines beginning host old new (Unreadable name) = ⊥
RunsTo lines beginning host old new NoMemory =
    (new ≡ old)
    ⊎ (IsIdle lines beginning host old new ⊎ Serves lines beginning host old new end_is.NoMemory)
RunsTo lines beginning host old new Unwritten =
    IsCutShort lines beginning host old new ⊎ Serves lines beginning host old new end_is.Unwritten
RunsTo lines beginning host old new Halted = Serves lines beginning host old new end_is.Halted
RunsTo lines beginning host old new WorldFailed = Serves lines beginning host old new end_is.Broken
RunsTo lines beginning host old new InputEnded = Serves lines beginning host old new end_is.Ended
RunsTo lines beginning host old new Full = Serves lines beginning host old new end_is.Full
RunsTo lines beginning host old new (Misplaced number) =
    Serves lines beginning host old new (end_is.Misplaced number)

-- the words say this, and these files hold what the daemon begins with
pub record Reads (words : List (List ℕ)) (host : Host) (files : Files) : Type 0 where
  pub arguments : Arguments
  pub said : arguments_of words ≡ Some arguments
  pub beginning : Beginning
  pub begins : BeginsWith files arguments.file host (Ok beginning)

-- it was read, and what was done then came to this
pub record Runs (words : List (List ℕ)) (host : Host) (files : Files) (old new : Told)
    (outcome : Outcome) : Type 0 where
  pub reads : Reads words host files
  pub runs : RunsTo (lines_of reads.arguments.journal) reads.beginning host old new outcome

-- the words are taken, but what the daemon begins with can't be read, and nothing else was done
pub record CantBegin (words : List (List ℕ)) (host : Host) (files : Files) (old new : Told)
    (outcome : Outcome) : Type 0 where
  pub arguments : Arguments
  pub said : arguments_of words ≡ Some arguments
  pub because : BeginsWith files arguments.file host (Err outcome)
  pub untouched : new ≡ old

-- the words are refused, and nothing was done
pub record IsMisused (words : List (List ℕ)) (old new : Told) : Type 0 where
  pub refused : arguments_of words ≡ None
  pub untouched : new ≡ old

-- what the outcome means
abbrev pub ComesTo : List (List ℕ) → Host → Files → Told → Told → Outcome → Type 0
ComesTo words host files old new Usage = IsMisused words old new
ComesTo words host files old new (NoFile name) = CantBegin words host files old new (NoFile name)
ComesTo words host files old new (Refused text) = CantBegin words host files old new (Refused text)
ComesTo words host files old new (Unreadable name) =
    CantBegin words host files old new (Unreadable name)
ComesTo words host files old new NoMemory = (new ≡ old) ⊎ Runs words host files old new NoMemory
ComesTo words host files old new Unwritten = Runs words host files old new Unwritten
ComesTo words host files old new Halted = Runs words host files old new Halted
ComesTo words host files old new WorldFailed = Runs words host files old new WorldFailed
ComesTo words host files old new InputEnded = Runs words host files old new InputEnded
ComesTo words host files old new Full = Runs words host files old new Full
ComesTo words host files old new (Misplaced number) =
    Runs words host files old new (Misplaced number)

-- what became of the daemon, and was told on its output with this status
pub record Supervises (words : List (List ℕ)) (host : Host) (files : Files) (old new : Told)
    (written written_now : Option (List ℕ)) (faults faults_now status : ℕ) : Type 0 where
  pub outcome : Outcome
  pub comes : ComesTo words host files old new outcome
  pub tells : Tells outcome written written_now faults faults_now status

-- a write to the journal or to the output failed
abbrev pub FailsFor : ℕ → ℕ → ℕ → ℕ → Type 0
FailsFor journal journal_now out out_now = Rose journal journal_now ⊎ Rose out out_now
