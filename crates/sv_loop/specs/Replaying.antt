-- What a journal that was replayed has come to, for each status.
use Rattle.std.specs.Prelude.{◌≡◌, ℕ, List, [], ◌∷◌, ◌++◌, ◌+◌, ◌<◌, ◌≤◌, ◌⊎◌, length, Option}
use Rattle.std.specs.Prelude.{codes}
use Rattle.std.specs.Fmt.{decimal}
use Rattle.std.specs.Io.KnownBytes.{Appends, Consumes, IsAtEnd, Keeps}
use Rattle.sv_base.specs.Ascii.{line_feed}
use Rattle.sv_sections.specs.FaultTexts.{fault_text}
use Rattle.sv_sections.specs.declared.fault.ConfFault.{ConfFault}
use Rattle.sv_core.specs.MachineState.{Model}
use Rattle.sv_journal.specs.Limits.{line_limit}
use Rattle.sv_judge.specs.JournalPlaces.{IsBeforeGo, Line, Stage, Verdict, order_text}
use Rattle.sv_judge.specs.JournalPlaces.Stage.{Running}
use Rattle.sv_judge.specs.JournalPlaces.Verdict.{NotConfigured}
use Rattle.sv_loop.specs.Reading.{IsRead, OutsideGrammar, UnacceptedLine, UnconfiguredLine, GoesOn}
use Rattle.sv_loop.specs.Reading.{StopsAt}
use Rattle.sv_loop.specs.declared.replaying.Ending.{Ending}
use Rattle.sv_loop.specs.declared.replaying.Ending.TheVariants as ending
use Rattle.sv_loop.specs.declared.replaying.Status.{Status}
use Rattle.sv_loop.specs.declared.replaying.Status.TheVariants as status
use Rattle.sv_loop.specs.declared.run.Run.{Run}
use Rattle.sv_out.specs.Written.{AppendsFront}
use Rattle.sv_out.specs.declared.order.Order.{Order}

-- the most bytes of a journal
abbrev pub journal_limit : ℕ
journal_limit = 67108864

-- the one word of the call
abbrev pub AreRun : List (List ℕ) → Type 0
AreRun words = words ≡ codes "run" ∷ []

-- the line that says which words there are
abbrev pub usage : List ℕ
usage = codes "Error: usage: sv_replay run or sv_replay gen N" ++ line_feed ∷ []

-- the number of a status
abbrev pub status_number : Status → ℕ
status_number status.Done = 0
status_number status.SourceFailed = 1
status_number status.WordsRefused = 2
status_number status.NoMemory = 3
status_number status.SinkFailed = 4
status_number status.BadLine = 5
status_number status.NotConfigured = 6
status_number status.NotAccepted = 7
status_number status.TooLong = 8

-- the line that tells of a fault at a line
abbrev pub fault_line : List ℕ → ℕ → List ℕ
fault_line front line = front ++ decimal line ++ line_feed ∷ []

-- the closing line of a line outside the grammar
abbrev pub bad_line : ℕ → List ℕ
bad_line line = fault_line (codes "fault 5 line ") line

-- that of an input which is not accepted
abbrev pub not_accepted : ℕ → List ℕ
not_accepted line = fault_line (codes "fault 7 line ") line

-- that of a source that failed
abbrev pub source_failed : List ℕ
source_failed = codes "fault 1" ++ line_feed ∷ []

-- that of a journal which is too long
abbrev pub too_long : List ℕ
too_long = codes "fault 8" ++ line_feed ∷ []

-- the line that tells of a fault in the configuration
unfoldable pub configuration_fault : ConfFault → List ℕ
configuration_fault fault = codes "fault 6 conf " ++ fault_text fault ++ line_feed ∷ []

-- the line that tells why the configuration isn't run
abbrev pub TellsWhy : Verdict → List ℕ → Type 0
TellsWhy (NotConfigured fault) line = line ≡ configuration_fault fault
TellsWhy verdict line = ⊥

-- the source is at its end, and the journal's end alone makes the fault: a line without a line
-- feed, or no `go`
pub record EndsTooEarly (left : Option (List ℕ)) (at : Stage) (text rest : List ℕ) : Type 0 where
  pub at_end : IsAtEnd left
  pub nothing_behind : rest ≡ []
  pub cause : (0 < length text) ⊎ IsBeforeGo at

-- nothing was read after the text, which is no longer than a line
pub record EndsInLine (at : Stage) (text rest : List ℕ) : Type 0 where
  pub nothing_behind : rest ≡ []
  pub short : length text ≤ line_limit

-- these bytes were taken, at most as many as a journal may have
pub record Taken (left left_after : Option (List ℕ)) (bytes : List ℕ) : Type 0 where
  pub consumed : Consumes left left_after bytes
  pub within : length bytes ≤ journal_limit

-- a whole journal, read to its end, whose orders were written
pub record Done (left left_after written written_after : Option (List ℕ)) : Type 0 where
  pub bytes : List ℕ
  pub taken : Taken left left_after bytes
  pub at_end : IsAtEnd left_after
  pub lines : List Line
  pub model : Model
  pub given : List Order
  pub read : IsRead bytes given lines (Running model) [] []
  pub wrote : Appends written written_after (order_text given)

-- a closing line with the number of the line after these
abbrev pub line_behind : (ℕ → List ℕ) → List Line → List ℕ
line_behind closing lines = closing (length lines + 1)

-- the whole lines were worked off, and their orders with this closing line after them are the text
pub record Closed (left left_after : Option (List ℕ)) (Wrote : List ℕ → Type 0)
    (closing : List Line → List ℕ)
    (Cause : Stage → List ℕ → List ℕ → Type 0) : Type 0 where
  pub bytes : List ℕ
  pub taken : Taken left left_after bytes
  pub lines : List Line
  pub at : Stage
  pub given : List Order
  pub text : List ℕ
  pub rest : List ℕ
  pub read : IsRead bytes given lines at text rest
  pub cause : Cause at text rest
  pub wrote : Wrote (order_text given ++ closing lines)

-- the header is whole and its configuration isn't run: this is told, and nothing else
pub record Unconfigured (left left_after : Option (List ℕ)) (Wrote : List ℕ → Type 0) : Type 0 where
  pub bytes : List ℕ
  pub taken : Taken left left_after bytes
  pub lines : List Line
  pub at : Stage
  pub text : List ℕ
  pub rest : List ℕ
  pub read : IsRead bytes [] lines at text rest
  pub verdict : Verdict
  pub cause : UnconfiguredLine verdict at text rest
  pub closing : List ℕ
  pub why : TellsWhy verdict closing
  pub wrote : Wrote closing

-- a journal of which more bytes are there than one may have: the orders are those of the whole
-- lines within the limit
pub record Overfull (left left_after : Option (List ℕ)) (Wrote : List ℕ → Type 0) : Type 0 where
  pub bytes : List ℕ
  pub one_more : ℕ
  pub consumed : Consumes left left_after (bytes ++ one_more ∷ [])
  pub size : length bytes ≡ journal_limit
  pub lines : List Line
  pub at : Stage
  pub given : List Order
  pub text : List ℕ
  pub short : length text ≤ line_limit
  pub read : IsRead bytes given lines at text []
  pub wrote : Wrote (order_text given ++ too_long)

-- the rows of the statuses at which a journal isn't replayed to its end, where this was done with
-- the text
abbrev pub BreaksOff : Status → Option (List ℕ) → Option (List ℕ) → (List ℕ → Type 0) → Type 0
BreaksOff status.SourceFailed left left_after Wrote =
    Closed left left_after Wrote (λ lines. source_failed) EndsInLine
BreaksOff status.NoMemory left left_after Wrote =
    Closed left left_after Wrote (λ lines. []) (λ at text rest. Unit {0})
BreaksOff status.BadLine left left_after Wrote =
    Closed left left_after Wrote (line_behind bad_line)
    (λ at text rest. OutsideGrammar at text rest ⊎ EndsTooEarly left_after at text rest)
BreaksOff status.NotConfigured left left_after Wrote = Unconfigured left left_after Wrote
BreaksOff status.NotAccepted left left_after Wrote =
    Closed left left_after Wrote (line_behind not_accepted) UnacceptedLine
BreaksOff status.TooLong left left_after Wrote = Overfull left left_after Wrote
BreaksOff other left left_after Wrote = ⊥

-- the sink failed: the row of another status holds, but that a prefix of its text alone was
-- written; while orders were written it is that of 3, which has no closing line
pub record HalfTold (left left_after written written_after : Option (List ℕ)) : Type 0 where
  pub other : Status
  pub row : BreaksOff other left left_after (AppendsFront written written_after)

-- the table of statuses where the word is `run`, so that 2 isn't among them
abbrev pub Replays : Status → Option (List ℕ) → Option (List ℕ) → Option (List ℕ) → Option (List ℕ)
    → Type 0
Replays status.Done left left_after old new = Done left left_after old new
Replays status.SinkFailed left left_after old new = HalfTold left left_after old new
Replays other left left_after old new = BreaksOff other left left_after (Appends old new)

-- ---- how the reading ended

-- all but so many bytes of a journal were taken
pub record ReadsOn (run : Run) (room : ℕ) (left left_after old new : Option (List ℕ)) : Type 0 where
  pub bytes : List ℕ
  pub consumed : Consumes left left_after bytes
  pub size : length bytes + room ≡ journal_limit
  pub goes : GoesOn run bytes [] old new

-- the bytes of the run are those that the source lost
pub record ReadOn (run : Run) (left left_after old new : Option (List ℕ)) : Type 0 where
  pub bytes : List ℕ
  pub taken : Taken left left_after bytes
  pub goes : GoesOn run bytes [] old new

-- how the reading ended
abbrev pub Ended : Ending → Run → Option (List ℕ) → Option (List ℕ) → Option (List ℕ)
    → Option (List ℕ) → Type 0
Ended ending.Whole run left left_after old new =
    ReadOn run left left_after old new × IsAtEnd left_after
Ended ending.Broken run left left_after old new = ReadOn run left left_after old new
Ended ending.Full run left left_after old new =
    (bytes : List ℕ) × (one : ℕ) × Consumes left left_after (bytes ++ one ∷ [])
    × (length bytes ≡ journal_limit) × GoesOn run bytes [] old new
Ended (ending.Stopped end) run left left_after old new =
    (bytes : List ℕ) × Taken left left_after bytes × StopsAt end run bytes [] old new

-- the words were refused: nothing was read, and the usage line was written, or a prefix of it where
-- the sink failed
abbrev pub Refuses : ℕ → Option (List ℕ) → Option (List ℕ) → Option (List ℕ) → Option (List ℕ)
    → Type 0
Refuses got left left_after old new =
    Keeps left left_after
    × (((got ≡ 2) × Appends old new usage) ⊎ ((got ≡ 4) × AppendsFront old new usage))

-- the status with this number has its row of the table
pub record ReplaysAs (got : ℕ) (left left_after old new : Option (List ℕ)) : Type 0 where
  pub status : Status
  pub number : got ≡ status_number status
  pub row : Replays status left left_after old new
