-- A whole journal as what it says: how the daemon begins, and what stands after `go`.
use Rattle.std.specs.Prelude.{◌≡◌, ◌≤◌, ◌+◌, ℕ, List, [], ◌∷◌, ◌++◌, true, Option, Some, Ok, length}
use Rattle.std.specs.Io.KnownBytes.{Appends, Consumes, IsAtEnd}
use Rattle.sv_base.specs.Ascii.{line_feed}
use Rattle.sv_base.specs.declared.config.Config.{Config}
use Rattle.sv_base.specs.declared.config.Host.{Host}
use Rattle.sv_base.specs.declared.spec.GroupSpec.{GroupSpec}
use Rattle.sv_conf.specs.Configuration.{configuration_of}
use Rattle.sv_core.specs.Deeds.{after, deeds}
use Rattle.sv_core.specs.MachineState.{Model, accepts, next, opening}
use Rattle.sv_groups.specs.Changes.{with_group}
use Rattle.sv_journal.specs.JournalLine.{FitsHeader, header_line}
use Rattle.sv_journal.specs.Limits.{line_limit}
use Rattle.sv_journal.specs.declared.header.Header.{Header}
use Rattle.sv_journal.specs.declared.header.Header.TheVariants as header
use Rattle.sv_journal.specs.declared.header.Program.{Program}
use Rattle.sv_judge.specs.JournalPlaces.{Line, Stage, Verdict, heads, journal_text, order_text}
use Rattle.sv_judge.specs.JournalPlaces.{AllFit, walked}
use Rattle.sv_judge.specs.JournalPlaces.Line.{Head, Said, Noted}
use Rattle.sv_judge.specs.JournalPlaces.Stage.{Fresh, Running}
use Rattle.sv_judge.specs.JournalPlaces.Walked.{Reaches}
use Rattle.sv_loop.specs.Replaying.{TellsWhy, journal_limit}
use Rattle.sv_judge.specs.ShortHeader.{config_of, group_of, host_at}
use Rattle.sv_out.specs.declared.input.Input.{Input}
use Rattle.sv_out.specs.declared.order.Order.{Order}

-- what a header says: some programs and the start; or a host with the start in it, the known sizes,
-- the configuration's text and those that it includes, each with its name
pub data Beginning : Type 0 where
  Short : List Program → ℕ → Beginning
  Long : Host → List (List ℕ × ℕ) → List ℕ → List (List ℕ × List ℕ) → Beginning

-- a line for each program
abbrev pub program_lines : List Program → List Line
program_lines [] = []
program_lines (program ∷ programs) = Head (header.Program program) ∷ program_lines programs

-- a line for each variable of the environment
abbrev pub variable_lines : List (List ℕ × List ℕ) → List Line
variable_lines [] = []
variable_lines (variable ∷ more) = Head (header.Env variable.0 variable.1) ∷ variable_lines more

-- a line for each known size
abbrev pub size_lines : List (List ℕ × ℕ) → List Line
size_lines [] = []
size_lines (size ∷ more) = Head (header.Size size.0 size.1) ∷ size_lines more

-- a line for each included text
abbrev pub include_lines : List (List ℕ × List ℕ) → List Line
include_lines [] = []
include_lines (text ∷ more) = Head (header.Include text.0 text.1) ∷ include_lines more

-- what stands after `go`: an input, or an order that a daemon has given
pub data Entry : Type 0 where
  Told : Input → Entry
  Given : Order → Entry

-- a line for each
abbrev pub entry_lines : List Entry → List Line
entry_lines [] = []
entry_lines (Told input ∷ entries) = Said input ∷ entry_lines entries
entry_lines (Given order ∷ entries) = Noted order ∷ entry_lines entries

-- the inputs among them
abbrev pub inputs_in : List Entry → List Input
inputs_in [] = []
inputs_in (Told input ∷ entries) = input ∷ inputs_in entries
inputs_in (Given order ∷ entries) = inputs_in entries

-- a journal's lines: those of its header, then a line for each entry
abbrev pub journal_lines : Beginning → List Entry → List Line
journal_lines (Short programs start) entries =
    Head (header.Journal 0)
    ∷ (program_lines programs ++ Head (header.Go start) ∷ entry_lines entries)
journal_lines (Long host sizes text included) entries =
    Head (header.Journal 1) ∷ Head (header.Host host.name) ∷ Head (header.Here host.here)
    ∷ Head (header.Pid host.pid)
    ∷ (variable_lines host.environment
    ++ (size_lines sizes
    ++ Head (header.Conf text) ∷ (include_lines included
    ++ Head (header.Go host.start) ∷ entry_lines entries)))

-- the groups with those of the programs, each in its place
abbrev pub groups_of : List GroupSpec → List Program → List GroupSpec
groups_of groups [] = groups
groups_of groups (program ∷ programs) =
    groups_of (with_group (group_of program) groups) programs

-- the state in which the daemon of this header begins: that of its configuration
pub record IsConfigured (host : Host) (sizes : List (List ℕ × ℕ)) (text : List ℕ)
    (included : List (List ℕ × List ℕ)) (m : Model) : Type 0 where
  pub config : Config
  pub accepted : configuration_of text included host ≡ Ok config
  pub begins : m ≡ opening config sizes host

-- the machine as it begins
abbrev pub BeginsAs : Beginning → Model → Type 0
BeginsAs (Short programs start) m =
    m ≡ opening (config_of (groups_of [] programs)) [] (host_at start)
BeginsAs (Long host sizes text included) m = IsConfigured host sizes text included m

-- each input is accepted where it comes
abbrev pub AllAccepted : Model → List Input → Type 0
AllAccepted m [] = Unit {0}
AllAccepted m (input ∷ inputs) = (accepts m input ≡ true) × AllAccepted (next m input) inputs

-- the lines are a journal, its inputs are accepted, and these are their deeds
pub record SaysJournal (lines : List Line) (m : Model) (given : List Order) : Type 0 where
  pub beginning : Beginning
  pub first : Model
  pub begins : BeginsAs beginning first
  pub entries : List Entry
  pub spelled : lines ≡ journal_lines beginning entries
  pub accepted : AllAccepted first (inputs_in entries)
  pub state : m ≡ after first (inputs_in entries)
  pub orders : given ≡ deeds first (inputs_in entries)

-- lines that lead after `go` are a journal, and their orders are the deeds of its inputs; before
-- `go` there are no orders
abbrev pub TellsDeeds : List Line → Stage → List Order → Type 0
TellsDeeds lines (Running m) given = SaysJournal lines m given
TellsDeeds lines at given = given ≡ []

-- the source was read to its end, and gave a journal whose inputs are each accepted; the sink was
-- written the lines of the deeds of these inputs, and nothing else
pub record WritesDeeds (left left_after written written_after : Option (List ℕ)) : Type 0 where
  pub beginning : Beginning
  pub first : Model
  pub begins : BeginsAs beginning first
  pub entries : List Entry
  pub fit : AllFit (journal_lines beginning entries)
  pub taken : Consumes left left_after (journal_text (journal_lines beginning entries))
  pub at_end : IsAtEnd left_after
  pub accepted : AllAccepted first (inputs_in entries)
  pub wrote : Appends written written_after (order_text (deeds first (inputs_in entries)))

-- the source holds a good journal: each line is in the grammar of its place, they lead after `go`,
-- each input is accepted, and it has no more bytes than a journal may have
pub record HoldsGoodJournal (left : Option (List ℕ)) : Type 0 where
  pub lines : List Line
  pub model : Model
  pub given : List Order
  pub fit : AllFit lines
  pub walks : walked Fresh lines ≡ Reaches (Running model) given
  pub short : length (journal_text lines) ≤ journal_limit
  pub held : left ≡ Some (journal_text lines)

-- the replay was done, or it was hindered: by its source, by running out of memory or by its sink
pub data IsDoneOrHindered : ℕ → Type 0 where
  Is_done : IsDoneOrHindered 0
  Source_failed : IsDoneOrHindered 1
  No_memory : IsDoneOrHindered 3
  Sink_failed : IsDoneOrHindered 4

-- the source holds a header whose configuration isn't run, with anything after it: each line before
-- its last one is in the grammar of its place, and at the last one the configuration is refused
pub record HoldsUnconfigured (left : Option (List ℕ)) : Type 0 where
  pub lines : List Line
  pub fit : AllFit lines
  pub at : Stage
  pub given : List Order
  pub walks : walked Fresh lines ≡ Reaches at given
  pub last : Header
  pub fits : FitsHeader last
  pub last_short : length (header_line last) ≤ line_limit
  pub verdict : Verdict
  pub judged_so : heads at last ≡ verdict
  pub closing : List ℕ
  pub why : TellsWhy verdict closing
  pub rest : List ℕ
  pub held : left ≡ Some (journal_text lines ++ (header_line last ++ line_feed ∷ rest))
  pub short : length (journal_text lines) + (length (header_line last) + 1) ≤ journal_limit

-- the configuration was told to be refused, or the replay was hindered
pub data IsUnconfiguredOrHindered : ℕ → Type 0 where
  Is_unconfigured : IsUnconfiguredOrHindered 6
  Source_failed : IsUnconfiguredOrHindered 1
  No_memory : IsUnconfiguredOrHindered 3
  Sink_failed : IsUnconfiguredOrHindered 4
