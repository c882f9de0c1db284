-- The places of a journal: its title, its short or long header, `go`, then the inputs; what a line
-- is at its place, and what a list of lines leads to.
use Rattle.std.specs.Prelude.{◌≡◌, ℕ, zero, suc, List, [], ◌∷◌, ◌++◌, if◌then◌else◌, ◌≤◌, length}
use Rattle.std.specs.Prelude.{Bool, true, false, Option, Some, None, Result, Ok, Err, codes}
use Rattle.std.specs.List.{flat_map}
use Rattle.sv_base.specs.Ascii.{line_feed}
use Rattle.sv_base.specs.Roster.{is_roster}
use Rattle.sv_base.specs.declared.config.Config.{Config}
use Rattle.sv_base.specs.declared.config.Host.{Host}
use Rattle.sv_base.specs.declared.spec.GroupSpec.{GroupSpec}
use Rattle.sv_conf.specs.Configuration.{configuration_of}
use Rattle.sv_sections.specs.declared.fault.ConfFault.{ConfFault}
use Rattle.sv_core.specs.MachineState.{Model, opening, accepts, next, orders}
use Rattle.sv_groups.specs.Changes.{with_group}
use Rattle.sv_journal.specs.JournalLine.{header_line, input_line, order_line, FitsHeader, FitsInput}
use Rattle.sv_journal.specs.Limits.{line_limit}
use Rattle.sv_journal.specs.Orders.{FitsOrder}
use Rattle.sv_journal.specs.declared.header.Header.{Header}
use Rattle.sv_journal.specs.declared.header.Header.TheVariants as header_is
use Rattle.sv_judge.specs.LongHeader.{is_behind, host_of, with_variable, starting_at}
use Rattle.sv_judge.specs.ShortHeader.{group_of, config_of, host_at}
use Rattle.sv_judge.specs.declared.long.LongPlace.{LongPlace}
use Rattle.sv_judge.specs.declared.long.LongPlace.TheVariants.{Titled, Hosted, Located, Described}
use Rattle.sv_judge.specs.declared.long.LongPlace.TheVariants.{Configured}
use Rattle.sv_out.specs.declared.input.Input.{Input}
use Rattle.sv_out.specs.declared.order.Order.{Order}

-- what a line of a journal says: a header, an input, or an order that a daemon has given
pub data Line : Type 0 where
  Head : Header → Line
  Said : Input → Line
  Noted : Order → Line

-- the line's text, without its line feed; a mark stands before an order's line
abbrev pub line_text : Line → List ℕ
line_text (Head header) = header_line header
line_text (Said input) = input_line input
line_text (Noted order) = codes "> " ++ order_line order

-- it keeps the limits of its line
abbrev pub FitsLine : Line → Type 0
FitsLine (Head header) = FitsHeader header
FitsLine (Said input) = FitsInput input
FitsLine (Noted order) = FitsOrder order

-- where in the journal a line stands: at its beginning, after the title and some programs, in a
-- long header, or after `go`
pub data Stage : Type 0 where
  Fresh : Stage
  Named : List GroupSpec → Stage
  Long : LongPlace → Stage
  Running : Model → Stage

-- the place is before `go`
abbrev pub IsBeforeGo : Stage → Type 0
IsBeforeGo Fresh = Unit {0}
IsBeforeGo (Named groups) = Unit {0}
IsBeforeGo (Long place) = Unit {0}
IsBeforeGo (Running m) = ⊥

-- a line stands at its place, leads to the next one and gives orders; or it is out of place; or its
-- input isn't accepted; or the configuration has a fault
pub data Verdict : Type 0 where
  Stands : Stage → List Order → Verdict
  BadLine : Verdict
  NotAccepted : Verdict
  NotConfigured : ConfFault → Verdict

-- a program is one more group, if a configuration can hold it: at most 256 groups, each name once
abbrev pub adds : List GroupSpec → Verdict
adds groups = if is_roster groups then Stands (Named groups) [] else BadLine

-- version 0 has a short header, version 1 a long one
abbrev pub titles : ℕ → Verdict
titles zero = Stands (Named []) []
titles (suc zero) = Stands (Long Titled) []
titles (suc (suc version)) = BadLine

-- the lines of a long header before `go`, in their one order: `host`, `here`, `pid`, any `env`, any
-- `size`, `conf`, any `include`
abbrev pub described : Bool → Host → List (List ℕ × ℕ) → Option LongPlace
described true host sizes = Some (Described host sizes)
described false host sizes = None

-- the place after this line of a long header; none where the line has no place there
abbrev pub goes_on : LongPlace → Header → Option LongPlace
goes_on Titled (header_is.Host name) = Some (Hosted name)
goes_on (Hosted name) (header_is.Here here) = Some (Located name here)
goes_on (Located name here) (header_is.Pid pid) = Some (Described (host_of name here pid) [])
goes_on (Described host []) (header_is.Env name value) =
    described (is_behind name host.environment) (with_variable host name value) []
goes_on (Described host sizes) (header_is.Size file size) =
    described (is_behind file sizes) host (sizes ++ (file, size) ∷ [])
goes_on (Described host sizes) (header_is.Conf text) = Some (Configured host sizes text [])
goes_on (Configured host sizes text included) (header_is.Include name more) =
    Some (Configured host sizes text (included ++ (name, more) ∷ []))
goes_on place header = None

-- what is to be said of a line that leads there, or has no place
abbrev pub moved : Option LongPlace → Verdict
moved (Some place) = Stands (Long place) []
moved None = BadLine

-- at `go` the daemon begins, if the configuration is accepted
abbrev pub begins : Host → List (List ℕ × ℕ) → Result Config ConfFault → Verdict
begins host sizes (Ok config) = Stands (Running (opening config sizes host)) []
begins host sizes (Err fault) = NotConfigured fault

-- what is to be said of a line of a long header
abbrev pub long_heads : LongPlace → Header → Verdict
long_heads (Configured host sizes text included) (header_is.Go start) =
    begins (starting_at host start) sizes (configuration_of text included (starting_at host start))
long_heads place header = moved (goes_on place header)

-- what is to be said of a line of a header
abbrev pub heads : Stage → Header → Verdict
heads Fresh (header_is.Journal version) = titles version
heads (Named groups) (header_is.Program program) = adds (with_group (group_of program) groups)
heads (Named (group ∷ groups)) (header_is.Go start) =
    Stands (Running (opening (config_of (group ∷ groups)) [] (host_at start))) []
heads (Long place) header = long_heads place header
heads stage header = BadLine

-- what is to be said of an input: it is taken where the machine accepts it
abbrev pub says : Stage → Input → Verdict
says (Running m) input =
    if accepts m input then Stands (Running (next m input)) (orders m input) else NotAccepted
says stage input = BadLine

-- what is to be said of an order's line: after `go` it is passed over
abbrev pub passes_over : Stage → Verdict
passes_over (Running m) = Stands (Running m) []
passes_over stage = BadLine

-- what is to be said of a line
abbrev pub judged : Stage → Line → Verdict
judged stage (Head header) = heads stage header
judged stage (Said input) = says stage input
judged stage (Noted order) = passes_over stage

-- no line that stands at this place has the text
abbrev pub IsBadLine : Stage → List ℕ → Type 0
IsBadLine stage text =
    (line : Line) → FitsLine line → line_text line ≡ text → length text ≤ line_limit
    → judged stage line ≡ BadLine

-- the text is an input that isn't accepted
pub record IsNotAccepted (stage : Stage) (text : List ℕ) : Type 0 where
  pub input : Input
  pub fits : FitsInput input
  pub spelled : input_line input ≡ text
  pub short : length text ≤ line_limit
  pub refused : judged stage (Said input) ≡ NotAccepted

-- the text is a header line at which the configuration is judged so
pub record IsNotConfigured (stage : Stage) (text : List ℕ) (verdict : Verdict) : Type 0 where
  pub header : Header
  pub fits : FitsHeader header
  pub spelled : header_line header ≡ text
  pub short : length text ≤ line_limit
  pub judged_so : heads stage header ≡ verdict

-- the text is a line that leads to this place with these orders
pub record Leads (stage : Stage) (text : List ℕ) (to : Stage) (given : List Order) : Type 0 where
  pub line : Line
  pub fits : FitsLine line
  pub spelled : line_text line ≡ text
  pub short : length text ≤ line_limit
  pub stands : judged stage line ≡ Stands to given

-- the orders, a line for each
abbrev pub order_text : List Order → List ℕ
order_text given = flat_map (λ o. order_line o ++ line_feed ∷ []) given

-- what a list of lines leads to
pub data Walked : Type 0 where
  Reaches : Stage → List Order → Walked
  Stops : Walked

-- where a walk leads, after these orders
abbrev pub behind : List Order → Walked → Walked
behind given (Reaches at more) = Reaches at (given ++ more)
behind given Stops = Stops

-- a walk goes on from a line that stands, and ends at any other
abbrev pub walks_on : Verdict → (Stage → Walked) → Walked
walks_on (Stands at given) onward = behind given (onward at)
walks_on verdict onward = Stops

-- the lines from a place on: where they lead, with the joined orders
abbrev pub walked : Stage → List Line → Walked
walked at [] = Reaches at []
walked at (line ∷ lines) = walks_on (judged at line) (λ next. walked next lines)

-- the text of lines, each with its line feed
abbrev pub journal_text : List Line → List ℕ
journal_text lines = flat_map (λ line. line_text line ++ line_feed ∷ []) lines

-- each line can stand in a journal
abbrev pub AllFit : List Line → Type 0
AllFit [] = Unit {0}
AllFit (line ∷ lines) = FitsLine line × (length (line_text line) ≤ line_limit) × AllFit lines
