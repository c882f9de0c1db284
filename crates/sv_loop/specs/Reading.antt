-- How far a journal was read: its whole lines, each of which stood at its place, and what is after
-- them.
use Rattle.std.specs.Prelude.{◌≡◌, ℕ, List, [], ◌∷◌, ◌++◌, Bool, false, ◌==◌, ◌≤◌, ◌<◌, ◌⊎◌, length}
use Rattle.std.specs.Prelude.{Option}
use Rattle.std.specs.Io.KnownBytes.{Appends}
use Rattle.std.specs.List.{list_any}
use Rattle.sv_base.specs.Ascii.{line_feed}
use Rattle.sv_journal.specs.Limits.{line_limit}
use Rattle.sv_judge.specs.JournalPlaces.{Line, Stage, Verdict, walked, journal_text, order_text}
use Rattle.sv_judge.specs.JournalPlaces.{AllFit, IsBadLine, IsNotAccepted, IsNotConfigured}
use Rattle.sv_judge.specs.JournalPlaces.Stage.{Fresh}
use Rattle.sv_judge.specs.JournalPlaces.Verdict.{NotConfigured as As_not_configured}
use Rattle.sv_judge.specs.JournalPlaces.Walked.{Reaches}
use Rattle.sv_judge.specs.Judging.{IsPlace}
use Rattle.sv_judge.specs.declared.judging.Refused.{Refused}
use Rattle.sv_judge.specs.declared.judging.Refused.TheVariants as refused_is
use Rattle.sv_loop.specs.declared.run.End.{End}
use Rattle.sv_loop.specs.declared.run.End.TheVariants.{BadLine, NotAccepted, NotConfigured}
use Rattle.sv_loop.specs.declared.run.End.TheVariants.{NoMemory, SinkFailed}
use Rattle.sv_loop.specs.declared.run.Run.{Run}
use Rattle.sv_out.specs.Written.{AppendsFront}
use Rattle.sv_out.specs.declared.order.Order.{Order}

-- a line feed is among them
abbrev pub has_feed : List ℕ → Bool
has_feed bytes = list_any (λ byte. byte == line_feed) bytes

-- the bytes are whole lines that lead to this place with these orders, then a text without a line
-- feed, then a rest
pub record IsRead (bytes : List ℕ) (given : List Order) (lines : List Line) (at : Stage)
    (text rest : List ℕ) : Type 0 where
  pub walks : walked Fresh lines ≡ Reaches at given
  pub fit : AllFit lines
  pub spelled : bytes ≡ journal_text lines ++ (text ++ rest)
  pub unbroken : has_feed text ≡ false

-- a line ends here: these bytes stand before the first line feed, and these after it
pub record IsCut (bytes line behind : List ℕ) : Type 0 where
  pub is : bytes ≡ line ++ line_feed ∷ behind
  pub unbroken : has_feed line ≡ false

-- so many whole lines were taken, and this text of the next
pub record Holds (count : ℕ) (lines : List Line) (at : Stage) (given : List Order)
    (bytes text : List ℕ) : Type 0 where
  pub read : IsRead bytes given lines at text []
  pub short : length text ≤ line_limit
  pub count_is : count ≡ length lines

-- the reader has taken these bytes
pub record IsAt (run : Run) (lines : List Line) (at : Stage) (given : List Order) (bytes : List ℕ)
    : Type 0 where
  pub read : IsRead bytes given lines at run.line.items []
  pub short : length run.line.items ≤ line_limit
  pub count : run.lines ≡ length lines
  pub place : IsPlace run.place at

-- the reader has taken these bytes, and the orders that they gave beyond the earlier ones were
-- written
pub record GoesOn (run : Run) (bytes : List ℕ) (earlier : List Order) (old new : Option (List ℕ))
    : Type 0 where
  pub lines : List Line
  pub at : Stage
  pub more : List Order
  pub is_at : IsAt run lines at (earlier ++ more) bytes
  pub wrote : Appends old new (order_text more)

-- a line is at fault: it is whole and can't stand at its place, or it is too long
pub record AtFault (run : Run) (Cause : Stage → List ℕ → List ℕ → Type 0) (bytes : List ℕ)
    (earlier : List Order) (old new : Option (List ℕ)) : Type 0 where
  pub lines : List Line
  pub at : Stage
  pub more : List Order
  pub text : List ℕ
  pub rest : List ℕ
  pub read : IsRead bytes (earlier ++ more) lines at text rest
  pub cause : Cause at text rest
  pub count : run.lines ≡ length lines
  pub wrote : Appends old new (order_text more)

-- the text is a whole line
pub record IsWhole (rest : List ℕ) : Type 0 where
  pub behind : List ℕ
  pub feed : rest ≡ line_feed ∷ behind

-- the rest is outside the grammar: a line has no place, or is too long
abbrev pub OutsideGrammar : Stage → List ℕ → List ℕ → Type 0
OutsideGrammar at text rest = (IsWhole rest × IsBadLine at text) ⊎ (line_limit < length text)

-- it is an input that the machine does not accept
abbrev pub UnacceptedLine : Stage → List ℕ → List ℕ → Type 0
UnacceptedLine at text rest = IsWhole rest × IsNotAccepted at text

-- its configuration is refused, and so is what is said of it
abbrev pub UnconfiguredLine : Verdict → Stage → List ℕ → List ℕ → Type 0
UnconfiguredLine verdict at text rest = IsWhole rest × IsNotConfigured at text verdict

-- nothing is claimed
abbrev pub Anything : Stage → List ℕ → List ℕ → Type 0
Anything at text rest = Unit {0}

-- the orders of the last whole line couldn't be written
pub record HalfWritten (bytes : List ℕ) (earlier : List Order) (old new : Option (List ℕ)) : Type 0
  where
    pub lines : List Line
    pub at : Stage
    pub more : List Order
    pub rest : List ℕ
    pub read : IsRead bytes (earlier ++ more) lines at [] rest
    pub wrote : AppendsFront old new (order_text more)

-- a line that is refused stops the reading
abbrev pub end_of : Refused → End
end_of refused_is.BadLine = BadLine
end_of refused_is.NotAccepted = NotAccepted
end_of (refused_is.NotConfigured fault) = NotConfigured fault
end_of refused_is.NoMemory = NoMemory

-- why the reading stopped at a line
abbrev pub StopsAt : End → Run → List ℕ → List Order → Option (List ℕ) → Option (List ℕ) → Type 0
StopsAt BadLine run bytes earlier old new = AtFault run OutsideGrammar bytes earlier old new
StopsAt NotAccepted run bytes earlier old new = AtFault run UnacceptedLine bytes earlier old new
StopsAt (NotConfigured fault) run bytes earlier old new =
    AtFault run (UnconfiguredLine (As_not_configured fault)) bytes earlier old new
StopsAt NoMemory run bytes earlier old new = AtFault run Anything bytes earlier old new
StopsAt SinkFailed run bytes earlier old new = HalfWritten bytes earlier old new

-- what a write of orders that failed has left
abbrev pub Unwrote : End → List ℕ → Option (List ℕ) → Option (List ℕ) → Type 0
Unwrote NoMemory text old new = Appends old new []
Unwrote SinkFailed text old new = AppendsFront old new text
Unwrote end text old new = ⊥
