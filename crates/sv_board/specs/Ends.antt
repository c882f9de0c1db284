-- What a clause says of a board's writer, its tickets and its readers.
use Rattle.std.specs.Prelude.{◌≡◌, ℕ, List, [], take, slice_get, Some}
use Rattle.left_right.specs.Sides.{view}
use Rattle.sv_board.specs.Roles.{seen_in}
use Rattle.sv_board.specs.declared.home.Home.{Home}
use Rattle.sv_board.specs.declared.reader.BoardReader.{BoardReader}
use Rattle.sv_board.specs.declared.row.Report.{Report}
use Rattle.sv_board.specs.declared.ticket.Ticket.{Ticket}
use Rattle.sv_board.specs.declared.writer.BoardWriter.{BoardWriter}

-- how many reports there were when the ticket was given
abbrev pub told : Ticket → ℕ
told ticket = ticket.count

-- the reports whose board the reader's last read was
abbrev pub seen : BoardReader → List Report
seen reader = take reader.count (seen_in (view reader.end.place))

-- how many reports the tickets that the reader learnt tell of, at most
abbrev pub learnt : BoardReader → ℕ
learnt reader = reader.learnt

-- one call of `board` made the ticket's writer and this reader
abbrev pub IsOfOneBoard : Ticket → BoardReader → Type 0
IsOfOneBoard ticket reader = ticket.home.value ≡ reader.home.value

-- the reader of one board, before and after
abbrev pub IsSameReader : BoardReader → BoardReader → Type 0
IsSameReader old new = new.home.value ≡ old.home.value

-- these readers were made with this mark, and have read and learnt nothing
abbrev pub AreNewReaders : Home → List BoardReader → Type 0
AreNewReaders home readers =
    (k : ℕ) (r : BoardReader) → slice_get readers k ≡ Some r
    → (r.home.value ≡ home) × (seen r ≡ []) × (learnt r ≡ 0)

module _ {R : Type 0} where
  -- all that this writer reported
  abbrev pub reported : BoardWriter R → List Report
  reported writer = seen_in (view writer.end.desk.place)

  -- the ticket is of this writer
  abbrev pub IsTicketOf : BoardWriter R → Ticket → Type 0
  IsTicketOf writer ticket = ticket.home.value ≡ writer.home

  -- the writer of one board, before and after
  abbrev pub IsSameWriter : BoardWriter R → BoardWriter R → Type 0
  IsSameWriter old new = new.home ≡ old.home
