-- How far a reader has come: what it keeps of the undecided bytes, and what it stands for.
use Rattle.std.specs.Prelude.{◌≡◌, ◌⊎◌, ◌<◌, ◌+◌, ◌==◌, ℕ, List, [], ◌∷◌, ◌++◌, Option, None, Some}
use Rattle.std.specs.Prelude.{Bool, true, length, min, option_map, nat_lt, if◌then◌else◌}
use Rattle.std.specs.List.{list_all}
use Rattle.sv_base.specs.Ascii.{carriage_return, line_feed}
use Rattle.sv_http.specs.AskTable.{Judged, body_limit}
use Rattle.sv_http.specs.RequestStream.{AreAsks, IsHead, head_length, head_limit, ends_line}
use Rattle.sv_http.specs.RequestStream.{is_begun}
use Rattle.sv_http.specs.Undecided.{behind_asks}
use Rattle.sv_http.specs.declared.ask.Ask.{Ask}
use Rattle.sv_http.specs.declared.guard.Guard.{Guard}
use Rattle.sv_http.specs.declared.head.Ruling.{Ruling}
use Rattle.sv_http.specs.declared.head.Ruling.TheVariants.{Refused, Takes}
use Rattle.sv_http.specs.declared.ask.Ask.TheVariants.{Call, Bad}
use Rattle.sv_http.specs.declared.status.Refusal.{Refusal}
use Rattle.sv_http.specs.declared.status.Refusal.TheVariants.{HeadTooLarge}
use Rattle.sv_http.specs.declared.line.Line.{Line}
use Rattle.sv_http.specs.declared.line.Line.TheVariants as line
use Rattle.sv_http.specs.declared.reader.HttpReader.{HttpReader}
use Rattle.sv_http.specs.declared.reader.StreamProgress.{StreamProgress}
use Rattle.sv_http.specs.declared.reader.StreamProgress.TheVariants as place

-- the last bytes of a head, which an empty line may still begin with
abbrev pub pending : Line → List ℕ
pending line.Text = []
pending line.Feed = line_feed ∷ []
pending line.FeedReturn = line_feed ∷ carriage_return ∷ []

-- what a further byte of the head makes of it; None after the empty line
abbrev pub after : Line → ℕ → Option Line
after line.Text byte = if byte == line_feed then Some line.Feed else Some line.Text
after line.Feed byte =
    if byte == line_feed then None
    else if byte == carriage_return then Some line.FeedReturn else Some line.Text
after line.FeedReturn byte = if byte == line_feed then None else Some line.Text

-- these bytes have no empty line, and whatever comes, the first one is that of the pending bytes
-- and what comes
abbrev pub IsSearched : List ℕ → Line → Type 0
IsSearched bytes at =
    (before : List ℕ) × (bytes ≡ before ++ pending at)
    ×
    ((more : List ℕ) → head_length (bytes ++ more) ≡ option_map (λ size. length before + size)
    (head_length (pending at ++ more)))

-- the first empty line ends these bytes
abbrev pub IsFound : List ℕ → Type 0
IsFound bytes = (more : List ℕ) → head_length (bytes ++ more) ≡ Some (length bytes)

-- whatever comes, the asks of what is kept and what comes are the next of the stream, in which what
-- is kept stands after these asks and some CR and LF
pub record GoesOn (guard : Guard) (kept stream : List ℕ) (asks : List Ask) : Type 0 where
  pub next : (more : List ℕ) (later : List Ask) → AreAsks guard (kept ++ more) later
      → AreAsks guard (stream ++ more) (asks ++ later)
  pub dropped : List ℕ
  pub dropped_is : list_all ends_line dropped ≡ true
  pub left : (more : List ℕ) → behind_asks guard asks (stream ++ more) ≡ dropped ++ (kept ++ more)

-- whatever comes, the stream has these asks, and nothing counts after them
pub record IsOver (guard : Guard) (stream : List ℕ) (asks : List Ask) : Type 0 where
  pub asked : (more : List ℕ) → AreAsks guard (stream ++ more) asks
  pub left : (more : List ℕ) → behind_asks guard asks (stream ++ more) ≡ []

-- what a place and the bytes that are kept stand for
abbrev pub Stands : Guard → StreamProgress → List ℕ → List ℕ → List ℕ → List Ask → Type 0
Stands guard (place.Head at) head body stream asks =
    IsSearched head at × ((head ≡ []) ⊎ (is_begun head ≡ true)) × (length head < head_limit)
    × (body ≡ []) × GoesOn guard head stream asks
Stands guard (place.Body size close) head body stream asks =
    (whole : List ℕ) × (is_begun whole ≡ true) × IsHead whole
    × Judged guard whole (Takes size.body close) × (length body < size.body)
    × (head ≡ []) × GoesOn guard (whole ++ body) stream asks × (size.head ≡ length whole)
Stands guard place.Over head body stream asks = IsOver guard stream asks
Stands guard place.Broken head body stream asks = ⊥

-- the reader stands for a stream of which these are the asks
abbrev pub StandsFor : HttpReader → List ℕ → List Ask → Type 0
StandsFor reader stream asks =
    Stands reader.guard reader.place reader.head.items reader.body.items stream asks

-- a request of the stream was refused
abbrev pub IsRefused : HttpReader → Type 0
IsRefused reader = reader.place ≡ place.Over

-- memory was refused
abbrev pub IsBroken : HttpReader → Type 0
IsBroken reader = reader.place ≡ place.Broken

-- whom the reader lets in
abbrev pub guard_of : HttpReader → Guard
guard_of reader = reader.guard

-- what a reader keeps, and the asks of the piece in hand
pub record ReaderState : Type 0 where
  pub place : StreamProgress
  pub head : List ℕ
  pub body : List ℕ
  pub asks : List Ask

-- a reading of these parts
abbrev pub reads : StreamProgress → List ℕ → List ℕ → List Ask → ReaderState
reads at head body asks = record { place = at; head = head; body = body; asks = asks }

-- what this reader keeps, and these asks of the piece in hand
abbrev pub shown : HttpReader → List Ask → ReaderState
shown reader asks = reads reader.place reader.head.items reader.body.items asks

-- whatever was stood for, these bytes now follow it
abbrev pub Advances : Guard → ReaderState → List ℕ → ReaderState → Type 0
Advances guard from bytes to =
    (stream : List ℕ) (earlier : List Ask)
    → Stands guard from.place from.head from.body stream (earlier ++ from.asks)
    → Stands guard to.place to.head to.body (stream ++ bytes) (earlier ++ to.asks)

-- what is refused ends the stream, and its head is let go
abbrev pub refused : Refusal → List ℕ → List Ask → ReaderState
refused refusal body asks = reads place.Over [] body (asks ++ Bad refusal ∷ [])

-- a head that isn't whole goes on, or is too long
abbrev pub goes_on : Line → List ℕ → List ℕ → List Ask → ReaderState
goes_on to head body asks =
    if nat_lt (length head) head_limit then reads (place.Head to) head body asks
    else refused HeadTooLarge body asks

-- a call is whole
abbrev pub called : Bool → List ℕ → List ℕ → List Ask → ReaderState
called close head body asks = reads (place.Head line.Text) head [] (asks ++ Call body close ∷ [])

-- after a whole head: a refusal, or a body, which is whole at once where it has no bytes
abbrev pub after_ruling : Ruling → List ℕ → List ℕ → List Ask → ReaderState
after_ruling (Refused refusal) head body asks = refused refusal body asks
after_ruling (Takes size close) head body asks =
    if size == 0 then called close [] [] asks
    else reads (place.Body (record { head = length head; body = size }) close) [] [] asks

-- a whole head is judged
abbrev pub EndsHead : Guard → List ℕ → List ℕ → List Ask → ReaderState → Type 0
EndsHead guard head body asks to =
    (judged : Ruling) × Judged guard head judged × (to ≡ after_ruling judged head body asks)

-- how many undecided bytes are kept or counted: no more than a head and a body may have
abbrev pub counted : StreamProgress → List ℕ → List ℕ → ℕ
counted (place.Head at) head body = min (length head) head_limit
counted (place.Body size close) head body = min size.head head_limit + min (length body) body_limit
counted place.Over head body = 0
counted place.Broken head body = 0
