-- How far the reader of a reply has come, and what it answers.
use Rattle.std.specs.Prelude.{◌≡◌, ◌<◌, ◌≤◌, ℕ, List, Option, None, Some, Result, Ok, Err, length}
use Rattle.std.specs.Prelude.{drop}
use Rattle.httparse.specs.Grammar.{MayBecomeResponse}
use Rattle.sv_http.specs.RequestStream.{head_limit}
use Rattle.sv_http.specs.ReplyStream.{Begins, IsReply, NeverReply, IsNoReply, GoesOn}
use Rattle.sv_http.specs.declared.verdict.Verdict.{Verdict}
use Rattle.sv_http.specs.declared.verdict.Verdict.TheVariants as verdict
use Rattle.sv_http.specs.declared.reply_reader.Replied.{Replied}
use Rattle.sv_http.specs.declared.reply_reader.ReplyFault.{ReplyFault}
use Rattle.sv_http.specs.declared.reply_reader.ReplyFault.TheVariants.{NotAReply, OutOfMemory}
use Rattle.sv_http.specs.declared.reply_reader.ReplyReader.{ReplyReader}
use Rattle.sv_http.specs.declared.reply_reader.ReplyPlace.{ReplyPlace}
use Rattle.sv_http.specs.declared.reply_reader.ReplyPlace.TheVariants as place

-- what a verdict on the first bytes says
abbrev pub Judges : List ℕ → Verdict → Type 0
Judges bytes verdict.Unfinished =
    IsNoReply bytes × MayBecomeResponse bytes
    × ((status size : ℕ) (body : List ℕ) → Begins bytes status size body → ⊥)
Judges bytes verdict.Never = NeverReply bytes
Judges bytes (verdict.Head count status size) =
    (count ≤ length bytes) × Begins bytes status size (drop count bytes)

-- what a reader stands for: a stream that isn't a reply yet
abbrev pub Stands : ReplyPlace → List ℕ → List ℕ → Type 0
Stands place.Head held stream = (held ≡ stream) × (length stream < head_limit)
Stands (place.Body status size) held stream = Begins stream status size held × (length held < size)
Stands place.Over held stream = ⊥
Stands place.Broken held stream = ⊥

-- the reader stands for this stream
abbrev pub StandsForReply : ReplyReader → List ℕ → Type 0
StandsForReply reader stream = Stands reader.place reader.held.items stream

-- memory was refused
abbrev pub IsBroken : ReplyReader → Type 0
IsBroken reader = reader.place ≡ place.Broken

-- what is answered of a stream
abbrev pub Answers : List ℕ → Result (Option Replied) ReplyFault → Type 0
Answers stream (Ok None) = GoesOn stream
Answers stream (Ok (Some replied)) = IsReply stream replied.status replied.body
Answers stream (Err NotAReply) = NeverReply stream
Answers stream (Err OutOfMemory) = Unit {0}

-- what the reader then stands for: the stream, where it goes on
abbrev pub Continues : ReplyReader → List ℕ → Result (Option Replied) ReplyFault → Type 0
Continues reader stream (Ok None) = StandsForReply reader stream
Continues reader stream (Ok (Some replied)) = Unit {0}
Continues reader stream (Err fault) = Unit {0}
