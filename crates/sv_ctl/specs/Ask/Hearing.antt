-- How far the hearing of a reply has come.
use Rattle.std.specs.Prelude.{◌≡◌, ◌≢◌, ◌+◌, ℕ, List, Bool, false, true, Option, Result, Ok, Err}
use Rattle.std.specs.Prelude.{length, option_map}
use Rattle.sv_http.specs.ReplyPlaces.{StandsForReply}
use Rattle.sv_http.specs.ReplyStream.{IsReply, NeverReply, GoesOn}
use Rattle.sv_http.specs.declared.reply_reader.Replied.{Replied}
use Rattle.sv_http.specs.declared.reply_reader.ReplyReader.{ReplyReader}
use Rattle.sv_out.specs.declared.connection.Exchange.{Exchange}
use Rattle.sv_xmlcall.specs.SpelledTexts.{SpellsReply}
use Rattle.sv_xmlcall.specs.Trees.{reply_view}
use Rattle.sv_xmlcall.specs.declared.call.Answered.{Answered}
use Rattle.sv_ctl.specs.Ask.Asking.{having_heard, SpellsNothing}
use Rattle.sv_ctl.specs.declared.ask.fault.AskFault.{AskFault}
use Rattle.sv_ctl.specs.declared.ask.fault.AskFault.TheVariants.{Refused, LinkFailed, Ended, BadReply}
use Rattle.sv_ctl.specs.declared.ask.fault.AskFault.TheVariants.{Status, OutOfMemory}

-- the most bytes of a reply: those of a head and of a body
abbrev pub most_bytes : ℕ
most_bytes = 67125248

-- what was heard so far goes on, and has room for so many bytes
pub record HearsOn (reader : ReplyReader) (room : ℕ) (old new : Option Exchange) : Type 0 where
  pub heard : List ℕ
  pub stands : StandsForReply reader heard
  pub goes_on : GoesOn heard
  pub size : length heard + room ≡ most_bytes
  pub told : new ≡ option_map (having_heard heard false) old

-- what the hearing of a reply comes to
abbrev pub Comes : List ℕ → Bool → Result Replied AskFault → Type 0
Comes heard ended (Ok replied) = IsReply heard replied.status replied.body
Comes heard ended (Err Ended) = GoesOn heard × (ended ≡ true)
Comes heard ended (Err BadReply) = NeverReply heard
Comes heard ended (Err (Status status)) = ⊥
Comes heard ended (Err Refused) = ⊥
Comes heard ended (Err LinkFailed) = Unit {0}
Comes heard ended (Err OutOfMemory) = Unit {0}

-- what was heard, and what it comes to
pub record Heard (old new : Option Exchange) (result : Result Replied AskFault) : Type 0 where
  pub heard : List ℕ
  pub ended : Bool
  pub comes : Comes heard ended result
  pub told : new ≡ option_map (having_heard heard ended) old

-- the link failed
abbrev pub IsBroken : Result Replied AskFault → Type 0
IsBroken (Err LinkFailed) = Unit {0}
IsBroken result = ⊥

-- what a whole reply answers
abbrev pub AnswersWith : ℕ → List ℕ → Result Answered AskFault → Type 0
AnswersWith status body (Ok answered) = (status ≡ 200) × SpellsReply body (reply_view answered)
AnswersWith status body (Err BadReply) = (status ≡ 200) × SpellsNothing body
AnswersWith status body (Err (Status number)) = (number ≡ status) × (number ≢ 200)
AnswersWith status body (Err OutOfMemory) = Unit {0}
AnswersWith status body (Err fault) = ⊥
