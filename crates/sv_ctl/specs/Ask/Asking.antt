-- What goes over the connection of a call, and what comes of it.
use Rattle.std.specs.Prelude.{◌≡◌, ◌≢◌, ◌++◌, ◌∷◌, ◌⊎◌, ◌||◌, ◌-◌, ◌^◌, ◌≤◌, ℕ, List, [], Bool}
use Rattle.std.specs.Prelude.{true, Option, Some, Result, Ok, Err, min, option_map}
use Rattle.sv_base.specs.declared.config.ClientSpec.{ClientSpec}
use Rattle.sv_base.specs.declared.config.Place.{Place}
use Rattle.sv_http.specs.ReplyStream.{IsReply, NeverReply, GoesOn}
use Rattle.sv_http.specs.RequestText.{request_text}
use Rattle.sv_out.specs.Exchanges.{sent_more}
use Rattle.sv_out.specs.Faults.{Rose}
use Rattle.sv_out.specs.declared.connection.Exchange.{Exchange}
use Rattle.sv_xmlcall.specs.Beginnings.{BeginsReply}
use Rattle.sv_xmlcall.specs.Judged.{Judges}
use Rattle.sv_xmlcall.specs.SpelledTexts.{SpellsReply}
use Rattle.sv_xmlcall.specs.Trees.{CallTree, reply_view}
use Rattle.sv_xmlcall.specs.Written.{written_call}
use Rattle.sv_xmlcall.specs.declared.call.Answered.{Answered}
use Rattle.sv_xmlcall.specs.declared.call.CallFault.{CallFault}
use Rattle.sv_xmlcall.specs.declared.call.CallFault.TheVariants as call
use Rattle.sv_ctl.specs.Ask.ServerUrl.{host_of}
use Rattle.sv_ctl.specs.declared.ask.fault.AskFault.{AskFault}
use Rattle.sv_ctl.specs.declared.ask.fault.AskFault.TheVariants.{Refused, LinkFailed, Ended, BadReply}
use Rattle.sv_ctl.specs.declared.ask.fault.AskFault.TheVariants.{Status, OutOfMemory}

-- the text of a call to the client's server
unfoldable pub request_of : ClientSpec → CallTree → List ℕ
request_of client call =
    request_text (written_call call) (host_of client.url) client.username client.password

-- these bytes were sent: the request, or a prefix of it where the link failed or memory was refused
pub record IsFront (text front : List ℕ) : Type 0 where
  pub rest : List ℕ
  pub parts : text ≡ front ++ rest

-- what was sent of the request
abbrev pub Sends : List ℕ → List ℕ → Result Answered AskFault → Type 0
Sends request sent (Err LinkFailed) = IsFront request sent
Sends request sent (Err OutOfMemory) = IsFront request sent
Sends request sent (Err Refused) = ⊥
Sends request sent result = sent ≡ request

-- a body that spells no reply, for another cause than memory
pub record SpellsNothing (body : List ℕ) : Type 0 where
  pub fault : CallFault
  pub cause : fault ≢ call.OutOfMemory
  pub judged : Judges {X = Answered} BeginsReply body (Err fault)

-- the bytes are no reply, or a reply whose body spells none
abbrev pub IsBadReply : List ℕ → Type 0
IsBadReply heard =
    NeverReply heard ⊎ ((body : List ℕ) × IsReply heard 200 body × SpellsNothing body)

-- what was heard, and whether the end came
abbrev pub Hears : List ℕ → Bool → Result Answered AskFault → Type 0
Hears heard ended (Ok answered) =
    (body : List ℕ) × IsReply heard 200 body × SpellsReply body (reply_view answered)
Hears heard ended (Err Ended) = GoesOn heard × (ended ≡ true)
Hears heard ended (Err BadReply) = IsBadReply heard
Hears heard ended (Err (Status status)) =
    (body : List ℕ) × IsReply heard status body × (status ≢ 200)
Hears heard ended (Err Refused) = ⊥
Hears heard ended (Err LinkFailed) = Unit {0}
Hears heard ended (Err OutOfMemory) = Unit {0}

-- bytes were heard after others, and the end where it came
abbrev pub having_heard : List ℕ → Bool → Exchange → Exchange
having_heard heard ended exchange =
    record exchange { heard = exchange.heard ++ heard; ended = exchange.ended || ended }

-- what the reading of an answer comes to
pub record Listens (old new : Option Exchange) (result : Result Answered AskFault) : Type 0 where
  pub heard : List ℕ
  pub ended : Bool
  pub hears : Hears heard ended result
  pub told : new ≡ option_map (having_heard heard ended) old

-- what a call over a link comes to
pub record Asks (old new : Option Exchange) (request : List ℕ) (result : Result Answered AskFault)
    : Type 0 where
  pub sent : List ℕ
  pub heard : List ℕ
  pub ended : Bool
  pub sends : Sends request sent result
  pub hears : Hears heard ended result
  pub told : new ≡ option_map (having_heard heard ended) (option_map (sent_more sent) old)

-- the link failed
abbrev pub IsLinkFailure : Result Answered AskFault → Type 0
IsLinkFailure (Err LinkFailed) = Unit {0}
IsLinkFailure result = ⊥

-- what went over a connection to this place, and what the call over it came to
pub record IsExchange (place : Place) (request : List ℕ) (exchange : Exchange)
    (result : Result Answered AskFault) : Type 0 where
  pub place_is : exchange.place ≡ place
  pub sends : Sends request exchange.sent result
  pub hears : Hears exchange.heard exchange.ended result

-- a dial tells the exchange of a call after those before
abbrev pub AddsOne : List Exchange → Option (List Exchange) → Place → List ℕ
    → Result Answered AskFault → Type 0
AddsOne before after place request result =
    (exchange : Exchange) × (after ≡ Some (before ++ exchange ∷ []))
    × IsExchange place request exchange result

-- what a dial tells of a call, after what it told before; where memory was refused, its exchange or
-- nothing
abbrev pub Calls : List Exchange → Option (List Exchange) → Place → List ℕ
    → Result Answered AskFault → Type 0
Calls before after place request (Err Refused) = after ≡ Some before
Calls before after place request (Err OutOfMemory) =
    (after ≡ Some before) ⊎ AddsOne before after place request (Err OutOfMemory)
Calls before after place request result = AddsOne before after place request result

-- the dial or the link failed
abbrev pub IsLost : Result Answered AskFault → Type 0
IsLost (Err Refused) = Unit {0}
IsLost (Err LinkFailed) = Unit {0}
IsLost result = ⊥

-- a count never falls, as far as its range goes, and the answer is this one only where it rose
pub record RisesFor (before now : ℕ) (answer : Type 0) : Type 0 where
  pub later : min before (2 ^ 64 - 1) ≤ now
  pub rose : answer → Rose before now
