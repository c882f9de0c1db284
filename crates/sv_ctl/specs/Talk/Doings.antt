-- What was done of a conversation, over a dial and a sink.
use Rattle.std.specs.Prelude.{◌≡◌, ◌⊎◌, ◌++◌, ◌∷◌, ℕ, List, [], Option, Some, Err}
use Rattle.std.specs.Io.KnownBytes.{Appends}
use Rattle.std.specs.Option.{ForSome}
use Rattle.sv_ctl.specs.Ask.Asking.{Calls, IsExchange, request_of}
use Rattle.sv_ctl.specs.declared.ask.fault.AskFault.TheVariants.{Refused}
use Rattle.sv_commands.specs.declared.status.Status.{Status}
use Rattle.sv_ctl.specs.Talk.Answers.{Answer}
use Rattle.sv_ctl.specs.Talk.Conversation.{Talk, asks, goes_on, having, printing}
use Rattle.sv_ctl.specs.declared.talk.course.Course.{Course}
use Rattle.sv_ctl.specs.declared.talk.course.Course.TheVariants.{On, Broken, Quit, Lost, NoMemory}
use Rattle.sv_ctl.specs.declared.talk.course.Course.TheVariants.{Unprinted}
use Rattle.sv_ctl.specs.declared.talk.server.Server.{Server}
use Rattle.sv_ctl.specs.declared.talk.told.Told.{Told}
use Rattle.sv_out.specs.Written.{AppendsFront}
use Rattle.sv_out.specs.declared.connection.Exchange.{Exchange}
use Rattle.sv_xmlcall.specs.Trees.{CallTree}

-- what went over the connection of a call; a refused one has none
abbrev pub IsMade : Server → CallTree → Answer → List Exchange → Type 0
IsMade server call (Err Refused) exchanges = exchanges ≡ []
IsMade server call answer exchanges =
    (exchange : Exchange) × (exchanges ≡ exchange ∷ [])
    × IsExchange server.place (request_of server.client call) exchange answer

-- what went over the connections of calls, one for each answer
abbrev pub AreMade : Server → List CallTree → List Answer → List Exchange → Type 0
AreMade server [] [] exchanges = exchanges ≡ []
AreMade server [] (answer ∷ answers) exchanges = ⊥
AreMade server (call ∷ calls) [] exchanges = ⊥
AreMade server (call ∷ calls) (answer ∷ answers) exchanges =
    (first : List Exchange) × (more : List Exchange) × IsMade server call answer first
    × AreMade server calls answers more × (exchanges ≡ first ++ more)

-- a dial tells the exchanges of calls after those before
pub record Adds (server : Server) (before : List Exchange) (after : Option (List Exchange))
    (calls : List CallTree)
    (answers : List Answer) : Type 0 where
  pub exchanges : List Exchange
  pub told : after ≡ Some (before ++ exchanges)
  pub made : AreMade server calls answers exchanges

-- the same, of a dial that tells its exchanges
abbrev pub Tells : Server → Option (List Exchange) → Option (List Exchange) → List CallTree
    → List Answer → Type 0
Tells server before after calls answers =
    ForSome before (λ told. Adds server told after calls answers)

-- of a conversation so much was done that this one is left: the calls were made, the text was
-- printed
pub record Goes (server : Server) (before after : Option (List Exchange))
    (old new : Option (List ℕ)) (talk left : Talk) : Type 0 where
  pub answers : List Answer
  pub calls : List CallTree
  pub text : List ℕ
  pub tells : Tells server before after calls answers
  pub wrote : Appends old new text
  pub same : (more : List Answer) → talk (answers ++ more) ≡ having calls text (left more)

-- a prefix of what a conversation prints was printed, up to some place
pub record Breaks (old new : Option (List ℕ)) (talk : Talk) : Type 0 where
  pub answers : List Answer
  pub calls : List CallTree
  pub text : List ℕ
  pub left : Talk
  pub wrote : AppendsFront old new text
  pub same : (more : List Answer) → talk (answers ++ more) ≡ having calls text (left more)

-- the calls up to that place were made; the last may be one in which memory was refused
pub record Fails (server : Server) (before after : Option (List Exchange))
    (old new : Option (List ℕ)) (talk : Talk) : Type 0 where
  pub breaks : Breaks old new talk
  pub tells : Tells server before after breaks.calls breaks.answers

-- what a conversation came to: it is gone through and goes on by its status or ends; or memory was
-- refused or a write failed at some place of it
abbrev pub Comes : Server → Option (List Exchange) → Option (List Exchange) → Option (List ℕ)
    → Option (List ℕ)
    → Talk → (Status → Talk) → Course → Type 0
Comes server before after old new talk next NoMemory = Fails server before after old new talk
Comes server before after old new talk next Unprinted = Fails server before after old new talk
Comes server before after old new talk next course =
    Goes server before after old new talk (goes_on course next)

-- a text was printed, and it came to this course; or a prefix of it was, where a write failed
abbrev pub Says : Option (List ℕ) → Option (List ℕ) → List ℕ → Course → Course → Type 0
Says old new text course result =
    ((result ≡ course) × Appends old new text) ⊎ ((result ≡ Unprinted) × AppendsFront old new text)

-- a text was printed, and it goes on by this course
abbrev pub Prints : Option (List ℕ) → Option (List ℕ) → List ℕ → Course → Course → Type 0
Prints old new text course result =
    (server : Server) (told : Option (List Exchange)) (next : Status → Talk)
    → Comes server told told old new (printing text (goes_on course next)) next result

-- what was printed of the answer to a call
abbrev pub Shows : Answer → Option (List ℕ) → Option (List ℕ) → (Answer → Told) → Course → Type 0
Shows answer old new told result =
    (server : Server) (call : CallTree) (before after : Option (List Exchange))
    (next : Status → Talk)
    → ForSome before (λ exchanges.
    Calls exchanges after server.place (request_of server.client call) answer)
    → Comes server before after old new (asks call told next) next result
