-- How much of an input was heard, and what was said of it.
use Rattle.std.specs.Prelude.{◌≡◌, ◌⊎◌, ◌+◌, ◌++◌, ℕ, List, [], Option, Result, Ok, Err, length}
use Rattle.std.specs.Io.KnownBytes.{Consumes, IsAtEnd}
use Rattle.sv_commands.specs.declared.status.Status.{Status}
use Rattle.sv_commands.specs.declared.status.Status.TheVariants.{Done}
use Rattle.sv_ctl.specs.Talk.Conversation.{InputEnd, Failing, end_said, heard_said, lines_from}
use Rattle.sv_ctl.specs.Talk.Conversation.{lines_said, stops}
use Rattle.sv_ctl.specs.Talk.Courses.{IsLost, IsUnprinted}
use Rattle.sv_ctl.specs.Talk.Doings.{Comes, Goes}
use Rattle.sv_ctl.specs.declared.talk.course.Course.{Course}
use Rattle.sv_ctl.specs.declared.talk.course.Course.TheVariants.{On}
use Rattle.sv_ctl.specs.declared.talk.server.Server.{Server}
use Rattle.sv_out.specs.declared.connection.Exchange.{Exchange}
use Rattle.sv_out.specs.declared.failed.Failed.{Failed}

-- the most bytes of an input
abbrev pub most_bytes : ℕ
most_bytes = 9223372036854775808

-- a conversation that no line ended heard the input to its end or to the bound
abbrev pub IsHeard : List ℕ → Option (List ℕ) → Course → Type 0
IsHeard heard left (On status) = IsAtEnd left ⊎ (length heard ≡ most_bytes)
IsHeard heard left course = Unit {0}

-- the conversation over the lines of what was heard
pub record Talks (server : Server) (before after : Option (List Exchange))
    (left left_after : Option (List ℕ))
    (old new : Option (List ℕ)) (result : Course) : Type 0 where
  pub heard : List ℕ
  pub end : InputEnd
  pub taken : Consumes left left_after heard
  pub comes : Comes server before after old new (lines_said server.client.url end heard) stops
      result
  pub whole : IsHeard heard left_after result

-- the same, where the first line has its prompt, and the status so far is this one
pub record TalksOn (server : Server) (before after : Option (List Exchange))
    (left left_after : Option (List ℕ))
    (old new : Option (List ℕ)) (status : Status) (result : Course) : Type 0 where
  pub heard : List ℕ
  pub end : InputEnd
  pub taken : Consumes left left_after heard
  pub comes : Comes server before after old new
      (heard_said server.client.url end (lines_from end [] heard) status) stops result
  pub whole : IsHeard heard left_after result

-- a conversation over what was heard, to its end or until the input failed
abbrev pub Reaches : Server → Option (List Exchange) → Option (List Exchange) → Option (List ℕ)
    → Option (List ℕ)
    → Status → InputEnd → List ℕ → Option (List ℕ) → Result Course Failed → Type 0
Reaches server before after old new status end heard left (Ok course) =
    Comes server before after old new
    (heard_said server.client.url end (lines_from end [] heard) status) stops course
    × IsHeard heard left course
Reaches server before after old new status end heard left (Err failed) =
    Goes server before after old new
    (heard_said server.client.url Failing (lines_from Failing [] heard) status)
    (end_said Failing Done)

-- the same, with what was heard
pub record Hears (server : Server) (before after : Option (List Exchange))
    (left left_after : Option (List ℕ))
    (old new : Option (List ℕ)) (status : Status) (result : Result Course Failed) : Type 0 where
  pub heard : List ℕ
  pub end : InputEnd
  pub taken : Consumes left left_after heard
  pub reaches : Reaches server before after old new status end heard left_after result

-- what was heard so far was worked off, but for bytes that are held as the beginning of a line, and
-- there is room for so many
pub record HearsOn (server : Server) (before after : Option (List Exchange))
    (left left_after : Option (List ℕ))
    (old new : Option (List ℕ)) (first : Status) (held : List ℕ) (status : Status) (room : ℕ) : Type
    0 where
  pub heard : List ℕ
  pub taken : Consumes left left_after heard
  pub size : length heard + room ≡ most_bytes
  pub goes : (end : InputEnd) (rest : List ℕ) → Goes server before after old new
      (heard_said server.client.url end (lines_from end [] (heard ++ rest)) first)
      (heard_said server.client.url end (lines_from end held rest) status)

-- the conversation ended so
abbrev pub EndsLost : Result Course Failed → Type 0
EndsLost (Ok course) = IsLost course
EndsLost (Err failed) = ⊥

-- the conversation ended so
abbrev pub EndsUnprinted : Result Course Failed → Type 0
EndsUnprinted (Ok course) = IsUnprinted course
EndsUnprinted (Err failed) = ⊥
