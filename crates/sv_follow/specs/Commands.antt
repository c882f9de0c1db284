-- What a call of the program comes to.
use Rattle.std.specs.Prelude.{◌≡◌, ℕ, List, Option, Some, None, Result, Ok, Err}
use Rattle.std.specs.Option.{ForSome}
use Rattle.sv_base.specs.declared.config.Host.{Host}
use Rattle.sv_base.specs.declared.state.Stream.{Stream}
use Rattle.sv_ctl.specs.Controls.{Controls, Refuses}
use Rattle.sv_ctl.specs.Serving.{Freely, Serves}
use Rattle.sv_ctl.specs.declared.refusal.Refusal.{Refusal}
use Rattle.sv_follow.specs.Following.{follow_said}
use Rattle.sv_follow.specs.LogWords.{log_in}
use Rattle.sv_ctl.specs.Span.{command_in, options_in}
use Rattle.sv_out.specs.Files.{Files}
use Rattle.sv_out.specs.declared.connection.Exchange.{Exchange}
use Rattle.sv_ctl.specs.Talk.Conversation.{stops}
use Rattle.sv_ctl.specs.Talk.Courses.{number}
use Rattle.sv_ctl.specs.Talk.Doings.{Comes}
use Rattle.sv_ctl.specs.declared.talk.course.Course.{Course}
use Rattle.sv_ctl.specs.declared.talk.server.Server.{Server}

-- how often a log is polled
abbrev pub polls : ℕ
polls = 4294967295

-- the log was followed, or the words' refusal was told, without a connection
abbrev pub FollowsBy : Result Server Refusal → List ℕ → Stream → Option (List Exchange)
    → Option (List Exchange) → Option (List ℕ) → Option (List ℕ) → Course → Type 0
FollowsBy (Ok server) name channel before after old new result =
    Comes server before after old new (follow_said server.client.url name channel polls) stops
    result
FollowsBy (Err refusal) name channel before after old new result =
    Refuses refusal old new result × (after ≡ before)

-- a log was followed at the server that the words of the options name
pub record ComesFrom (options : List (List ℕ)) (host : Host) (files : Option Files)
    (name : List ℕ) (channel : Stream) (before after : Option (List Exchange))
    (old new : Option (List ℕ)) (result : Course) : Type 0 where
  pub server : Result Server Refusal
  pub serves : ForSome files (λ told. Freely (Serves told host options) server)
  pub follows : FollowsBy server name channel before after old new result

-- the same, with the number of the status
pub record FollowsFrom (options : List (List ℕ)) (host : Host) (files : Option Files)
    (log : List ℕ × Stream) (before after : Option (List Exchange))
    (old new : Option (List ℕ)) (status : ℕ) : Type 0 where
  pub course : Course
  pub comes : ComesFrom options host files log.0 log.1 before after old new course
  pub is_number : status ≡ number course

-- a log was followed, and the input stayed; or it is a call of the client without following
abbrev pub CommandsBy : Option (List ℕ × Stream) → List (List ℕ) → Host → Option Files
    → Option (List Exchange) → Option (List Exchange) → Option (List ℕ) → Option (List ℕ)
    → Option (List ℕ) → Option (List ℕ) → ℕ → Type 0
CommandsBy None words host files before after left left_after old new status =
    Controls words host files before after left left_after old new status
CommandsBy (Some log) words host files before after left left_after old new status =
    FollowsFrom (options_in words) host files log before after old new status
    × (left_after ≡ left)

-- by the words of the command
abbrev pub Commands : List (List ℕ) → Host → Option Files → Option (List Exchange)
    → Option (List Exchange) → Option (List ℕ) → Option (List ℕ) → Option (List ℕ)
    → Option (List ℕ) → ℕ → Type 0
Commands words = CommandsBy (log_in (command_in words)) words
