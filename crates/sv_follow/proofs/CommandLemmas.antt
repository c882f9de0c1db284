-- What the words of the program come to, by what they are.
use Rattle.std.proofs.Common.{◌≡◌, ◌⊎◌, ◌∙◌, ℕ, List, Option, None, Some, Ok, Err, ap, inl, inr, refl, subst}
use Rattle.std.specs.Option.{ForSome}
use Rattle.sv_base.specs.declared.config.Host.{Host}
use Rattle.sv_base.specs.declared.state.Stream.{Stream}
use Rattle.sv_ctl.specs.Controls.{Controls, Refuses}
use Rattle.sv_ctl.specs.Serving.{Freely, Serves}
use Rattle.sv_ctl.specs.Span.{command_in, options_in}
use Rattle.sv_ctl.specs.Talk.Conversation.{stops}
use Rattle.sv_ctl.specs.Talk.Courses.{number}
use Rattle.sv_ctl.specs.Talk.Doings.{Comes}
use Rattle.sv_ctl.specs.declared.refusal.Refusal.{Refusal}
use Rattle.sv_ctl.specs.declared.talk.course.Course.{Course}
use Rattle.sv_ctl.specs.declared.talk.server.Server.{Server}
use Rattle.sv_follow.specs.Commands.{Commands, CommandsBy, ComesFrom, polls}
use Rattle.sv_follow.specs.Following.{follow_said}
use Rattle.sv_follow.specs.LogWords.{log_in}
use Rattle.sv_out.specs.Faults.{Rose}
use Rattle.sv_out.specs.Files.{Files}
use Rattle.sv_out.specs.declared.connection.Exchange.{Exchange}

-- ---- the server that the options name

pub from_server : (options : List (List ℕ)) (host : Host) (files : Option Files) (name : List ℕ) (channel : Stream)
    (before after : Option (List Exchange)) (old new : Option (List ℕ)) (server : Server) (result : Course)
    → ForSome files (λ told. Freely (Serves told host options) (Ok server))
    → Comes server before after old new (follow_said server.client.url name channel polls) stops result
    → ComesFrom options host files name channel before after old new result
from_server options host files name channel before after old new server result serves come =
    record { server = Ok server; serves = serves; follows = come }

pub from_refusal : (options : List (List ℕ)) (host : Host) (files : Option Files) (name : List ℕ) (channel : Stream)
    (told : Option (List Exchange)) (old new : Option (List ℕ)) (refusal : Refusal) (result : Course)
    → ForSome files (λ some. Freely (Serves some host options) (Err refusal))
    → Refuses refusal old new result
    → ComesFrom options host files name channel told told old new result
from_refusal options host files name channel told old new refusal result serves refuses =
    record { server = Err refusal; serves = serves; follows = (refuses, refl) }

-- ---- what was lost

pub lost_in_two : (shelf shelf_after dial dial_after input : ℕ) → Rose shelf shelf_after ⊎ Rose dial dial_after
    → Rose shelf shelf_after ⊎ (Rose dial dial_after ⊎ Rose input input)
lost_in_two shelf shelf_after dial dial_after input (inl rose) = inl rose
lost_in_two shelf shelf_after dial dial_after input (inr rose) = inr (inl rose)

-- ---- the words

pub follows_log : (words options command : List (List ℕ)) (host : Host) (files : Option Files) (name : List ℕ)
    (channel : Stream) (before after : Option (List Exchange)) (left old new : Option (List ℕ)) (course : Course) (status : ℕ)
    → options ≡ options_in words → command ≡ command_in words → Some (name, channel) ≡ log_in command
    → ComesFrom options host files name channel before after old new course → status ≡ number course
    → Commands words host files before after left left old new status
follows_log words options command host files name channel before after left old new course status is_options is_command is come is_number =
    subst (λ (l : Option (List ℕ × Stream)). CommandsBy l words host files before after left left old new status)
    (is ∙ ap log_in is_command) (
      record {
        course = course;
        comes = subst (λ (o : List (List ℕ)). ComesFrom o host files name channel before after old new course) is_options come;
        is_number = is_number;
      },
      refl,
    )

pub follows_none : (words command : List (List ℕ)) (host : Host) (files : Option Files)
    (before after : Option (List Exchange)) (left left_after old new : Option (List ℕ)) (status : ℕ)
    → command ≡ command_in words → None ≡ log_in command
    → Controls words host files before after left left_after old new status
    → Commands words host files before after left left_after old new status
follows_none words command host files before after left left_after old new status is_command is controls =
    subst (λ (l : Option (List ℕ × Stream)). CommandsBy l words host files before after left left_after old new status)
    (is ∙ ap log_in is_command) controls
