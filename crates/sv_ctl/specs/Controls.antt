-- What a call of the program comes to.
use Rattle.std.specs.Prelude.{◌≡◌, ◌∷◌, ℕ, List, [], Option, Result, Ok, Err}
use Rattle.std.specs.Io.KnownBytes.{Appends}
use Rattle.std.specs.Option.{ForSome}
use Rattle.sv_base.specs.declared.config.Host.{Host}
use Rattle.sv_ctl.specs.Talk.Conversation.{command_said, stops}
use Rattle.sv_ctl.specs.Talk.Courses.{number}
use Rattle.sv_ctl.specs.Talk.Doings.{Comes}
use Rattle.sv_ctl.specs.Talk.Hearings.{Talks}
use Rattle.sv_ctl.specs.Refusals.{refusal_told}
use Rattle.sv_ctl.specs.Serving.{Freely, Serves}
use Rattle.sv_ctl.specs.declared.talk.course.Course.{Course}
use Rattle.sv_ctl.specs.declared.talk.course.Course.TheVariants.{NoMemory, Unprinted}
use Rattle.sv_ctl.specs.declared.refusal.Refusal.{Refusal}
use Rattle.sv_ctl.specs.declared.refusal.Refusal.TheVariants.{OutOfMemory}
use Rattle.sv_ctl.specs.declared.talk.server.Server.{Server}
use Rattle.sv_ctl.specs.Span.{command_in, options_in}
use Rattle.sv_out.specs.Files.{Files}
use Rattle.sv_out.specs.Written.{AppendsFront}
use Rattle.sv_out.specs.declared.connection.Exchange.{Exchange}

-- the conversation with a server: one command, or those of the input's lines, which else isn't read
abbrev pub Converses : Server → List (List ℕ) → Option (List Exchange) → Option (List Exchange)
    → Option (List ℕ)
    → Option (List ℕ) → Option (List ℕ) → Option (List ℕ) → Course → Type 0
Converses server [] before after left left_after old new result =
    Talks server before after left left_after old new result
Converses server (word ∷ words) before after left left_after old new result =
    Comes server before after old new (command_said server.client.url (word ∷ words)) stops result
    × (left_after ≡ left)

-- a refusal was told, or a prefix of its line
abbrev pub Refuses : Refusal → Option (List ℕ) → Option (List ℕ) → Course → Type 0
Refuses refusal old new NoMemory = Appends old new []
Refuses refusal old new Unprinted = AppendsFront old new (refusal_told refusal).text
Refuses refusal old new result =
    Appends old new (refusal_told refusal).text × (result ≡ (refusal_told refusal).course)

-- the conversation with the server, or why there is none; then neither dial nor input was touched
abbrev pub Answers : Result Server Refusal → List (List ℕ) → Option (List Exchange)
    → Option (List Exchange)
    → Option (List ℕ) → Option (List ℕ) → Option (List ℕ) → Option (List ℕ) → Course → Type 0
Answers (Ok server) command before after left left_after old new result =
    Converses server command before after left left_after old new result
Answers (Err refusal) command before after left left_after old new result =
    Refuses refusal old new result × (after ≡ before) × (left_after ≡ left)

-- what the words of the client come to
pub record ComesTo (words : List (List ℕ)) (host : Host) (files : Option Files)
    (before after : Option (List Exchange))
    (left left_after old new : Option (List ℕ)) (result : Course) : Type 0 where
  pub server : Result Server Refusal
  pub serves : ForSome files (λ told. Freely (Serves told host (options_in words)) server)
  pub answers : Answers server (command_in words) before after left left_after old new result

-- the same, with the number of the status
pub record Controls (words : List (List ℕ)) (host : Host) (files : Option Files)
    (before after : Option (List Exchange))
    (left left_after old new : Option (List ℕ)) (status : ℕ) : Type 0 where
  pub course : Course
  pub comes : ComesTo words host files before after left left_after old new course
  pub is_number : status ≡ number course
