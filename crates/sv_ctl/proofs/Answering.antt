-- What the words come to, by the server or by the refusal.
use Rattle.std.proofs.Common.{◌≡◌, ◌<◌, ℕ, List, [], ◌∷◌, Option, Result, Ok, Err, arith, inl, inr, length, refl, subst, sym, ◌∙◌}
use Rattle.std.specs.Io.KnownBytes.{Appends}
use Rattle.std.specs.Option.{ForSome}
use Rattle.sv_base.specs.declared.config.Host.{Host}
use Rattle.sv_commands.specs.declared.status.Status.TheVariants as status
use Rattle.sv_ctl.specs.Controls.{Answers, ComesTo, Converses, Refuses}
use Rattle.sv_ctl.specs.Refusals.{refusal_told}
use Rattle.sv_ctl.specs.Serving.{Freely, Serves}
use Rattle.sv_ctl.specs.declared.refusal.Refusal.{Refusal}
use Rattle.sv_ctl.specs.Span.{command_in, options_in}
use Rattle.sv_out.specs.Files.{Files}
use Rattle.sv_out.specs.declared.connection.Exchange.{Exchange}
use Rattle.sv_out.specs.Written.{AppendsFront}
use Rattle.sv_ctl.specs.Talk.Conversation.{command_said, stops}
use Rattle.sv_ctl.specs.Talk.Courses.{IsLost, IsSayable, IsUnprinted, number}
use Rattle.sv_ctl.specs.Talk.Doings.{Comes, Says}
use Rattle.sv_ctl.specs.Talk.Hearings.{Talks}
use Rattle.sv_ctl.specs.declared.talk.course.Course.{Course}
use Rattle.sv_ctl.specs.declared.talk.course.Course.TheVariants.{On, Broken, Quit, Lost, NoMemory, Unprinted}
use Rattle.sv_ctl.specs.declared.talk.server.Server.{Server}

pub comes_to_server : (words options command : List (List ℕ)) (host : Host) (files : Option Files)
    (before after : Option (List Exchange)) (left left_after old new : Option (List ℕ)) (server : Server) (result : Course)
    → options ≡ options_in words → command ≡ command_in words
    → ForSome files (λ told. Freely (Serves told host options) (Ok server))
    → Converses server command before after left left_after old new result
    → ComesTo words host files before after left left_after old new result
comes_to_server words options command host files before after left left_after old new server result is_options is_command serves converses =
    record {
      server = Ok server;
      serves = subst (λ (o : List (List ℕ)). ForSome files (λ told. Freely (Serves told host o) (Ok server))) is_options serves;
      answers = subst (λ (c : List (List ℕ)). Converses server c before after left left_after old new result) is_command converses;
    }

pub comes_to_refusal : (words options : List (List ℕ)) (host : Host) (files : Option Files)
    (told : Option (List Exchange)) (left old new : Option (List ℕ)) (refusal : Refusal) (result : Course)
    → options ≡ options_in words → ForSome files (λ told. Freely (Serves told host options) (Err refusal))
    → Refuses refusal old new result → ComesTo words host files told told left left old new result
comes_to_refusal words options host files told left old new refusal result is_options serves refuses = record {
  server = Err refusal;
  serves = subst (λ (o : List (List ℕ)). ForSome files (λ told. Freely (Serves told host o) (Err refusal))) is_options serves;
  answers = (refuses, refl, refl);
}

-- ---- one command, or those of the input's lines

pub converse_all : (server : Server) (command : List (List ℕ)) (before after : Option (List Exchange))
    (left left_after old new : Option (List ℕ)) (result : Course) → length command ≡ 0
    → Talks server before after left left_after old new result
    → Converses server command before after left left_after old new result
converse_all server [] before after left left_after old new result none talks = talks
converse_all server (word ∷ words) before after left left_after old new result none talks = absurd (omega (arith, none))

pub converse_one : (server : Server) (command : List (List ℕ)) (before after : Option (List Exchange))
    (left old new : Option (List ℕ)) (result : Course) → 0 < length command
    → Comes server before after old new (command_said server.client.url command) stops result
    → Converses server command before after left left old new result
converse_one server [] before after left old new result some comes = absurd (omega (arith, some))
converse_one server (word ∷ words) before after left old new result some comes = (comes, refl)

-- ---- what is told of a refusal

whole_told : (refusal : Refusal) (old new : Option (List ℕ)) (course : Course) → IsSayable course
    → course ≡ (refusal_told refusal).course → Appends old new (refusal_told refusal).text → Refuses refusal old new course
whole_told refusal old new (On so_far) sayable is wrote = (wrote, is)
whole_told refusal old new Broken sayable is wrote = (wrote, is)
whole_told refusal old new (Quit so_far) sayable is wrote = (wrote, is)
whole_told refusal old new Lost sayable is wrote = (wrote, is)
whole_told refusal old new NoMemory sayable is wrote = absurd sayable
whole_told refusal old new Unprinted sayable is wrote = absurd sayable

pub refuses_by : (refusal : Refusal) (old new : Option (List ℕ)) (text : List ℕ) (course result : Course) → IsSayable course
    → course ≡ (refusal_told refusal).course → text ≡ (refusal_told refusal).text → Says old new text course result
    → Refuses refusal old new result
refuses_by refusal old new text course result sayable is same (inl said) =
    subst (λ (c : Course). Refuses refusal old new c) (sym said.0)
    (whole_told refusal old new course sayable is (subst (λ (t : List ℕ). Appends old new t) same said.1))
refuses_by refusal old new text course result sayable is same (inr said) =
    subst (λ (c : Course). Refuses refusal old new c) (sym said.0)
    (subst (λ (t : List ℕ). AppendsFront old new t) same said.1)

-- ---- by the number

is_lost : (course : Course) → number course ≡ 5 → IsLost course
is_lost (On status.Done) is = cc
is_lost (On status.Faulted) is = cc
is_lost (On status.Refused) is = cc
is_lost (On status.NotRunning) is = cc
is_lost (On status.NotFound) is = cc
is_lost (On status.Unanswered) is = cc
is_lost Broken is = cc
is_lost (Quit status.Done) is = cc
is_lost (Quit status.Faulted) is = cc
is_lost (Quit status.Refused) is = cc
is_lost (Quit status.NotRunning) is = cc
is_lost (Quit status.NotFound) is = cc
is_lost (Quit status.Unanswered) is = cc
is_lost Lost is = tt
is_lost NoMemory is = cc
is_lost Unprinted is = cc

is_unprinted : (course : Course) → number course ≡ 8 → IsUnprinted course
is_unprinted (On status.Done) is = cc
is_unprinted (On status.Faulted) is = cc
is_unprinted (On status.Refused) is = cc
is_unprinted (On status.NotRunning) is = cc
is_unprinted (On status.NotFound) is = cc
is_unprinted (On status.Unanswered) is = cc
is_unprinted Broken is = cc
is_unprinted (Quit status.Done) is = cc
is_unprinted (Quit status.Faulted) is = cc
is_unprinted (Quit status.Refused) is = cc
is_unprinted (Quit status.NotRunning) is = cc
is_unprinted (Quit status.NotFound) is = cc
is_unprinted (Quit status.Unanswered) is = cc
is_unprinted Lost is = cc
is_unprinted NoMemory is = cc
is_unprinted Unprinted is = tt

pub lost_by : (course : Course) (status : ℕ) → status ≡ number course → status ≡ 5 → IsLost course
lost_by course status same is = is_lost course (sym same ∙ is)

pub unprinted_by : (course : Course) (status : ℕ) → status ≡ number course → status ≡ 8 → IsUnprinted course
unprinted_by course status same is = is_unprinted course (sym same ∙ is)
