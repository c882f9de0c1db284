-- The calls of a command.
use Rattle.std.proofs.Common.{◌≡◌, ◌≢◌, ◌≤◌, ◌∷◌, ◌∙◌, ℕ, List, Option, None, Some, ap, get_or, inl, inr, length, refl, sym, subst}
use Rattle.std.specs.Io.KnownBytes.{Appends}
use Rattle.std.specs.Option.{ForSome}
use Rattle.sv_ctl.specs.Ask.Asking.{Calls, request_of}
use Rattle.sv_commands.specs.Commands.{Asked, step_view, steps_of, steps_view}
use Rattle.sv_commands.specs.declared.step.Step.{Step}
use Rattle.sv_commands.specs.declared.status.Status as status
use Rattle.sv_commands.specs.declared.status.Status.TheVariants.{Done, Refused}
use Rattle.sv_ctl.specs.Talk.Answers.{Answer, IsKnown, told_of}
use Rattle.sv_ctl.specs.Talk.Conversation.{Talk, asks, command_said, goes_on, joined, printing, said_by, steps_said, stops, unknown_line}
use Rattle.sv_ctl.specs.Talk.Courses.{IsSayable}
use Rattle.sv_ctl.specs.Talk.Doings.{Comes, Goes, Prints, Says, Shows}
use Rattle.sv_ctl.specs.declared.talk.course.Course.{Course}
use Rattle.sv_ctl.specs.declared.talk.course.Course.TheVariants.{On, Broken, Quit, Lost, NoMemory, Unprinted}
use Rattle.sv_ctl.specs.declared.talk.server.Server.{Server}
use Rattle.sv_ctl.specs.declared.talk.told.Told.{Told}
use Rattle.sv_out.specs.Written.{AppendsFront}
use Rattle.sv_out.specs.declared.connection.Exchange.{Exchange}
use Rattle.sv_xmlcall.specs.Trees.{CallTree}
use Rattle.sv_ctl.proofs.TalkLemmas.Slices.{first_and_rest, rest_of}
use Rattle.sv_ctl.proofs.TalkLemmas.Doings.{asked, call_unsaid, comes, goes_comes, nothing_printed, printed, tells_call, unprinted}

-- ---- what is printed

pub says : (old new : Option (List ℕ)) (text : List ℕ) (course : Course) → Appends old new text → Prints old new text course course
says old new text course wrote server told next =
    comes server told told old new (printing text (goes_on course next)) next course
    (printed server told old new text (goes_on course next) wrote)

pub says_front : (old new : Option (List ℕ)) (text : List ℕ) (course : Course) → AppendsFront old new text
    → Prints old new text course Unprinted
says_front old new text course wrote server told next =
    unprinted server told old new text (goes_on course next) wrote

pub says_nothing : (written : Option (List ℕ)) (text : List ℕ) (course : Course) → Prints written written text course NoMemory
says_nothing written text course server told next =
    nothing_printed server told written (printing text (goes_on course next))

-- what goes on was to go on
pub goes_as : (old new : Option (List ℕ)) (text : List ℕ) (course result : Course) (so_far : status.Status)
    → Says old new text course result → result ≡ On so_far → course ≡ On so_far
goes_as old new text course result so_far (inl said) is = sym said.0 ∙ is
goes_as old new text course result so_far (inr said) is = absurd (let never : Unprinted ≡ On so_far = sym said.0 ∙ is in cc)

-- ---- one call

pub shows : (answer : Answer) (old new : Option (List ℕ)) (told : Answer → Told) (given : Told) (result : Course)
    → given ≡ told answer → IsKnown answer → Prints old new given.text given.course result → Shows answer old new told result
shows answer old new told given result is known prints server call before after next calls =
    let printed_of : Prints old new (told answer).text (told answer).course result =
    subst (λ (t : Told). Prints old new t.text t.course result) is prints in
    goes_comes server before after after old old new (asks call told next)
    (printing (told answer).text (goes_on (told answer).course next)) next result
    (asked server before after old call answer told next (tells_call server before after call answer calls known)) (printed_of server after next)

pub shows_nothing : (answer : Answer) (written : Option (List ℕ)) (told : Answer → Told) → Shows answer written written told NoMemory
shows_nothing answer written told server call before after next calls =
    call_unsaid server before after written call answer told next calls

pub stepped : (server : Server) (before after : Option (List Exchange)) (old new : Option (List ℕ)) (call : CallTree)
    (answer : Answer) (told : Answer → Told) (result : Course)
    → ForSome before (λ b. Calls b after server.place (request_of server.client call) answer)
    → Shows answer old new told result
    → (next : status.Status → Talk) → Comes server before after old new (asks call told next) next result
stepped server before after old new call answer told result calls shown next =
    shown server call before after next calls

-- ---- the calls of a command

-- where it doesn't go on it doesn't matter how it would
pub comes_off : (server : Server) (before after : Option (List Exchange)) (old new : Option (List ℕ)) (talk : Talk)
    (next other : status.Status → Talk) (course : Course) → ((so_far : status.Status) → course ≢ On so_far)
    → Comes server before after old new talk next course → Comes server before after old new talk other course
comes_off server before after old new talk next other (On so_far) off come = absurd (off so_far refl)
comes_off server before after old new talk next other Broken off come = come
comes_off server before after old new talk next other (Quit so_far) off come = come
comes_off server before after old new talk next other Lost off come = come
comes_off server before after old new talk next other NoMemory off come = come
comes_off server before after old new talk next other Unprinted off come = come

-- a step came to its course, after those before
pub steps_come : (server : Server) (before mid after : Option (List Exchange)) (old now new : Option (List ℕ)) (talk : Talk)
    (step : Asked) (steps left : List Asked) (so_far : status.Status) (course : Course)
    → Goes server before mid old now talk (steps_said server.client.url left so_far) → left ≡ step ∷ steps
    → ((next : status.Status → Talk) → Comes server mid after now new
    (asks step.call (told_of server.client.url step.line so_far) next) next course)
    → Comes server before after old new talk (steps_said server.client.url steps) course
steps_come server before mid after old now new talk step steps left so_far course goes is come =
    let begun : Goes server before mid old now talk (steps_said server.client.url (step ∷ steps) so_far) =
    subst (λ (l : List Asked). Goes server before mid old now talk (steps_said server.client.url l so_far)) is goes in
    goes_comes server before mid after old now new talk (steps_said server.client.url (step ∷ steps) so_far)
    (steps_said server.client.url steps) course begun (come (steps_said server.client.url steps))

pub went_on : (server : Server) (before after : Option (List Exchange)) (old new : Option (List ℕ)) (talk : Talk)
    (next : status.Status → Talk) (course : Course) (so_far : status.Status) → course ≡ On so_far
    → Comes server before after old new talk next course → Goes server before after old new talk (next so_far)
went_on server before after old new talk next course so_far is come =
    subst (λ (c : Course). Comes server before after old new talk next c) is come

-- the step of a slice's first came to its course, and it goes on
pub steps_on : (server : Server) (before mid after : Option (List Exchange)) (old now new : Option (List ℕ)) (talk : Talk)
    (step : Step) (left : List Step) (so_far following_on : status.Status) (course : Course) → 1 ≤ length left
    → step ≡ get_or left 0 step → Goes server before mid old now talk (steps_said server.client.url (steps_view left) so_far)
    → ((next : status.Status → Talk) → Comes server mid after now new
    (asks (step_view step).call (told_of server.client.url step.line so_far) next) next course) → course ≡ On following_on
    → Goes server before after old new talk (steps_said server.client.url (steps_view (rest_of left)) following_on)
steps_on server before mid after old now new talk step left so_far following_on course some first goes come is =
    went_on server before after old new talk (steps_said server.client.url (steps_view (rest_of left))) course following_on is
    (steps_come server before mid after old now new talk (step_view step) (steps_view (rest_of left)) (steps_view left) so_far course
    goes (ap steps_view (first_and_rest left step step some first)) come)

-- it doesn't go on
pub steps_off : (server : Server) (before mid after : Option (List Exchange)) (old now new : Option (List ℕ)) (talk : Talk)
    (step : Step) (left : List Step) (so_far : status.Status) (course : Course) → 1 ≤ length left
    → step ≡ get_or left 0 step → Goes server before mid old now talk (steps_said server.client.url (steps_view left) so_far)
    → ((next : status.Status → Talk) → Comes server mid after now new
    (asks (step_view step).call (told_of server.client.url step.line so_far) next) next course)
    → ((following_on : status.Status) → course ≢ On following_on) → Comes server before after old new talk stops course
steps_off server before mid after old now new talk step left so_far course some first goes come off =
    comes_off server before after old new talk (steps_said server.client.url (steps_view (rest_of left))) stops course off
    (steps_come server before mid after old now new talk (step_view step) (steps_view (rest_of left)) (steps_view left) so_far course
    goes (ap steps_view (first_and_rest left step step some first)) come)

pub command_steps : (server : Server) (before after : Option (List Exchange)) (old new : Option (List ℕ))
    (words : List (List ℕ)) (steps : List Asked) (course : Course) → Some steps ≡ steps_of words
    → Comes server before after old new (steps_said server.client.url steps Done) stops course
    → Comes server before after old new (command_said server.client.url words) stops course
command_steps server before after old new words steps course is come =
    subst (λ (o : Option (List Asked)). Comes server before after old new (said_by server.client.url words o) stops course)
    is come

pub command_unknown : (server : Server) (before after : Option (List Exchange)) (old new : Option (List ℕ))
    (words : List (List ℕ)) (course : Course) → None ≡ steps_of words
    → Comes server before after old new (printing (unknown_line (joined words)) (stops Refused)) stops course
    → Comes server before after old new (command_said server.client.url words) stops course
command_unknown server before after old new words course is come =
    subst (λ (o : Option (List Asked)). Comes server before after old new (said_by server.client.url words o) stops course)
    is come
