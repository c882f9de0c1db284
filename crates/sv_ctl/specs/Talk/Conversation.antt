-- The client's conversation, as a function of the command or of the lines, and of the answers: the
-- calls that are made, the text that is printed, and the status.
use Rattle.std.specs.Prelude.{◌==◌, ◌||◌, ◌∷◌, ◌++◌, ℕ, List, [], Bool, true, false, Option, Some}
use Rattle.std.specs.Prelude.{None, codes, length, filter, nat_lt, if◌then◌else◌}
use Rattle.std.specs.List.{slice_split}
use Rattle.std.specs.Str.{bytes_eq, is_utf8}
use Rattle.sv_base.specs.Ascii.{line_feed, space}
use Rattle.sv_commands.specs.Commands.{Asked, steps_of}
use Rattle.sv_commands.specs.declared.status.Status.{Status}
use Rattle.sv_commands.specs.declared.status.Status.TheVariants.{Done, Refused}
use Rattle.sv_ctl.specs.Talk.Answers.{Answer, told_of}
use Rattle.sv_ctl.specs.Talk.Courses.{settled}
use Rattle.sv_ctl.specs.declared.talk.course.Course.{Course}
use Rattle.sv_ctl.specs.declared.talk.course.Course.TheVariants.{On, Broken, Quit, Lost, NoMemory}
use Rattle.sv_ctl.specs.declared.talk.course.Course.TheVariants.{Unprinted}
use Rattle.sv_ctl.specs.declared.talk.told.Told.{Told}
use Rattle.sv_xmlcall.specs.Trees.{CallTree}

-- what is said from some place on: the calls, the text, how it ends, and the answers that are left
-- then
pub record Said : Type 0 where
  pub calls : List CallTree
  pub text : List ℕ
  pub course : Course
  pub left : List Answer

-- what is said from some place on, by the answers that come
abbrev pub Talk : Type 0
Talk = List Answer → Said

-- nothing more is said
abbrev pub ends : Course → Talk
ends course answers = record { calls = []; text = []; course = course; left = answers }

-- calls and a text, before what is said then
abbrev pub having : List CallTree → List ℕ → Said → Said
having calls text said = record said { calls = calls ++ said.calls; text = text ++ said.text }

-- it goes on by the status so far, or ends
abbrev pub goes_on : Course → (Status → Talk) → Talk
goes_on (On status) next answers = next status answers
goes_on course next answers = ends course answers

-- a text is printed
abbrev pub printing : List ℕ → Talk → Talk
printing text next answers = having [] text (next answers)

-- the talk ends, where it went on
abbrev pub stops : Status → Talk
stops status = ends (On status)

-- a call, and what is said of its answer
abbrev pub asks : CallTree → (Answer → Told) → (Status → Talk) → Talk
asks call told next [] = ends NoMemory []
asks call told next (answer ∷ answers) =
    having (call ∷ []) (told answer).text (goes_on (told answer).course next answers)

-- the calls of a command, which has this status so far
abbrev pub steps_said : List ℕ → List Asked → Status → Talk
steps_said url [] status = stops status
steps_said url (step ∷ steps) status =
    asks step.call (told_of url step.line status) (steps_said url steps)

-- a line that is no command
abbrev pub unknown_line : List ℕ → List ℕ
unknown_line words = codes "*** Unknown syntax: " ++ words ++ line_feed ∷ []

-- words with a space between each two
abbrev pub joined : List (List ℕ) → List ℕ
joined [] = []
joined (word ∷ []) = word
joined (word ∷ other ∷ words) = word ++ space ∷ joined (other ∷ words)

-- the steps of a command, or that the words are none
abbrev pub said_by : List ℕ → List (List ℕ) → Option (List Asked) → Talk
said_by url words None = printing (unknown_line (joined words)) (stops Refused)
said_by url words (Some steps) = steps_said url steps Done

-- a command of these words
abbrev pub command_said : List ℕ → List (List ℕ) → Talk
command_said url words = said_by url words (steps_of words)

-- a further line may follow what was said
abbrev pub after : Said → (Status → Talk) → Said
after said next = having said.calls said.text (goes_on (settled said.course) next said.left)

-- the byte is a space
abbrev pub is_space : ℕ → Bool
is_space byte = byte == space

-- the text isn't empty
abbrev pub is_some_text : List ℕ → Bool
is_some_text text = nat_lt 0 (length text)

-- words, parted by spaces
abbrev pub words_of : List ℕ → List (List ℕ)
words_of line = filter is_some_text (slice_split is_space line)

-- the words of a line; none where it isn't UTF-8
abbrev pub words_in : List ℕ → Option (List (List ℕ))
words_in line = if is_utf8 line then Some (words_of line) else None

-- the one word `quit` or `exit`
abbrev pub is_quit : List (List ℕ) → Bool
is_quit (word ∷ []) = bytes_eq word (codes "quit") || bytes_eq word (codes "exit")
is_quit words = false

-- the words of a line: none are passed over, one may end it all, others are a command
abbrev pub words_said : List ℕ → List (List ℕ) → Status → (Status → Talk) → Talk
words_said url [] status next answers = next status answers
words_said url (word ∷ words) status next answers =
    if is_quit (word ∷ words) then ends (Quit status) answers
    else after (command_said url (word ∷ words) answers) next

-- a line by its words
abbrev pub line_by : List ℕ → List ℕ → Option (List (List ℕ)) → Status → (Status → Talk) → Talk
line_by url line None status next = printing (unknown_line line) (next Refused)
line_by url line (Some words) status next = words_said url words status next

-- a line, where the status so far is this one
abbrev pub line_said : List ℕ → List ℕ → Status → (Status → Talk) → Talk
line_said url line = line_by url line (words_in line)

-- how the input ends: with its end or at the bound, or by a failure
pub data InputEnd : Type 0 where
  Whole : InputEnd
  Failing : InputEnd

-- what the end of the input says
abbrev pub end_said : InputEnd → Status → Talk
end_said Whole status = stops status
end_said Failing status = printing (codes "Error: the input failed\n") (ends Lost)

-- what is printed before each line and before the end
abbrev pub prompt : List ℕ
prompt = codes "supervisor> "

-- the prompt, and then what follows it
abbrev pub prompted : (Status → Talk) → Status → Talk
prompted next status = printing prompt (next status)

-- the lines, the first of which has its prompt
abbrev pub heard_said : List ℕ → InputEnd → List (List ℕ) → Status → Talk
heard_said url end [] status = end_said end status
heard_said url end (line ∷ lines) status =
    line_said url line status (prompted (heard_said url end lines))

-- bytes after which no line feed stands are a line where the input ended with them
abbrev pub last_line : InputEnd → List ℕ → List (List ℕ)
last_line Whole [] = []
last_line Whole (byte ∷ bytes) = (byte ∷ bytes) ∷ []
last_line Failing bytes = []

-- the lines of bytes, the first of which begins with bytes that were held
abbrev pub lines_from : InputEnd → List ℕ → List ℕ → List (List ℕ)
lines_from end held [] = last_line end held
lines_from end held (byte ∷ bytes) =
    if byte == line_feed then held ∷ lines_from end [] bytes
    else lines_from end (held ++ byte ∷ []) bytes

-- the conversation over the lines of these bytes
abbrev pub lines_said : List ℕ → InputEnd → List ℕ → Talk
lines_said url end bytes = prompted (heard_said url end (lines_from end [] bytes)) Done
