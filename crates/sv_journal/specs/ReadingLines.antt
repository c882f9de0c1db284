-- What the readers of whole lines give, in the terms of the readers of their parts.
use Rattle.std.specs.Prelude.{ℕ, List, [], ◌∷◌, codes, Bool, if◌then◌else◌, Result, Ok, None, false}
use Rattle.std.specs.Char.{is_ascii_digit}
use Rattle.sv_base.specs.Limits.{moment_limit}
use Rattle.sv_base.specs.Names.{signal_name}
use Rattle.sv_base.specs.declared.signal.Signal.{Signal}
use Rattle.sv_base.specs.declared.signal.Signal.TheVariants as signal_is
use Rattle.sv_base.specs.declared.state.How.TheVariants as how_is
use Rattle.sv_base.specs.declared.state.Stream.{Stream}
use Rattle.sv_base.specs.declared.state.Stream.TheVariants as stream_is
use Rattle.sv_base.specs.declared.state.Side.{Side}
use Rattle.sv_base.specs.declared.state.Side.TheVariants as side_is
use Rattle.sv_base.specs.declared.state.Autorestart.{Autorestart}
use Rattle.sv_base.specs.declared.state.Autorestart.TheVariants as autorestart_is
use Rattle.sv_base.specs.declared.ids.Run.{Run}
use Rattle.sv_out.specs.declared.input.Input.{Input}
use Rattle.sv_out.specs.declared.input.Input.TheVariants as input_is
use Rattle.sv_journal.specs.declared.header.Header.{Header}
use Rattle.sv_journal.specs.declared.header.Header.TheVariants as header_is
use Rattle.sv_journal.specs.declared.words.Verb.{Verb}
use Rattle.sv_journal.specs.declared.words.Verb.TheVariants as verb_is
use Rattle.sv_journal.specs.declared.words.Ending.{Ending}
use Rattle.sv_journal.specs.declared.words.Ending.TheVariants as ending_is
use Rattle.sv_journal.specs.declared.words.Answer.{Answer}
use Rattle.sv_journal.specs.declared.words.Answer.TheVariants as answer_is
use Rattle.sv_journal.specs.declared.words.Told.{Told}
use Rattle.sv_journal.specs.declared.words.Told.TheVariants as told_is
use Rattle.sv_journal.specs.declared.words.Opening.{Opening}
use Rattle.sv_journal.specs.declared.words.Opening.TheVariants as opening_is
use Rattle.sv_letters.specs.declared.letters.Letters.{Letters}
use Rattle.sv_letters.specs.declared.letters.Letters.TheVariants.{OfText, OfName, OfBytes}
use Rattle.sv_journal.specs.JournalLine.{autorestart_word, side_word}
use Rattle.sv_journal.specs.Limits.{number_limit, run_limit, program_limit}
use Rattle.sv_journal.specs.Reading.{◌>>=◌, word_at, keyword_at, number_at, token_at, end_at}
use Rattle.sv_journal.specs.Reading.{last_token_at, codes_from}
use Rattle.sv_journal.specs.Names.{names_at}
use Rattle.sv_journal.specs.Pieces.{piece_at}

-- what happened, with the space after it where something follows
abbrev pub verb_word : Verb → List ℕ
verb_word verb_is.Tick = codes "tick"
verb_word verb_is.Exit = codes "exit "
verb_word verb_is.Out = codes "out "
verb_word verb_is.Err = codes "err "
verb_word verb_is.OutEnd = codes "outend "
verb_word verb_is.ErrEnd = codes "errend "
verb_word verb_is.Open = codes "open "
verb_word verb_is.Piece = codes "piece "
verb_word verb_is.End = codes "end "
verb_word verb_is.Start = codes "start "
verb_word verb_is.Stop = codes "stop "
verb_word verb_is.Signal = codes "signal "

-- of which none begins another
abbrev pub verbs : List Verb
verbs =
    verb_is.Tick
    ∷ verb_is.Exit
    ∷ verb_is.Out
    ∷ verb_is.Err
    ∷ verb_is.OutEnd
    ∷ verb_is.ErrEnd
    ∷ verb_is.Open
    ∷ verb_is.Piece
    ∷ verb_is.End
    ∷ verb_is.Start
    ∷ verb_is.Stop
    ∷ verb_is.Signal
    ∷ []

-- the kinds of socket
abbrev pub sides : List Side
sides = side_is.Inet ∷ side_is.Unix ∷ []

-- the signals that the daemon can be sent
abbrev pub told_signal : Told → Signal
told_signal told_is.Term = signal_is.Term
told_signal told_is.Int = signal_is.Int
told_signal told_is.Quit = signal_is.Quit
told_signal told_is.Kill = signal_is.Kill
told_signal told_is.Usr1 = signal_is.Usr1
told_signal told_is.Usr2 = signal_is.Usr2

-- its name
abbrev pub told_word : Told → List ℕ
told_word told = signal_name (told_signal told)

-- all of them, of which none begins another
abbrev pub told_signals : List Told
told_signals =
    told_is.Term ∷ told_is.Int ∷ told_is.Quit ∷ told_is.Kill ∷ told_is.Usr1 ∷ told_is.Usr2 ∷ []

-- an exit code or a signal
abbrev pub ending_word : Ending → List ℕ
ending_word ending_is.Code = codes "code "
ending_word ending_is.Signal = codes "signal "

-- both of them
abbrev pub endings : List Ending
endings = ending_is.Code ∷ ending_is.Signal ∷ []

-- the first word of an answer, with the space after it where something follows
abbrev pub answer_word : Answer → List ℕ
answer_word answer_is.Pid = codes "pid "
answer_word answer_is.NoFile = codes "nofile"
answer_word answer_is.NotExecutable = codes "notexec"
answer_word answer_is.Refused = codes "refused "
answer_word answer_is.Bytes = codes "bytes "
answer_word answer_is.Done = codes "done"
answer_word answer_is.Missing = codes "missing"
answer_word answer_is.Names = codes "names "
answer_word answer_is.Size = codes "size "
answer_word answer_is.Failed = codes "failed "

-- of which none begins another
abbrev pub answers : List Answer
answers =
    answer_is.Pid
    ∷ answer_is.NoFile
    ∷ answer_is.NotExecutable
    ∷ answer_is.Refused
    ∷ answer_is.Bytes
    ∷ answer_is.Done
    ∷ answer_is.Missing
    ∷ answer_is.Names
    ∷ answer_is.Size
    ∷ answer_is.Failed
    ∷ []

-- the first word of a header line, with the space after it where something follows
abbrev pub opening_word : Opening → List ℕ
opening_word opening_is.Short = codes "supervisor-journal 0"
opening_word opening_is.Long = codes "supervisor-journal 1"
opening_word opening_is.Program = codes "program "
opening_word opening_is.Host = codes "host "
opening_word opening_is.Here = codes "here "
opening_word opening_is.Pid = codes "pid "
opening_word opening_is.Env = codes "env "
opening_word opening_is.Size = codes "size "
opening_word opening_is.Conf = codes "conf "
opening_word opening_is.Include = codes "include "
opening_word opening_is.Go = codes "go "

-- of which none begins another
abbrev pub openings : List Opening
openings =
    opening_is.Short
    ∷ opening_is.Long
    ∷ opening_is.Program
    ∷ opening_is.Host
    ∷ opening_is.Here
    ∷ opening_is.Pid
    ∷ opening_is.Env
    ∷ opening_is.Size
    ∷ opening_is.Conf
    ∷ opening_is.Include
    ∷ opening_is.Go
    ∷ []

-- the signals that may ask a program to stop
abbrev pub signals : List Signal
signals =
    signal_is.Term ∷ signal_is.Hup ∷ signal_is.Int ∷ signal_is.Quit ∷ signal_is.Kill
    ∷ signal_is.Usr1 ∷ signal_is.Usr2 ∷ []

-- the ways to be started again
abbrev pub autorestarts : List Autorestart
autorestarts = autorestart_is.Never ∷ autorestart_is.Unexpected ∷ autorestart_is.Always ∷ []

-- a part, and then what reads the rest
abbrev pub word_then : {X : Type 0} → List ℕ → (List ℕ → Result X ℕ) → List ℕ → Result X ℕ
word_then word next bs = word_at word bs >>= next

-- one of these words, and then what reads the rest
abbrev pub keyword_then : {K X : Type 0} → (K → List ℕ) → List K → (K → List ℕ → Result X ℕ)
    → List ℕ → Result X ℕ
keyword_then spelling ks next bs = keyword_at spelling ks bs >>= (λ r. next r.0 r.1)

-- a number, and then what reads the rest
abbrev pub number_then : {X : Type 0} → ℕ → ℕ → (ℕ → List ℕ → Result X ℕ) → List ℕ → Result X ℕ
number_then least limit next bs = number_at least limit bs >>= (λ r. next r.0 r.1)

-- a token, and then what reads the rest
abbrev pub token_then : {X : Type 0} → Letters → (List ℕ → List ℕ → Result X ℕ) → List ℕ
    → Result X ℕ
token_then letters next bs = token_at letters bs >>= (λ r. next r.0 r.1)

-- a token that ends the line
abbrev pub last_token_then : {X : Type 0} → Letters → (List ℕ → X) → List ℕ → Result X ℕ
last_token_then letters value bs = last_token_at letters bs >>= (λ bytes. Ok (value bytes))

-- a piece that ends the line
abbrev pub last_piece_then : {X : Type 0} → (List ℕ → X) → List ℕ → Result X ℕ
last_piece_then value bs = piece_at bs >>= (λ bytes. Ok (value bytes))

-- exit codes, and then what reads the rest
abbrev pub codes_then : {X : Type 0} → (List ℕ → List ℕ → Result X ℕ) → List ℕ → Result X ℕ
codes_then next bs = codes_from None bs >>= (λ r. next r.0 r.1)

-- inputs
unfoldable pub how_at : ℕ → Run → Ending → List ℕ → Result Input ℕ
how_at at run ending_is.Code =
    number_then 0 255 (λ code. end_at (input_is.Exit at run (how_is.Code code)))
how_at at run ending_is.Signal =
    number_then 1 64 (λ signal. end_at (input_is.Exit at run (how_is.Signal signal)))

-- how a child ended
unfoldable pub exit_at : ℕ → List ℕ → Result Input ℕ
exit_at at =
    number_then 0 run_limit
    (λ run. word_then (codes " ")
    (keyword_then ending_word endings (how_at at (record { 0 = run }))))

-- what a child wrote to this stream
unfoldable pub out_at : ℕ → Stream → List ℕ → Result Input ℕ
out_at at stream =
    number_then 0 run_limit (λ run.
    word_then (codes " ")
    (last_piece_then (λ bytes. input_is.Out at (record { 0 = run }) stream bytes)))

-- whose stream ended
unfoldable pub out_end_at : ℕ → Stream → List ℕ → Result Input ℕ
out_end_at at stream =
    number_then 0 run_limit (λ run. end_at (input_is.OutEnd at (record { 0 = run }) stream))

-- by which side a client connected
unfoldable pub open_at : ℕ → List ℕ → Result Input ℕ
open_at at =
    number_then 0 run_limit (λ link.
    word_then (codes " ") (keyword_then side_word sides (λ side.
    end_at (input_is.Open at (record { 0 = link }) side))))

-- what a client sent over its link
unfoldable pub link_piece_at : ℕ → List ℕ → Result Input ℕ
link_piece_at at =
    number_then 0 run_limit (λ link.
    word_then (codes " ")
    (last_piece_then (λ bytes. input_is.Piece at (record { 0 = link }) bytes)))

-- which link ended
unfoldable pub link_end_at : ℕ → List ℕ → Result Input ℕ
link_end_at at =
    number_then 0 run_limit (λ link. end_at (input_is.LinkEnd at (record { 0 = link })))

-- what follows the word of an event
unfoldable pub event_of : ℕ → Verb → List ℕ → Result Input ℕ
event_of at verb_is.Tick = end_at (input_is.Tick at)
event_of at verb_is.Exit = exit_at at
event_of at verb_is.Out = out_at at stream_is.Out
event_of at verb_is.Err = out_at at stream_is.Err
event_of at verb_is.OutEnd = out_end_at at stream_is.Out
event_of at verb_is.ErrEnd = out_end_at at stream_is.Err
event_of at verb_is.Open = open_at at
event_of at verb_is.Piece = link_piece_at at
event_of at verb_is.End = link_end_at at
event_of at verb_is.Start = last_token_then OfText (λ name. input_is.Start at name)
event_of at verb_is.Stop = last_token_then OfText (λ name. input_is.Stop at name)
event_of at verb_is.Signal =
    keyword_then told_word told_signals (λ told. end_at (input_is.Signal at (told_signal told)))

-- an event: its moment, its word and the rest
unfoldable pub event_at : List ℕ → Result Input ℕ
event_at =
    number_then 0 moment_limit
    (λ at. word_then (codes " ") (keyword_then verb_word verbs (event_of at)))

-- how many names there are, and each of them, which end the line
unfoldable pub names_line_at : List ℕ → Result Input ℕ
names_line_at =
    number_then 0 number_limit
    (λ n bs. names_at None n bs >>= (λ r. end_at (input_is.Names r.0) r.1))

-- what follows the word of an answer
unfoldable pub answer_of : Answer → List ℕ → Result Input ℕ
answer_of answer_is.Pid = number_then 1 run_limit (λ pid. end_at (input_is.Pid pid))
answer_of answer_is.NoFile = end_at input_is.NoFile
answer_of answer_is.NotExecutable = end_at input_is.NotExecutable
answer_of answer_is.Refused = last_token_then OfText (λ reason. input_is.Refused reason)
answer_of answer_is.Bytes = last_token_then OfBytes (λ bytes. input_is.Read bytes)
answer_of answer_is.Done = end_at input_is.Done
answer_of answer_is.Missing = end_at input_is.Missing
answer_of answer_is.Names = names_line_at
answer_of answer_is.Size = number_then 0 number_limit (λ size. end_at (input_is.Size size))
answer_of answer_is.Failed = number_then 0 number_limit (λ number. end_at (input_is.Failed number))

-- an answer: its word and the rest
unfoldable pub answer_at : List ℕ → Result Input ℕ
answer_at = keyword_then answer_word answers answer_of

-- a digit stands first
abbrev pub begins_with_digit : List ℕ → Bool
begins_with_digit [] = false
begins_with_digit (b ∷ bs) = is_ascii_digit b

-- an event begins with its moment
unfoldable pub input_at : List ℕ → Result Input ℕ
input_at bs = if begins_with_digit bs then event_at bs else answer_at bs

-- headers
unfoldable pub codes_at : List ℕ → ℕ → ℕ → Autorestart → List ℕ → Result Header ℕ
codes_at name startsecs startretries autorestart =
    codes_then (λ exitcodes.
    word_then (codes " ") (keyword_then signal_name signals (λ stopsignal.
    word_then (codes " ") (number_then 0 program_limit (λ stopwaitsecs.
    end_at (header_is.Program (record {
      name = name;
      startsecs = startsecs;
      startretries = startretries;
      autorestart = autorestart;
      exitcodes = exitcodes;
      stopsignal = stopsignal;
      stopwaitsecs = stopwaitsecs;
    })))))))

-- the keys of a program from autorestart on
unfoldable pub restart_at : List ℕ → ℕ → ℕ → List ℕ → Result Header ℕ
restart_at name startsecs startretries =
    keyword_then autorestart_word autorestarts
    (λ autorestart. word_then (codes " ") (codes_at name startsecs startretries autorestart))

-- the keys of a program from startsecs on
unfoldable pub start_at : List ℕ → List ℕ → Result Header ℕ
start_at name =
    number_then 0 program_limit
    (λ startsecs. word_then (codes " ")
    (number_then 0 program_limit
    (λ startretries. word_then (codes " ") (restart_at name startsecs startretries))))

-- a program
unfoldable pub program_at : List ℕ → Result Header ℕ
program_at = token_then OfName (λ name. word_then (codes " ") (start_at name))

-- a name in the environment and its value
unfoldable pub env_at : List ℕ → Result Header ℕ
env_at =
    token_then OfText
    (λ name. word_then (codes " ") (last_token_then OfText (λ value. header_is.Env name value)))

-- a log file and its size
unfoldable pub size_at : List ℕ → Result Header ℕ
size_at =
    token_then OfText
    (λ file. word_then (codes " ")
    (number_then 0 number_limit (λ size. end_at (header_is.Size file size))))

-- an included file and its text
unfoldable pub include_at : List ℕ → Result Header ℕ
include_at =
    token_then OfText
    (λ name. word_then (codes " ")
    (last_token_then OfBytes (λ text. header_is.Include name text)))

-- what follows the word of a header line
unfoldable pub header_of : Opening → List ℕ → Result Header ℕ
header_of opening_is.Short = end_at (header_is.Journal 0)
header_of opening_is.Long = end_at (header_is.Journal 1)
header_of opening_is.Program = program_at
header_of opening_is.Host = last_token_then OfText (λ name. header_is.Host name)
header_of opening_is.Here = last_token_then OfText (λ directory. header_is.Here directory)
header_of opening_is.Pid = number_then 0 run_limit (λ pid. end_at (header_is.Pid pid))
header_of opening_is.Env = env_at
header_of opening_is.Size = size_at
header_of opening_is.Conf = last_token_then OfBytes (λ text. header_is.Conf text)
header_of opening_is.Include = include_at
header_of opening_is.Go = number_then 0 moment_limit (λ at. end_at (header_is.Go at))

-- a header line: its word and the rest
unfoldable pub header_at : List ℕ → Result Header ℕ
header_at = keyword_then opening_word openings header_of
