-- The one line of each input, order and header, without its line feed, and which of them a journal
-- may hold.
use Rattle.std.specs.Prelude.{ℕ, ◌<◌, ◌≤◌, ◌≡◌, ◌≢◌, List, [], ◌∷◌, ◌++◌, length, Bool, true, false}
use Rattle.std.specs.Prelude.{codes, IsUtf8, nat_lt, nat_le}
use Rattle.std.specs.List.{flat_map, list_all}
use Rattle.std.specs.Fmt.{decimal}
use Rattle.sv_base.specs.Limits.{moment_limit, piece_limit}
use Rattle.sv_base.specs.Names.{signal_name, state_name}
use Rattle.sv_base.specs.declared.signal.Signal.TheVariants.{Hup}
use Rattle.sv_base.specs.declared.state.How.{How}
use Rattle.sv_base.specs.declared.state.How.TheVariants.{Code, Signal as BySignal}
use Rattle.sv_base.specs.declared.state.Stream.{Stream}
use Rattle.sv_base.specs.declared.state.Stream.TheVariants as stream_is
use Rattle.sv_base.specs.declared.state.Side.{Side}
use Rattle.sv_base.specs.declared.state.Side.TheVariants as side_is
use Rattle.sv_base.specs.declared.state.Autorestart.{Autorestart}
use Rattle.sv_base.specs.declared.state.Autorestart.TheVariants.{Never, Unexpected, Always}
use Rattle.sv_out.specs.Files.{AreRising}
use Rattle.sv_out.specs.declared.input.Input.{Input}
use Rattle.sv_out.specs.declared.input.Input.TheVariants as input_is
use Rattle.sv_out.specs.declared.order.Order.{Order}
use Rattle.sv_out.specs.declared.order.Order.TheVariants as order_is
use Rattle.sv_out.specs.declared.order.SpawnOrder.{SpawnOrder}
use Rattle.sv_journal.specs.declared.header.Header.{Header}
use Rattle.sv_journal.specs.declared.header.Header.TheVariants as header_is
use Rattle.sv_journal.specs.declared.header.Program.{Program}
use Rattle.sv_journal.specs.Limits.{number_limit, run_limit, program_limit}
use Rattle.sv_journal.specs.Spelling.{token, comma_list}
use Rattle.sv_journal.specs.ProgramNames.{IsName}

-- a byte, as one of eight bits
abbrev pub is_byte : ℕ → Bool
is_byte b = nat_lt b 256

-- any bytes
abbrev pub AreBytes : List ℕ → Type 0
AreBytes bytes = list_all is_byte bytes ≡ true

-- what a pipe or a link brings at once: 1 to 65,536 bytes
abbrev pub IsPiece : List ℕ → Type 0
IsPiece bytes = AreBytes bytes × (1 ≤ length bytes) × (length bytes ≤ piece_limit)

-- how a process ended
abbrev pub how_words : How → List ℕ
how_words (Code code) = codes "code " ++ decimal code
how_words (BySignal signal) = codes "signal " ++ decimal signal

-- an exit code of one byte, or a signal of Linux
abbrev pub FitsHow : How → Type 0
FitsHow (Code code) = code ≤ 255
FitsHow (BySignal signal) = (1 ≤ signal) × (signal ≤ 64)

-- the word of a piece of this stream
abbrev pub stream_word : Stream → List ℕ
stream_word stream_is.Out = codes " out "
stream_word stream_is.Err = codes " err "

-- the word of this stream's end
abbrev pub stream_end_word : Stream → List ℕ
stream_end_word stream_is.Out = codes " outend "
stream_end_word stream_is.Err = codes " errend "

-- the kind of socket
abbrev pub side_word : Side → List ℕ
side_word side_is.Inet = codes "inet"
side_word side_is.Unix = codes "unix"

-- a space and a token
abbrev pub then_token : List ℕ → List ℕ
then_token bytes = codes " " ++ token bytes

-- how many words there are, and each of them
abbrev pub counted_words : List (List ℕ) → List ℕ
counted_words words = codes " " ++ decimal (length words) ++ flat_map then_token words

-- the line of an input
abbrev pub input_line : Input → List ℕ
input_line (input_is.Tick at) = decimal at ++ codes " tick"
input_line (input_is.Exit at run how) =
    decimal at ++ codes " exit " ++ decimal run.0 ++ codes " " ++ how_words how
input_line (input_is.Out at run stream bytes) =
    decimal at ++ stream_word stream ++ decimal run.0 ++ codes " " ++ token bytes
input_line (input_is.OutEnd at run stream) = decimal at ++ stream_end_word stream ++ decimal run.0
input_line (input_is.Open at link side) =
    decimal at ++ codes " open " ++ decimal link.0 ++ codes " " ++ side_word side
input_line (input_is.Piece at link bytes) =
    decimal at ++ codes " piece " ++ decimal link.0 ++ codes " " ++ token bytes
input_line (input_is.LinkEnd at link) = decimal at ++ codes " end " ++ decimal link.0
input_line (input_is.Start at name) = decimal at ++ codes " start " ++ token name
input_line (input_is.Stop at name) = decimal at ++ codes " stop " ++ token name
input_line (input_is.Signal at signal) = decimal at ++ codes " signal " ++ signal_name signal
input_line (input_is.Pid pid) = codes "pid " ++ decimal pid
input_line input_is.NoFile = codes "nofile"
input_line input_is.NotExecutable = codes "notexec"
input_line (input_is.Refused reason) = codes "refused " ++ token reason
input_line (input_is.Read bytes) = codes "bytes " ++ token bytes
input_line input_is.Done = codes "done"
input_line input_is.Missing = codes "missing"
input_line (input_is.Names names) = codes "names" ++ counted_words names
input_line (input_is.Size size) = codes "size " ++ decimal size
input_line (input_is.Failed number) = codes "failed " ++ decimal number

-- each of these is a text
abbrev pub AreTexts : List (List ℕ) → Type 0
AreTexts [] = Unit {0}
AreTexts (text ∷ texts) = IsUtf8 text × AreTexts texts

-- the inputs that have a line
abbrev pub FitsInput : Input → Type 0
FitsInput (input_is.Tick at) = at ≤ moment_limit
FitsInput (input_is.Exit at run how) = (at ≤ moment_limit) × (run.0 ≤ run_limit) × FitsHow how
FitsInput (input_is.Out at run stream bytes) =
    (at ≤ moment_limit) × (run.0 ≤ run_limit) × IsPiece bytes
FitsInput (input_is.OutEnd at run stream) = (at ≤ moment_limit) × (run.0 ≤ run_limit)
FitsInput (input_is.Open at link side) = (at ≤ moment_limit) × (link.0 ≤ run_limit)
FitsInput (input_is.Piece at link bytes) =
    (at ≤ moment_limit) × (link.0 ≤ run_limit) × IsPiece bytes
FitsInput (input_is.LinkEnd at link) = (at ≤ moment_limit) × (link.0 ≤ run_limit)
FitsInput (input_is.Start at name) = (at ≤ moment_limit) × IsUtf8 name
FitsInput (input_is.Stop at name) = (at ≤ moment_limit) × IsUtf8 name
FitsInput (input_is.Signal at signal) = (at ≤ moment_limit) × (signal ≢ Hup)
FitsInput (input_is.Pid pid) = (1 ≤ pid) × (pid ≤ run_limit)
FitsInput input_is.NoFile = Unit {0}
FitsInput input_is.NotExecutable = Unit {0}
FitsInput (input_is.Refused reason) = IsUtf8 reason
FitsInput (input_is.Read bytes) = AreBytes bytes
FitsInput input_is.Done = Unit {0}
FitsInput input_is.Missing = Unit {0}
FitsInput (input_is.Names names) = AreTexts names × (length names ≤ number_limit) × AreRising names
FitsInput (input_is.Size size) = size ≤ number_limit
FitsInput (input_is.Failed number) = number ≤ number_limit

-- a name and a value, each after a space
abbrev pub then_pair : List ℕ × List ℕ → List ℕ
then_pair pair = then_token pair.0 ++ then_token pair.1

-- how many pairs there are, and each of them
abbrev pub counted_pairs : List (List ℕ × List ℕ) → List ℕ
counted_pairs pairs = codes " " ++ decimal (length pairs) ++ flat_map then_pair pairs

-- the line of a spawn
abbrev pub spawn_line : SpawnOrder → List ℕ
spawn_line spawn =
    codes "spawn "
    ++ decimal spawn.run.0
    ++ then_token spawn.group
    ++ then_token spawn.name
    ++ then_token spawn.directory
    ++ then_token spawn.umask
    ++ then_token spawn.user
    ++ counted_words spawn.words
    ++ counted_pairs spawn.environment

-- who is sent a signal: a process, or its group
abbrev pub receiver : Bool → List ℕ
receiver true = codes " group"
receiver false = codes " child"

-- the line of an order
abbrev pub order_line : Order → List ℕ
order_line (order_is.State group name from to) =
    codes "state" ++ then_token group ++ then_token name ++ codes " " ++ state_name from
    ++ codes " " ++ state_name to
order_line (order_is.Dropped pool serial poolserial) =
    codes "dropped" ++ then_token pool ++ codes " " ++ decimal serial ++ codes " "
    ++ decimal poolserial
order_line (order_is.Spawn spawn) = spawn_line spawn
order_line (order_is.Kill run signal group) =
    codes "kill " ++ decimal run.0 ++ codes " " ++ signal_name signal ++ receiver group
order_line (order_is.Stdin run bytes) = codes "stdin " ++ decimal run.0 ++ then_token bytes
order_line (order_is.Append file bytes) = codes "append" ++ then_token file ++ then_token bytes
order_line (order_is.Shift from to) = codes "shift" ++ then_token from ++ then_token to
order_line (order_is.Fresh file) = codes "fresh" ++ then_token file
order_line (order_is.ReadFile file start length) =
    codes "read" ++ then_token file ++ codes " " ++ decimal start ++ codes " " ++ decimal length
order_line (order_is.ClearFile file) = codes "clear" ++ then_token file
order_line (order_is.Names pattern) = codes "names" ++ then_token pattern
order_line (order_is.Size file) = codes "size" ++ then_token file
order_line (order_is.Send link bytes) = codes "send " ++ decimal link.0 ++ then_token bytes
order_line (order_is.More link) = codes "more " ++ decimal link.0
order_line (order_is.Close link) = codes "close " ++ decimal link.0
order_line order_is.Halt = codes "halt"

-- when a program is started again
abbrev pub autorestart_word : Autorestart → List ℕ
autorestart_word Never = codes "false"
autorestart_word Unexpected = codes "unexpected"
autorestart_word Always = codes "true"

-- the line of a program
abbrev pub program_line : Program → List ℕ
program_line program =
    codes "program "
    ++ token program.name
    ++ codes " "
    ++ decimal program.startsecs
    ++ codes " "
    ++ decimal program.startretries
    ++ codes " "
    ++ autorestart_word program.autorestart
    ++ codes " "
    ++ comma_list program.exitcodes
    ++ codes " "
    ++ signal_name program.stopsignal
    ++ codes " "
    ++ decimal program.stopwaitsecs

-- the line of a header
abbrev pub header_line : Header → List ℕ
header_line (header_is.Journal version) = codes "supervisor-journal " ++ decimal version
header_line (header_is.Program program) = program_line program
header_line (header_is.Host name) = codes "host " ++ token name
header_line (header_is.Here directory) = codes "here " ++ token directory
header_line (header_is.Pid pid) = codes "pid " ++ decimal pid
header_line (header_is.Env name value) = codes "env " ++ token name ++ codes " " ++ token value
header_line (header_is.Size file size) = codes "size " ++ token file ++ codes " " ++ decimal size
header_line (header_is.Conf text) = codes "conf " ++ token text
header_line (header_is.Include name text) =
    codes "include " ++ token name ++ codes " " ++ token text
header_line (header_is.Go at) = codes "go " ++ decimal at

-- an exit code of one byte
abbrev pub is_exit_code : ℕ → Bool
is_exit_code code = nat_le code 255

-- the programs that have a line
abbrev pub FitsProgram : Program → Type 0
FitsProgram program =
    IsName program.name
    × (program.startsecs ≤ program_limit)
    × (program.startretries ≤ program_limit)
    × (0 < length program.exitcodes)
    × (list_all is_exit_code program.exitcodes ≡ true)
    × (program.stopwaitsecs ≤ program_limit)

-- the short header is version 0, the long one version 1
abbrev pub FitsHeader : Header → Type 0
FitsHeader (header_is.Journal version) = version ≤ 1
FitsHeader (header_is.Program program) = FitsProgram program
FitsHeader (header_is.Host name) = IsUtf8 name
FitsHeader (header_is.Here directory) = IsUtf8 directory
FitsHeader (header_is.Pid pid) = pid ≤ run_limit
FitsHeader (header_is.Env name value) = IsUtf8 name × IsUtf8 value
FitsHeader (header_is.Size file size) = IsUtf8 file × (size ≤ number_limit)
FitsHeader (header_is.Conf text) = AreBytes text
FitsHeader (header_is.Include name text) = IsUtf8 name × AreBytes text
FitsHeader (header_is.Go at) = at ≤ moment_limit
