-- The commands of the client: the calls that each makes, in order, and how the answer of each is
-- shown.
use Rattle.std.specs.Prelude.{◌==◌, ◌+◌, ◌-◌, ◌*◌, ◌&&◌, ◌++◌, ◌∷◌, ℕ, pos, neg_ℤ, List, [], Bool}
use Rattle.std.specs.Prelude.{true, false, Option, Some, None, codes, map, drop, find, nat_le}
use Rattle.std.specs.Prelude.{if◌then◌else◌}
use Rattle.std.specs.Char.{is_ascii_digit}
use Rattle.std.specs.Str.{bytes_eq}
use Rattle.sv_base.specs.Ascii.{digit_zero, hyphen}
use Rattle.sv_base.specs.SplitName.{split_of}
use Rattle.sv_xmlcall.specs.Trees.{CallTree, Tree, Trees, integer, text, no_tree, tree, call_view}
use Rattle.sv_commands.specs.Subjects.{is_group, sent_name}
use Rattle.sv_commands.specs.declared.act.Act.{Act}
use Rattle.sv_commands.specs.declared.act.Act.TheVariants.{Start, Stop, Signal, Clear}
use Rattle.sv_commands.specs.declared.step.Line.{Line}
use Rattle.sv_commands.specs.declared.step.Show.{Show}
use Rattle.sv_commands.specs.declared.step.Show.TheVariants.{Done, Rows, Table, Log, Version}
use Rattle.sv_commands.specs.declared.step.Show.TheVariants.{Number, Pid, ShutDown}
use Rattle.sv_commands.specs.declared.step.Step.{Step}
use Rattle.sv_commands.specs.declared.verb.Verb.{Verb}
use Rattle.sv_commands.specs.declared.verb.Verb.TheVariants as verb

-- one call of a command, with how its answer is shown
pub record Asked : Type 0 where
  pub call : CallTree
  pub line : Line

-- a step as plain data
abbrev pub step_view : Step → Asked
step_view step = record { call = call_view step.call; line = step.line }

-- steps as plain data
abbrev pub steps_view : List Step → List Asked
steps_view steps = map step_view steps

-- the word of each command
abbrev pub verb_name : Verb → List ℕ
verb_name verb.Status = codes "status"
verb_name verb.Start = codes "start"
verb_name verb.Stop = codes "stop"
verb_name verb.Restart = codes "restart"
verb_name verb.Signal = codes "signal"
verb_name verb.Clear = codes "clear"
verb_name verb.Tail = codes "tail"
verb_name verb.MainTail = codes "maintail"
verb_name verb.Pid = codes "pid"
verb_name verb.Version = codes "version"
verb_name verb.Shutdown = codes "shutdown"

-- all commands
abbrev pub all_verbs : List Verb
all_verbs =
    verb.Status ∷ verb.Start ∷ verb.Stop ∷ verb.Restart ∷ verb.Signal ∷ verb.Clear ∷ verb.Tail
    ∷ verb.MainTail
    ∷ verb.Pid ∷ verb.Version ∷ verb.Shutdown ∷ []

-- the command of a word
abbrev pub verb_of : List ℕ → Option Verb
verb_of word = find (λ verb. bytes_eq (verb_name verb) word) all_verbs

-- the method of what is done to one process
abbrev pub method_of_one : Act → List ℕ
method_of_one Start = codes "supervisor.startProcess"
method_of_one Stop = codes "supervisor.stopProcess"
method_of_one Signal = codes "supervisor.signalProcess"
method_of_one Clear = codes "supervisor.clearProcessLogs"

-- the method of what is done to a group
abbrev pub method_of_group : Act → List ℕ
method_of_group Start = codes "supervisor.startProcessGroup"
method_of_group Stop = codes "supervisor.stopProcessGroup"
method_of_group Signal = codes "supervisor.signalProcessGroup"
method_of_group Clear = codes "supervisor.clearProcessLogs"

-- the method of what is done to all
abbrev pub method_of_all : Act → List ℕ
method_of_all Start = codes "supervisor.startAllProcesses"
method_of_all Stop = codes "supervisor.stopAllProcesses"
method_of_all Signal = codes "supervisor.signalAllProcesses"
method_of_all Clear = codes "supervisor.clearAllProcessLogs"

-- the logs of a group aren't cleared by a call of their own
abbrev pub has_groups : Act → Bool
has_groups Clear = false
has_groups act = true

-- the signal, where there is one, after the other parameters
abbrev pub signal_param : Option (List ℕ) → Trees
signal_param None = no_tree
signal_param (Some signal) = tree (text signal) no_tree

-- a call with a name and how it is shown
abbrev pub asked : List ℕ → Trees → Option (List ℕ) → Show → Bool → Asked
asked method params name show counts = record {
  call = record { method = method; params = params };
  line = record { name = name; show = show; counts = counts };
}

-- what is asked to act on one name: `all` is all processes, `g:*` and `g:` a group, every other one
-- process
abbrev pub act_on : Act → Option (List ℕ) → Bool → List ℕ → Asked
act_on act signal counts name =
    if bytes_eq name (codes "all")
    then asked (method_of_all act) (signal_param signal) None (Rows act) counts
    else if has_groups act && is_group name
    then asked (method_of_group act) (tree (text (split_of name).0) (signal_param signal))
    (Some name) (Rows act) counts
    else asked (method_of_one act) (tree (text (sent_name name)) (signal_param signal)) (Some name)
    (Done act) counts

-- what is asked to act on each name, in order
abbrev pub act_on_each : Act → Option (List ℕ) → Bool → List (List ℕ) → List Asked
act_on_each act signal counts names = map (act_on act signal counts) names

-- names have to be there
abbrev pub of_some : (List (List ℕ) → List Asked) → List (List ℕ) → Option (List Asked)
of_some steps [] = None
of_some steps (name ∷ names) = Some (steps (name ∷ names))

-- the names are stopped, then started; only a start counts
abbrev pub restarted : List (List ℕ) → List Asked
restarted names = act_on_each Stop None false names ++ act_on_each Start None true names

-- a signal, then names
abbrev pub signalled : List (List ℕ) → Option (List Asked)
signalled [] = None
signalled (signal ∷ names) = of_some (act_on_each Signal (Some signal) true) names

-- the words of a command that takes none
abbrev pub alone : Asked → List (List ℕ) → Option (List Asked)
alone step [] = Some (step ∷ [])
alone step (word ∷ words) = None

-- the table of processes
abbrev pub status_of : List (List ℕ) → List Asked
status_of names = asked (codes "supervisor.getAllProcessInfo") no_tree None (Table names) true ∷ []

-- the daemon's process number, or that of a process
abbrev pub pid_of : List (List ℕ) → Option (List Asked)
pid_of [] = Some (asked (codes "supervisor.getPID") no_tree None Number true ∷ [])
pid_of (name ∷ []) =
    Some
    (asked (codes "supervisor.getProcessInfo") (tree (text (sent_name name)) no_tree)
    (Some name) Pid true ∷ [])
pid_of (name ∷ other ∷ more) = None

-- the number that further decimal digits write after a number, where it is at most 2,147,483,647
abbrev pub digits_from : ℕ → List ℕ → Option ℕ
digits_from number [] = Some number
digits_from number (digit ∷ digits) =
    if is_ascii_digit digit && nat_le (10 * number + (digit - 48)) 2147483647
    then digits_from (10 * number + (digit - 48)) digits
    else None

-- a count of bytes: digits without leading zeros, a number from 1 to 2,147,483,647
abbrev pub count_of : List ℕ → Option ℕ
count_of [] = None
count_of (digit ∷ digits) = if digit == digit_zero then None else digits_from 0 (digit ∷ digits)

-- the method that reads a log
abbrev pub reading : List ℕ → Option (List ℕ)
reading stream =
    if bytes_eq stream (codes "stdout") then Some (codes "supervisor.readProcessStdoutLog")
    else if bytes_eq stream (codes "stderr") then Some (codes "supervisor.readProcessStderrLog")
    else None

-- the last so many bytes
abbrev pub last_bytes : ℕ → Trees
last_bytes count = tree (integer (neg_ℤ (pos count))) (tree (integer (pos 0)) no_tree)

-- the end of a process's log
abbrev pub log_end : List ℕ → Option ℕ → Option (List ℕ) → Option (List Asked)
log_end name None method = None
log_end name (Some count) None = None
log_end name (Some count) (Some method) =
    Some (asked method (tree (text (sent_name name)) (last_bytes count)) (Some name) Log true ∷ [])

-- the word begins with a dash
abbrev pub is_option : List ℕ → Bool
is_option [] = false
is_option (byte ∷ bytes) = byte == hyphen

-- the words after `-K`, a count of bytes: a name, and a stream where it is told
abbrev pub tail_by : Option ℕ → List (List ℕ) → Option (List Asked)
tail_by count [] = None
tail_by count (name ∷ []) = log_end name count (reading (codes "stdout"))
tail_by count (name ∷ stream ∷ []) = log_end name count (reading stream)
tail_by count (name ∷ stream ∷ other ∷ more) = None

-- the words of `tail`: 1,600 bytes where no count is told
abbrev pub tail_of : List (List ℕ) → Option (List Asked)
tail_of [] = None
tail_of (word ∷ words) =
    if is_option word then tail_by (count_of (drop 1 word)) words
    else tail_by (Some 1600) (word ∷ words)

-- the end of the daemon's log
abbrev pub main_end : Asked
main_end = asked (codes "supervisor.readLog") (last_bytes 1600) None Log true

-- the daemon's version
abbrev pub version : Asked
version = asked (codes "supervisor.getSupervisorVersion") no_tree None Version true

-- the daemon's shutdown
abbrev pub shutdown : Asked
shutdown = asked (codes "supervisor.shutdown") no_tree None ShutDown true

-- the table of commands
abbrev pub steps_by : Verb → List (List ℕ) → Option (List Asked)
steps_by verb.Status words = Some (status_of words)
steps_by verb.Start words = of_some (act_on_each Start None true) words
steps_by verb.Stop words = of_some (act_on_each Stop None true) words
steps_by verb.Restart words = of_some restarted words
steps_by verb.Signal words = signalled words
steps_by verb.Clear words = of_some (act_on_each Clear None true) words
steps_by verb.Tail words = tail_of words
steps_by verb.MainTail words = alone main_end words
steps_by verb.Pid words = pid_of words
steps_by verb.Version words = alone version words
steps_by verb.Shutdown words = alone shutdown words

-- the steps of a command, where its word is one
abbrev pub steps_behind : Option Verb → List (List ℕ) → Option (List Asked)
steps_behind None words = None
steps_behind (Some verb) words = steps_by verb words

-- the steps of a command's words; none where they are no command
abbrev pub steps_of : List (List ℕ) → Option (List Asked)
steps_of [] = None
steps_of (word ∷ words) = steps_behind (verb_of word) words
