use Rattle.std.proofs.Common.{◌≡◌, ◌^◌, ◌<◌, ℕ, List, [], ◌∷◌, ◌++◌, length, true, refl, arith}
use Rattle.std.proofs.Math.Seq.{take-append_seam, drop-append-add}
use Rattle.std.proofs.lemmas.Fmt.{decimal_is_IsNumeral}
use Rattle.std.proofs.lemmas.Grind.{common_steps}
use Rattle.std.proofs.lemmas.List.Folds.{list_all-append}
use Rattle.std.specs.Fmt.{decimal}
use Rattle.std.specs.List.{position_or_len, before_first, after_first}
use Rattle.std.specs.Str.Parse.{AllDigits}
use Rattle.sv_base.specs.KindNames.{kind_name}
use Rattle.sv_base.specs.declared.kind.Kind.{Kind}
use Rattle.sv_base.specs.declared.kind.Kind.TheVariants.{Event, ProcessState, ProcessStateStarting, ProcessStateRunning, ProcessStateBackoff, ProcessStateStopping, ProcessStateExited, ProcessStateStopped, ProcessStateFatal, ProcessStateUnknown, ProcessCommunication, ProcessCommunicationStdout, ProcessCommunicationStderr, ProcessLog, ProcessLogStdout, ProcessLogStderr, RemoteCommunication, SupervisorStateChange, SupervisorStateChangeRunning, SupervisorStateChangeStopping, Tick, Tick5, Tick60, Tick3600, ProcessGroup, ProcessGroupAdded, ProcessGroupRemoved}
use Rattle.sv_events.specs.EventText.{envelope_head}
use Rattle.sv_events.specs.OneLine.{is_one_line, is_line_feed}
use Rattle.sv_events.specs.declared.event.Event.{Event as AnEvent}

kind_name_is_one_line : (kind : Kind) → is_one_line (kind_name kind) ≡ true
kind_name_is_one_line Event = refl
kind_name_is_one_line ProcessState = refl
kind_name_is_one_line ProcessStateStarting = refl
kind_name_is_one_line ProcessStateRunning = refl
kind_name_is_one_line ProcessStateBackoff = refl
kind_name_is_one_line ProcessStateStopping = refl
kind_name_is_one_line ProcessStateExited = refl
kind_name_is_one_line ProcessStateStopped = refl
kind_name_is_one_line ProcessStateFatal = refl
kind_name_is_one_line ProcessStateUnknown = refl
kind_name_is_one_line ProcessCommunication = refl
kind_name_is_one_line ProcessCommunicationStdout = refl
kind_name_is_one_line ProcessCommunicationStderr = refl
kind_name_is_one_line ProcessLog = refl
kind_name_is_one_line ProcessLogStdout = refl
kind_name_is_one_line ProcessLogStderr = refl
kind_name_is_one_line RemoteCommunication = refl
kind_name_is_one_line SupervisorStateChange = refl
kind_name_is_one_line SupervisorStateChangeRunning = refl
kind_name_is_one_line SupervisorStateChangeStopping = refl
kind_name_is_one_line Tick = refl
kind_name_is_one_line Tick5 = refl
kind_name_is_one_line Tick60 = refl
kind_name_is_one_line Tick3600 = refl
kind_name_is_one_line ProcessGroup = refl
kind_name_is_one_line ProcessGroupAdded = refl
kind_name_is_one_line ProcessGroupRemoved = refl

-- a digit is no line feed
digits_are_one_line : (digits : List ℕ) → AllDigits 10 digits → is_one_line digits ≡ true
digits_are_one_line [] all = refl
digits_are_one_line (digit ∷ digits) all = grind (arith, common_steps, digits_are_one_line digits all.1, all.0)

decimal_is_one_line : (number : ℕ) → number < 2 ^ 64 → is_one_line (decimal number) ≡ true
decimal_is_one_line number small = digits_are_one_line (decimal number) (decimal_is_IsNumeral number small).0.1

-- a line before a line feed is what stands before the first one
line_length : (line rest : List ℕ) → is_one_line line ≡ true → position_or_len is_line_feed (line ++ 10 ∷ rest) ≡ length line
line_length [] rest one = refl
line_length (byte ∷ line) rest one = grind (arith, common_steps, line_length line rest)

pub before_line_feed : (line rest : List ℕ) → is_one_line line ≡ true → before_first is_line_feed (line ++ 10 ∷ rest) ≡ line
before_line_feed line rest one = rw (line_length line rest one) (take-append_seam line (10 ∷ rest))

pub after_line_feed : (line rest : List ℕ) → is_one_line line ≡ true → after_first is_line_feed (line ++ 10 ∷ rest) ≡ rest
after_line_feed line rest one = rw (line_length line rest one) (drop-append-add line (10 ∷ rest) 1)

pub head_is_one_line : (server pool : List ℕ) (poolserial : ℕ) (event : AnEvent) → is_one_line server ≡ true → is_one_line pool ≡ true
    → poolserial < 2 ^ 64 → event.serial < 2 ^ 64 → length event.body < 2 ^ 64 → is_one_line (envelope_head server pool poolserial event) ≡ true
head_is_one_line server pool poolserial event one_server one_pool small_poolserial small_serial small_body =
    simp (
      list_all-append,
      one_server,
      one_pool,
      decimal_is_one_line poolserial small_poolserial,
      decimal_is_one_line event.serial small_serial,
      decimal_is_one_line (length event.body) small_body,
      kind_name_is_one_line event.kind,
    )
