-- The body of an event of the type PROCESS_STATE_EXITED (the manual's chapter on events): how it is
-- written, and how it is read.
use Rattle.std.specs.Prelude.{◌≡◌, ◌<◌, ◌^◌, ◌++◌, ◌==◌, ℕ, List, [], ◌∷◌, Bool, true, false}
use Rattle.std.specs.Prelude.{Option, None, Some, codes, nat_lt, option_map, if◌then◌else◌}
use Rattle.std.specs.Fmt.{decimal}
use Rattle.std.specs.List.{find, list_any}
use Rattle.std.specs.Str.{bytes_eq, is_utf8}
use Rattle.sv_base.specs.Ascii.{line_feed}
use Rattle.sv_base.specs.Names.{state_name}
use Rattle.sv_base.specs.declared.state.State.{State}
use Rattle.sv_base.specs.declared.state.State.TheVariants.{Stopped, Starting, Running, Backoff}
use Rattle.sv_base.specs.declared.state.State.TheVariants.{Stopping, Exited, Fatal, Unknown}
use Rattle.sv_listener.specs.HeaderLine.{IsWord}
use Rattle.sv_listener.specs.Reading.{◌>>=◌, provided, small_number, text_at}
use Rattle.sv_pipes.specs.StreamCut.{rest_after}

-- what a body says of an exit
pub record Exit : Type 0 where
  pub name : List ℕ
  pub group : List ℕ
  pub from : State
  pub expected : Bool
  pub pid : ℕ

-- 1 for an exit that was expected, and else 0
abbrev pub truth_digit : Bool → List ℕ
truth_digit true = codes "1"
truth_digit false = codes "0"

-- the body of a server
abbrev pub exit_body : Exit → List ℕ
exit_body exit =
    codes "processname:" ++ exit.name
    ++ codes " groupname:" ++ exit.group
    ++ codes " from_state:" ++ state_name exit.from
    ++ codes " expected:" ++ truth_digit exit.expected
    ++ codes " pid:" ++ decimal exit.pid

-- whether a text has a line feed
abbrev pub has_feed : List ℕ → Bool
has_feed text = list_any (λ byte. byte == line_feed) text

-- a body is the body that says this
pub record IsExitBody (body : List ℕ) (exit : Exit) : Type 0 where
  pub body_is : body ≡ exit_body exit
  pub name : IsWord exit.name
  pub group : IsWord exit.group
  pub one_line : has_feed body ≡ false
  pub pid : exit.pid < 2 ^ 32

-- the parts that are read one after the other
abbrev pub all_states : List State
all_states =
    Stopped ∷ Starting ∷ Running ∷ Backoff ∷ Stopping ∷ Exited ∷ Fatal ∷ Unknown ∷ []

-- the state of this name
abbrev pub state_in : List ℕ → Option State
state_in text = find (λ state. bytes_eq (state_name state) text) all_states

-- a state, and what follows the space after it
abbrev pub state_at : List ℕ → Option (State × List ℕ)
state_at bytes =
    text_at bytes >>= (λ parts. option_map (λ state. (state, parts.1)) (state_in parts.0))

-- the truth that a digit says
abbrev pub truth_in : List ℕ → Option Bool
truth_in text =
    if bytes_eq text (codes "1") then Some true
    else if bytes_eq text (codes "0") then Some false
    else None

-- a truth, and what follows the space after it
abbrev pub truth_at : List ℕ → Option (Bool × List ℕ)
truth_at bytes =
    text_at bytes >>= (λ parts. option_map (λ truth. (truth, parts.1)) (truth_in parts.0))

-- the number of a process, below 2^32
abbrev pub pid_of : List ℕ → Option ℕ
pid_of digits = small_number digits >>= (λ value. provided (nat_lt value (2 ^ 32)) value)

-- the same of bytes, which may be no text
abbrev pub pid_in : List ℕ → Option ℕ
pid_in bytes = if is_utf8 bytes then pid_of bytes else None

-- from the last word on
abbrev pub ended : List ℕ → List ℕ → State → Bool → List ℕ → Option Exit
ended name group from expected bytes = do
  a ← rest_after (codes "pid:") bytes
  pid ← pid_in a
  Some (record { name = name; group = group; from = from; expected = expected; pid = pid })

-- from the state on
abbrev pub left_from : List ℕ → List ℕ → List ℕ → Option Exit
left_from name group bytes = do
  a ← rest_after (codes "from_state:") bytes
  from ← state_at a
  b ← rest_after (codes "expected:") from.1
  expected ← truth_at b
  ended name group from.0 expected.0 expected.1

-- a body of one line
abbrev pub exit_in : List ℕ → Option Exit
exit_in body = do
  a ← rest_after (codes "processname:") body
  name ← text_at a
  b ← rest_after (codes "groupname:") name.1
  group ← text_at b
  left_from name.0 group.0 group.1

-- what a body says
unfoldable pub exit_of : List ℕ → Option Exit
exit_of body = if has_feed body then None else exit_in body
