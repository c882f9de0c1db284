-- The text of an event, as a listener program reads it (the manual's chapter on events).
use Rattle.std.specs.Prelude.{List, [], ◌∷◌, ◌++◌, ℕ, Bool, true, false, codes, length}
use Rattle.std.specs.Fmt.{decimal}
use Rattle.sv_base.specs.Ascii.{line_feed}
use Rattle.sv_base.specs.KindNames.{kind_name}
use Rattle.sv_base.specs.Names.{state_name}
use Rattle.sv_base.specs.declared.state.State.{State}
use Rattle.sv_base.specs.declared.state.Stream.{Stream}
use Rattle.sv_base.specs.declared.state.Stream.TheVariants.{Out, Err}
use Rattle.sv_events.specs.declared.event.Event.{Event}
use Rattle.sv_events.specs.declared.fact.Fact.{Fact}
use Rattle.sv_events.specs.declared.fact.Fact.TheVariants.{Trying, Living, Ended, GaveUp}
use Rattle.sv_events.specs.declared.fact.Fact.TheVariants.{Communication, Log, Remote, Tick}
use Rattle.sv_events.specs.declared.fact.Fact.TheVariants.{GroupChange, Supervisor}

-- the names of a process
abbrev pub process_head : List ℕ → List ℕ → List ℕ
process_head name group = codes "processname:" ++ name ++ codes " groupname:" ++ group

-- with the state that it left
abbrev pub state_head : List ℕ → List ℕ → State → List ℕ
state_head name group from = process_head name group ++ codes " from_state:" ++ state_name from

-- 1 where the exit was expected
abbrev pub expected_digit : Bool → List ℕ
expected_digit true = codes "1"
expected_digit false = codes "0"

-- the channel of a piece
abbrev pub channel_name : Stream → List ℕ
channel_name Out = codes "stdout"
channel_name Err = codes "stderr"

-- the body: one line for each kind of fact
abbrev pub body_of : Fact → List ℕ
body_of (Trying name group from tries) =
    state_head name group from ++ codes " tries:" ++ decimal tries
body_of (Living name group from pid) = state_head name group from ++ codes " pid:" ++ decimal pid
body_of (Ended name group from expected pid) =
    state_head name group from ++ codes " expected:" ++ expected_digit expected ++ codes " pid:"
    ++ decimal pid
body_of (GaveUp name group from) = state_head name group from
body_of (Communication name group pid bytes) =
    process_head name group ++ codes " pid:" ++ decimal pid ++ line_feed ∷ bytes
body_of (Log name group pid stream bytes) =
    process_head name group ++ codes " pid:" ++ decimal pid ++ codes " channel:"
    ++ channel_name stream ++ line_feed ∷ bytes
body_of (Remote sort bytes) = codes "type:" ++ sort ++ line_feed ∷ bytes
body_of (Tick when) = codes "when:" ++ decimal when
body_of (GroupChange group) = codes "groupname:" ++ group ++ line_feed ∷ []
body_of Supervisor = []

-- the head of an event that a pool hands out, on a line of its own; `len` is how many bytes the
-- body has
abbrev pub envelope_head : List ℕ → List ℕ → ℕ → Event → List ℕ
envelope_head server pool poolserial event =
    codes "ver:3.0 server:" ++ server
    ++ codes " serial:" ++ decimal event.serial
    ++ codes " pool:" ++ pool
    ++ codes " poolserial:" ++ decimal poolserial
    ++ codes " eventname:" ++ kind_name event.kind
    ++ codes " len:" ++ decimal (length event.body)

-- the head line, and the body after it
abbrev pub envelope_of : List ℕ → List ℕ → ℕ → Event → List ℕ
envelope_of server pool poolserial event =
    envelope_head server pool poolserial event ++ line_feed ∷ event.body
