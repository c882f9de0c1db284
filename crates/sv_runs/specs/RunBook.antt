-- The runs of processes and what becomes of them: a run is over where its process and both its
-- pipes ended. A listener is one until its process ends (the manual's chapter on events, "Event
-- Listener States").
use Rattle.std.specs.Prelude.{ℕ, List, [], ◌∷◌, ◌++◌, Option, Some, None, Bool, true, false, ◌&&◌}
use Rattle.std.specs.Prelude.{not, ◌==◌, if◌then◌else◌, map, length, drop, replicate, slice_set}
use Rattle.sv_base.specs.declared.ids.Run.{Run}
use Rattle.sv_base.specs.declared.state.Stream.{Stream}
use Rattle.sv_base.specs.declared.state.Stream.TheVariants.{Out, Err}
use Rattle.sv_pipes.specs.Talk.{Mark, said}
use Rattle.sv_pipes.specs.Talk.Mark.{Sent}
use Rattle.sv_pipes.specs.TalkCut.{talk_tokens, talk_state}
use Rattle.sv_pipes.specs.declared.tokens.TalkState.{TalkState}
use Rattle.sv_pipes.specs.declared.tokens.TalkState.TheVariants as state
use Rattle.sv_pipes.specs.declared.tokens.Token.{Token}

-- a run whose process was started
pub record RunRecord : Type 0 where
  -- the run's number
  pub number : ℕ
  -- the place of its process in the start order
  pub child : ℕ
  -- its process number
  pub pid : ℕ
  pub is_listener : Bool
  -- what a listener said on its standard output, with a mark where an event was sent to it
  pub talk : List Mark
  -- a write to it failed while it held an event: from then on it counts as UNKNOWN
  pub is_lost : Bool
  -- its process ended
  pub ended : Bool
  -- its standard output ended
  pub out_ended : Bool
  -- its standard error ended
  pub err_ended : Bool

-- all runs
pub record RunBook : Type 0 where
  -- in the order in which they began
  pub all : List RunRecord
  -- of each child, whether the stdin of its present run was closed by a failed write
  pub closed : List Bool

-- before any run, of so many children
abbrev pub opening : ℕ → RunBook
opening children = record { all = []; closed = replicate children false }

-- a run as it begins
abbrev pub new_run : ℕ → ℕ → ℕ → Bool → RunRecord
new_run number child pid is_listener = record {
  number = number;
  child = child;
  pid = pid;
  is_listener = is_listener;
  talk = [];
  is_lost = false;
  ended = false;
  out_ended = false;
  err_ended = false;
}

-- a run begins: the stdin of its child is open again
abbrev pub begun : Run → ℕ → ℕ → Bool → RunBook → RunBook
begun run child pid is_listener book = record {
  all = book.all ++ new_run run.0 child pid is_listener ∷ [];
  closed = slice_set book.closed child false;
}

-- the later of two, where there is one
abbrev pub later : Option RunRecord → Option RunRecord → Option RunRecord
later first None = first
later first (Some r) = Some r

-- a run, where it has this number
abbrev pub of_number : ℕ → RunRecord → Option RunRecord
of_number number r = if r.number == number then Some r else None

-- the last of these runs that has this number
abbrev pub last_of : ℕ → List RunRecord → Option RunRecord
last_of number [] = None
last_of number (r ∷ rs) = later (of_number number r) (last_of number rs)

-- the run of this number: the last, should several have it
abbrev pub run_of : ℕ → RunBook → Option RunRecord
run_of number book = last_of number book.all

-- its process and both its pipes ended
abbrev pub is_over : RunRecord → Bool
is_over r = r.ended && r.out_ended && r.err_ended

-- it is a listener whose process hasn't ended, and which no failed write made UNKNOWN
abbrev pub is_listening : RunRecord → Bool
is_listening r = r.is_listener && not r.is_lost && not r.ended

-- it is such a listener, and its stdout hasn't ended
abbrev pub is_talking : RunRecord → Bool
is_talking r = is_listening r && not r.out_ended

-- whether a talk waits for an event
abbrev pub waits : TalkState → Bool
waits state.Ready = true
waits other = false

-- it is such a listener, and waits for an event; that its stdout ended does no harm
abbrev pub may_get : RunRecord → Bool
may_get r = is_listening r && waits (talk_state r.talk)

-- ---- what is asked of a run

-- a record's child, where its process hasn't ended
abbrev pub living_of : Option RunRecord → Option ℕ
living_of None = None
living_of (Some r) = if r.ended then None else Some r.child

-- the child of a run whose process hasn't ended
abbrev pub living : Run → RunBook → Option ℕ
living run book = living_of (run_of run.0 book)

-- a record's process number, where it isn't over
abbrev pub pid_of : Option RunRecord → Option ℕ
pid_of None = None
pid_of (Some r) = if is_over r then None else Some r.pid

-- the process number of a run that isn't over
abbrev pub pid_in : Run → RunBook → Option ℕ
pid_in run book = pid_of (run_of run.0 book)

-- a record's child, where it is talking
abbrev pub teller_of : Option RunRecord → Option ℕ
teller_of None = None
teller_of (Some r) = if is_talking r then Some r.child else None

-- the child of a run that is talking
abbrev pub teller : Run → RunBook → Option ℕ
teller run book = teller_of (run_of run.0 book)

-- whether a record is that of a listener that waits for an event
abbrev pub is_ready_one : Option RunRecord → Bool
is_ready_one None = false
is_ready_one (Some r) = may_get r

-- whether a run is a listener that waits for an event
abbrev pub is_ready : Run → RunBook → Bool
is_ready run book = is_ready_one (run_of run.0 book)

-- what these bytes add to the tokens of a talk
abbrev pub tokens_more : List Mark → List ℕ → List Token
tokens_more talk bytes = drop (length (talk_tokens talk)) (talk_tokens (talk ++ said bytes))

-- what they add to the tokens of a record that is talking
abbrev pub tokens_by : Option RunRecord → List ℕ → List Token
tokens_by None bytes = []
tokens_by (Some r) bytes = if is_talking r then tokens_more r.talk bytes else []

-- what these bytes of a run's stdout tell: the new tokens of its talk, where it is talking
abbrev pub new_tokens : Run → List ℕ → RunBook → List Token
new_tokens run bytes book = tokens_by (run_of run.0 book) bytes

-- ---- what becomes of a run

-- a run, changed where it has this number
abbrev pub changed_at : ℕ → (RunRecord → RunRecord) → RunRecord → RunRecord
changed_at number change r = if r.number == number then change r else r

-- the run of this number is changed so
abbrev pub changed : Run → (RunRecord → RunRecord) → RunBook → RunBook
changed run change book = record book { all = map (changed_at run.0 change) book.all }

-- these bytes join its talk, where it is talking
abbrev pub says : List ℕ → RunRecord → RunRecord
says bytes r = if is_talking r then record r { talk = r.talk ++ said bytes } else r

-- these bytes came on a run's stdout
abbrev pub heard : Run → List ℕ → RunBook → RunBook
heard run bytes book = changed run (says bytes) book

-- there is a mark in its talk, where it waited for an event
abbrev pub gets : RunRecord → RunRecord
gets r = if may_get r then record r { talk = r.talk ++ Sent ∷ [] } else r

-- an event was sent to a run
abbrev pub sent : Run → RunBook → RunBook
sent run book = changed run gets book

-- its pipe is at its end
abbrev pub ends_pipe : Stream → RunRecord → RunRecord
ends_pipe Out r = record r { out_ended = true }
ends_pipe Err r = record r { err_ended = true }

-- one of a run's pipes ended
abbrev pub pipe_ended : Run → Stream → RunBook → RunBook
pipe_ended run stream book = changed run (ends_pipe stream) book

-- its process is at its end
abbrev pub ends : RunRecord → RunRecord
ends r = record r { ended = true }

-- a run's process ended
abbrev pub process_ended : Run → RunBook → RunBook
process_ended run book = changed run ends book

-- it counts as UNKNOWN
abbrev pub loses : RunRecord → RunRecord
loses r = record r { is_lost = true }

-- a write to a run failed while it held an event
abbrev pub lost : Run → RunBook → RunBook
lost run book = changed run loses book

-- the stdin of this child is closed, if there is one
abbrev pub closed_of : Option ℕ → List Bool → List Bool
closed_of None closed = closed
closed_of (Some child) closed = slice_set closed child true

-- a write to a run failed: the stdin of its child is closed, where its process hasn't ended
abbrev pub stdin_lost : Run → RunBook → RunBook
stdin_lost run book = record book { closed = closed_of (living run book) book.closed }
