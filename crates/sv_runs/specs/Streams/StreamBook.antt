-- The output of runs: all bytes that came on the two pipes of each, and what is decided of them
-- (the manual's chapter on logging, "Child Process Logs" and "Capture Mode").
use Rattle.std.specs.Prelude.{ℕ, zero, suc, List, [], ◌∷◌, ◌++◌, Option, Some, None, Bool, true}
use Rattle.std.specs.Prelude.{false, ◌&&◌, ◌||◌, not, ◌==◌, if◌then◌else◌, map, length, drop}
use Rattle.std.specs.Prelude.{option_map}
use Rattle.std.specs.List.{flat_map}
use Rattle.sv_base.specs.declared.ids.Run.{Run}
use Rattle.sv_base.specs.declared.state.Stream.{Stream}
use Rattle.sv_base.specs.declared.state.Stream.TheVariants.{Out, Err}
use Rattle.sv_pipes.specs.CaptureCut.{Decided, grouped}
use Rattle.sv_pipes.specs.CaptureCut.Decided.{Byte, Message}
use Rattle.sv_pipes.specs.Kept.{logged_part}
use Rattle.sv_pipes.specs.StreamCut.{closed_of, decided_of}
use Rattle.sv_pipes.specs.declared.parts.Part.{Part}
use Rattle.sv_pipes.specs.declared.parts.Part.TheVariants as part
use Rattle.sv_runs.specs.declared.streams.owner.Owner.{Owner}

-- the output of a run whose process was started; a book of it is a list of these, in the order in
-- which the runs began
pub record StreamRecord : Type 0 where
  -- the run's number
  pub number : ℕ
  -- the place of its process in the start order
  pub child : ℕ
  -- its process number
  pub pid : ℕ
  -- what comes on its standard error counts as its standard output
  pub redirect : Bool
  -- the most bytes of a message on each channel, where 0 is no capture
  pub out_limit : ℕ
  pub err_limit : ℕ
  -- all bytes of each channel
  pub out_bytes : List ℕ
  pub err_bytes : List ℕ
  -- its standard output ended
  pub out_ended : Bool
  -- its standard error ended
  pub err_ended : Bool

-- a run as it begins
abbrev pub new_run : ℕ → ℕ → ℕ → Bool → ℕ → ℕ → StreamRecord
new_run number child pid redirect out_limit err_limit = record {
  number = number;
  child = child;
  pid = pid;
  redirect = redirect;
  out_limit = out_limit;
  err_limit = err_limit;
  out_bytes = [];
  err_bytes = [];
  out_ended = false;
  err_ended = false;
}

-- a run begins
abbrev pub begun : Run → ℕ → ℕ → Bool → ℕ → ℕ → List StreamRecord → List StreamRecord
begun run child pid redirect out_limit err_limit book =
    book ++ new_run run.0 child pid redirect out_limit err_limit ∷ []

-- the later of two, where there is one
abbrev pub later : Option StreamRecord → Option StreamRecord → Option StreamRecord
later first None = first
later first (Some s) = Some s

-- a run, where it has this number
abbrev pub of_number : ℕ → StreamRecord → Option StreamRecord
of_number number s = if s.number == number then Some s else None

-- the last of these runs that has this number
abbrev pub last_of : ℕ → List StreamRecord → Option StreamRecord
last_of number [] = None
last_of number (s ∷ book) = later (of_number number s) (last_of number book)

-- both its pipes ended
abbrev pub is_over : StreamRecord → Bool
is_over s = s.out_ended && s.err_ended

-- a run of which a pipe is open
abbrev pub open_run : Option StreamRecord → Option StreamRecord
open_run None = None
open_run (Some s) = if is_over s then None else Some s

-- ---- pipes and channels

-- the channel of a pipe: with redirection a piece of stderr is one of stdout
abbrev pub channel_of : Stream → StreamRecord → Stream
channel_of Out s = Out
channel_of Err s = if s.redirect then Out else Err

-- whether a pipe ended
abbrev pub has_ended : Stream → StreamRecord → Bool
has_ended Out s = s.out_ended
has_ended Err s = s.err_ended

-- whether a channel is at its end: with redirection that of stdout is where both pipes ended
abbrev pub is_whole : Stream → StreamRecord → Bool
is_whole Out s = s.out_ended && (s.err_ended || not s.redirect)
is_whole Err s = s.err_ended

-- these bytes join a channel
abbrev pub joins : Stream → List ℕ → StreamRecord → StreamRecord
joins Out bytes s = record s { out_bytes = s.out_bytes ++ bytes }
joins Err bytes s = record s { err_bytes = s.err_bytes ++ bytes }

-- ---- what is decided of a channel

-- what is new when these bytes join it: without capture they are for the log as they are
abbrev pub parts_more : ℕ → List ℕ → List ℕ → List Part
parts_more zero stream bytes = logged_part bytes
parts_more (suc most) stream bytes =
    let limit =
    suc most in grouped
    (drop (length (decided_of limit stream)) (decided_of limit (stream ++ bytes)))

-- what is new at its end
abbrev pub parts_last : ℕ → List ℕ → List Part
parts_last zero stream = []
parts_last (suc most) stream =
    let limit =
    suc most in grouped (drop (length (decided_of limit stream)) (closed_of limit stream))

-- so of the channels of a run
abbrev pub more_on : Stream → List ℕ → StreamRecord → List Part
more_on Out bytes s = parts_more s.out_limit s.out_bytes bytes
more_on Err bytes s = parts_more s.err_limit s.err_bytes bytes

abbrev pub last_on : Stream → StreamRecord → List Part
last_on Out s = parts_last s.out_limit s.out_bytes
last_on Err s = parts_last s.err_limit s.err_bytes

-- ---- a piece comes, and a pipe ends

-- these bytes came on a pipe, and join its channel unless the pipe ended
abbrev pub takes : Stream → List ℕ → StreamRecord → StreamRecord
takes pipe bytes s = if has_ended pipe s then s else joins (channel_of pipe s) bytes s

-- what they decide
abbrev pub parts_by : Stream → List ℕ → StreamRecord → List Part
parts_by pipe bytes s = if has_ended pipe s then [] else more_on (channel_of pipe s) bytes s

-- a pipe is at its end
abbrev pub ends : Stream → StreamRecord → StreamRecord
ends Out s = record s { out_ended = true }
ends Err s = record s { err_ended = true }

-- what is decided where a pipe has just ended, and its channel with it
abbrev pub parts_at_end : Stream → StreamRecord → List Part
parts_at_end pipe s = if is_whole (channel_of pipe s) s then last_on (channel_of pipe s) s else []

-- what the end of a pipe decides, and a second end nothing
abbrev pub parts_by_end : Stream → StreamRecord → List Part
parts_by_end pipe s = if has_ended pipe s then [] else parts_at_end pipe (ends pipe s)

-- ---- of the run of a number

-- the run of this number: the last, should several have it
abbrev pub run_of : Run → List StreamRecord → Option StreamRecord
run_of run book = last_of run.0 book

-- a run, changed where it has this number
abbrev pub changed_at : ℕ → (StreamRecord → StreamRecord) → StreamRecord → StreamRecord
changed_at number change s = if s.number == number then change s else s

-- the run of this number is changed so
abbrev pub changed : Run → (StreamRecord → StreamRecord) → List StreamRecord → List StreamRecord
changed run change book = map (changed_at run.0 change) book

-- these bytes came on a pipe of a run
abbrev pub fed : Run → Stream → List ℕ → List StreamRecord → List StreamRecord
fed run pipe bytes book = changed run (takes pipe bytes) book

-- a pipe of a run ended
abbrev pub pipe_ended : Run → Stream → List StreamRecord → List StreamRecord
pipe_ended run pipe book = changed run (ends pipe) book

-- the parts of a run, where there is one
abbrev pub parts_of : (StreamRecord → List Part) → Option StreamRecord → List Part
parts_of parts None = []
parts_of parts (Some s) = parts s

-- what these bytes on a pipe of a run decide
abbrev pub new_parts : Run → Stream → List ℕ → List StreamRecord → List Part
new_parts run pipe bytes book = parts_of (parts_by pipe bytes) (run_of run book)

-- what the end of a pipe of a run decides
abbrev pub last_parts : Run → Stream → List StreamRecord → List Part
last_parts run pipe book = parts_of (parts_by_end pipe) (run_of run book)

-- whose output it is
abbrev pub owner_of : StreamRecord → Owner
owner_of s = record { child = s.child; pid = s.pid }

-- the owner of a run's output, while a pipe of it is open
abbrev pub owner_in : Run → List StreamRecord → Option Owner
owner_in run book = option_map owner_of (open_run (run_of run book))

-- the channel of a pipe of a run, while a pipe of it is open
abbrev pub channel_in : Run → Stream → List StreamRecord → Option Stream
channel_in run pipe book = option_map (channel_of pipe) (open_run (run_of run book))

-- ---- of a whole channel

-- the bytes for the log in a part
abbrev pub logged_by : Part → List ℕ
logged_by (part.Logged bytes) = bytes
logged_by (part.Message bytes) = []

abbrev pub logged_in : List Part → List ℕ
logged_in parts = flat_map logged_by parts

-- what a part decides
abbrev pub decided_by : Part → List Decided
decided_by (part.Logged bytes) = map Byte bytes
decided_by (part.Message bytes) = Message bytes ∷ []

abbrev pub decided_in : List Part → List Decided
decided_in parts = flat_map decided_by parts

-- all parts of a channel that comes in these pieces, up to its end
abbrev pub parts_through : ℕ → List ℕ → List (List ℕ) → List Part
parts_through limit stream [] = parts_last limit stream
parts_through limit stream (piece ∷ pieces) =
    parts_more limit stream piece ++ parts_through limit (stream ++ piece) pieces
