-- What a listener hears: the cut of the stream of its standard input into header lines and bodies,
-- up to a rest or up to the first fault.
use Rattle.std.specs.Prelude.{◌+◌, ℕ, zero, suc, List, [], ◌∷◌, Bool, true, false, Option, None}
use Rattle.std.specs.Prelude.{Some, length, take, drop, nat_le, nat_lt, if◌then◌else◌}
use Rattle.sv_base.specs.KindNames.{kind_name}
use Rattle.sv_listener.specs.Limits.{header_limit, body_limit}
use Rattle.sv_listener.specs.Reading.{cut_at}
use Rattle.sv_listener.specs.HeaderLine.{Header, header_of}
use Rattle.sv_listener.specs.declared.events.Heard.{Heard}
use Rattle.sv_listener.specs.declared.events.HeardFault.{HeardFault}
use Rattle.sv_listener.specs.declared.events.HeardFault.TheVariants.{BadHeader, TooLong}
use Rattle.sv_listener.specs.declared.header.Size.{Size}
use Rattle.sv_listener.specs.declared.header.Size.TheVariants.{Bytes, Endless}
use Rattle.sv_listener.specs.declared.first.First.{First}
use Rattle.sv_listener.specs.declared.first.First.TheVariants.{Open, Fault, Whole}

-- how a stream ends: between two events, inside one, or at a fault
pub data End : Type 0 where
  Between : End
  Within : End
  Faulty : (fault : HeardFault) → End

-- the events of a stream, in order, and how it ends
pub record Hearing : Type 0 where
  pub events : List Heard
  pub end : End

-- an event with this header and this body
abbrev pub event_of : Header → List ℕ → Heard
event_of header body = record {
  eventname = kind_name header.kind;
  pool = header.pool;
  serial = header.serial;
  poolserial = header.poolserial;
  body = body;
}

-- what begins after a header line of so many bytes: an event, where its body is whole
abbrev pub with_body : ℕ → Header → Size → List ℕ → First
with_body before header Endless after = Fault TooLong
with_body before header (Bytes size) after =
    if nat_lt body_limit size then Fault TooLong
    else if nat_le size (length after)
    then Whole (event_of header (take size after)) (before + size)
    else Open

-- a header line is judged at its line feed
abbrev pub with_header : ℕ → Option Header → List ℕ → First
with_header before None after = Fault BadHeader
with_header before (Some header) after = with_body before header header.size after

-- or where it passes its limit
abbrev pub by_line : List ℕ → Option (List ℕ × List ℕ) → First
by_line bytes None = if nat_lt header_limit (length bytes) then Fault BadHeader else Open
by_line bytes (Some (line, after)) =
    if nat_lt header_limit (length line) then Fault BadHeader
    else with_header (length line + 1) (header_of line) after

-- what stands first: an event and how many bytes it has, a fault, or neither yet
unfoldable pub first_of : List ℕ → First
first_of bytes = by_line bytes (cut_at 10 bytes)

-- where bytes end that are no whole event
abbrev pub end_of : List ℕ → End
end_of [] = Between
end_of rest = Within

-- an event before what is heard further
abbrev pub with_event : Heard → Hearing → Hearing
with_event event hearing = record { events = event ∷ hearing.events; end = hearing.end }

-- what is heard of bytes, by what stands first
abbrev pub hears_by : (List ℕ → Hearing) → List ℕ → First → Hearing
hears_by further bytes Open = record { events = []; end = end_of bytes }
hears_by further bytes (Fault fault) = record { events = []; end = Faulty fault }
hears_by further bytes (Whole event size) = with_event event (further (drop size bytes))

-- at most so many events
abbrev pub hears_at : ℕ → List ℕ → Hearing
hears_at zero bytes = record { events = []; end = Between }
hears_at (suc most) bytes = hears_by (hears_at most) bytes (first_of bytes)

-- what is heard of a whole stream
unfoldable pub hearing_of : List ℕ → Hearing
hearing_of stream = hears_at (length stream) stream

-- the fault at which a stream ends, if it does
abbrev pub fault_of : End → Option HeardFault
fault_of (Faulty fault) = Some fault
fault_of end = None

-- no part of an event is left over
abbrev pub is_between : End → Bool
is_between Within = false
is_between end = true
