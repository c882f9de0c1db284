-- An event as a daemon writes it (the manual's chapter on events, "Event Listener Notification
-- Protocol"): a header line, a line feed and the body; and how a listener hears it.
use Rattle.std.specs.Prelude.{◌≡◌, ◌≤◌, ◌<◌, ◌^◌, ◌+◌, ◌++◌, ◌∷◌, ℕ, List, None, codes, length}
use Rattle.std.specs.Fmt.{decimal}
use Rattle.sv_base.specs.Ascii.{line_feed}
use Rattle.sv_base.specs.KindNames.{kind_name}
use Rattle.sv_base.specs.declared.kind.Kind.{Kind}
use Rattle.sv_listener.specs.HeaderLine.{IsWord}
use Rattle.sv_listener.specs.Reading.{cut_at}
use Rattle.sv_listener.specs.declared.events.Heard.{Heard}

-- the parts of an event
pub record Event : Type 0 where
  pub server : List ℕ
  pub pool : List ℕ
  pub serial : ℕ
  pub poolserial : ℕ
  pub kind : Kind
  pub body : List ℕ

-- its header line
abbrev pub head_of : Event → List ℕ
head_of event =
    codes "ver:3.0 server:" ++ event.server
    ++ codes " serial:" ++ decimal event.serial
    ++ codes " pool:" ++ event.pool
    ++ codes " poolserial:" ++ decimal event.poolserial
    ++ codes " eventname:" ++ kind_name event.kind
    ++ codes " len:" ++ decimal (length event.body)

-- the whole event
abbrev pub text_of : Event → List ℕ
text_of event = head_of event ++ line_feed ∷ event.body

-- as a listener hears it
abbrev pub heard_of : Event → Heard
heard_of event = record {
  eventname = kind_name event.kind;
  pool = event.pool;
  serial = event.serial;
  poolserial = event.poolserial;
  body = event.body;
}

-- names without space and line feed, numbers of 64 bits, and neither line nor body too long
pub record CanBeHeard (event : Event) : Type 0 where
  pub server : IsWord event.server
  pub pool : IsWord event.pool
  pub server_line : cut_at 10 event.server ≡ None
  pub pool_line : cut_at 10 event.pool ≡ None
  pub short : length event.server + length event.pool ≤ 3900
  pub serial : event.serial < 2 ^ 64
  pub poolserial : event.poolserial < 2 ^ 64
  pub body : length event.body ≤ 33554432
