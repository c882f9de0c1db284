-- The header line of an event (the manual's chapter on events, "Event Listener Notification
-- Protocol"): how it is written, and how it is read.
use Rattle.std.specs.Prelude.{◌≡◌, ◌<◌, ◌^◌, ℕ, List, ◌++◌, Option, None, Some, codes, true}
use Rattle.std.specs.Fmt.{decimal}
use Rattle.std.specs.Str.{is_utf8}
use Rattle.std.specs.Str.Parse.{digits_value}
use Rattle.sv_base.specs.KindNames.{kind_name}
use Rattle.sv_base.specs.declared.kind.Kind.{Kind}
use Rattle.sv_pipes.specs.StreamCut.{rest_after}
use Rattle.sv_listener.specs.Reading.{◌>>=◌, cut_at, is_number, text_at, number_at, kind_at}
use Rattle.sv_listener.specs.Reading.{size_of, size_at}
use Rattle.sv_listener.specs.declared.header.Size.{Size}

-- what a header line says of an event
pub record Header : Type 0 where
  pub pool : List ℕ
  pub serial : ℕ
  pub poolserial : ℕ
  pub kind : Kind
  pub size : Size

-- the line of a server, with these digits of the size
abbrev pub header_line : List ℕ → Header → List ℕ → List ℕ
header_line server header digits =
    codes "ver:3.0 server:" ++ server
    ++ codes " serial:" ++ decimal header.serial
    ++ codes " pool:" ++ header.pool
    ++ codes " poolserial:" ++ decimal header.poolserial
    ++ codes " eventname:" ++ kind_name header.kind
    ++ codes " len:" ++ digits

-- a text without a space
pub record IsWord (text : List ℕ) : Type 0 where
  pub text_is : is_utf8 text ≡ true
  pub no_space : cut_at 32 text ≡ None

-- a line is the header line that says this
pub record IsHeaderLine (line : List ℕ) (header : Header) : Type 0 where
  pub server : List ℕ
  pub digits : List ℕ
  pub line_is : line ≡ header_line server header digits
  pub server_is : IsWord server
  pub pool : IsWord header.pool
  pub serial : header.serial < 2 ^ 64
  pub poolserial : header.poolserial < 2 ^ 64
  pub number : is_number digits ≡ true
  pub size : size_of (digits_value 10 digits) ≡ header.size

-- the parts that are read one after the other
abbrev pub sized : List ℕ → ℕ → ℕ → Kind → List ℕ → Option Header
sized pool serial poolserial kind bytes = do
  a ← rest_after (codes "len:") bytes
  size ← size_at a
  Some (record {
    pool = pool;
    serial = serial;
    poolserial = poolserial;
    kind = kind;
    size = size;
  })

-- the line from the event type on
abbrev pub named : List ℕ → ℕ → ℕ → List ℕ → Option Header
named pool serial poolserial bytes = do
  a ← rest_after (codes "eventname:") bytes
  kind ← kind_at a
  sized pool serial poolserial kind.0 kind.1

-- the line from the pool on
abbrev pub pooled : ℕ → List ℕ → Option Header
pooled serial bytes = do
  a ← rest_after (codes "pool:") bytes
  pool ← text_at a
  b ← rest_after (codes "poolserial:") pool.1
  poolserial ← number_at b
  named pool.0 serial poolserial.0 poolserial.1

-- what a line says
unfoldable pub header_of : List ℕ → Option Header
header_of line = do
  a ← rest_after (codes "ver:3.0 server:") line
  server ← text_at a
  b ← rest_after (codes "serial:") server.1
  serial ← number_at b
  pooled serial.0 serial.1
