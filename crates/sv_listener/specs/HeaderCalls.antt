-- What the reader of a header line gives.
use Rattle.std.specs.Prelude.{◌≡◌, Option, None, Some}
use Rattle.sv_listener.specs.HeaderLine.{Header as Said}
use Rattle.sv_listener.specs.declared.header.Header.{Header}

-- what was read
abbrev pub said_of : Header → Said
said_of header = record {
  pool = header.pool.now;
  serial = header.serial;
  poolserial = header.poolserial;
  kind = header.kind;
  size = header.size;
}

-- what was read is what the line says
abbrev pub Reads : Option Header → Option Said → Type 0
Reads None said = said ≡ None
Reads (Some header) said = said ≡ Some (said_of header)
