-- What the reader of an exit's body gives.
use Rattle.std.specs.Prelude.{◌≡◌, Option, None, Some}
use Rattle.sv_listener.specs.ExitBody.{Exit as Said}
use Rattle.sv_listener.specs.declared.exits.Exit.{Exit}

-- what was read
abbrev pub said_of : Exit → Said
said_of exit = record {
  name = exit.name.now;
  group = exit.group.now;
  from = exit.from;
  expected = exit.expected;
  pid = exit.pid;
}

-- what was read is what the body says
abbrev pub Reads : Option Exit → Option Said → Type 0
Reads None said = said ≡ None
Reads (Some exit) said = said ≡ Some (said_of exit)
