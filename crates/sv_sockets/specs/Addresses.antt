-- The line for an address that can't be opened.
use Rattle.std.specs.Prelude.{ℕ, ◌++◌, List, codes}
use Rattle.std.specs.Fmt.{decimal}
use Rattle.sv_base.specs.declared.config.Place.{Place}
use Rattle.sv_base.specs.declared.config.Place.TheVariants.{Inet, Unix}

-- a port of a host, as a server's URL has it
abbrev pub inet_address : List ℕ → ℕ → List ℕ
inet_address host port = codes "http://" ++ host ++ codes ":" ++ decimal port

-- the address, as a server's URL has it
abbrev pub address : Place → List ℕ
address (Inet host port) = inet_address host port
address (Unix path) = codes "unix://" ++ path

-- the line, with its line feed
abbrev pub opening_line : Place → List ℕ → List ℕ
opening_line place reason =
    codes "Error: cannot open " ++ address place ++ codes ": " ++ reason ++ codes "\n"
