-- The long header that a daemon writes.
use Rattle.std.specs.Prelude.{ℕ, List, [], ◌∷◌, ◌++◌, nat_lt, if◌then◌else◌}
use Rattle.std.specs.List.{flat_map}
use Rattle.sv_base.specs.Ascii.{line_feed}
use Rattle.sv_base.specs.declared.config.Host.{Host}
use Rattle.sv_journal.specs.JournalLine.{header_line}
use Rattle.sv_journal.specs.declared.header.Header.{Header}
use Rattle.sv_journal.specs.declared.header.Header.TheVariants.{Journal, Env, Size, Include, Conf}
use Rattle.sv_journal.specs.declared.header.Header.TheVariants.{Go, Here, Pid}
use Rattle.sv_journal.specs.declared.header.Header.TheVariants as header_is

-- a line with its line feed
unfoldable pub line_text : Header → List ℕ
line_text header = header_line header ++ line_feed ∷ []

-- a variable of the environment
abbrev pub env_text : List ℕ × List ℕ → List ℕ
env_text pair = line_text (Env pair.0 pair.1)

-- the size of a file; one of 0 has no line
abbrev pub size_text : List ℕ × ℕ → List ℕ
size_text known = if nat_lt 0 known.1 then line_text (Size known.0 known.1) else []

-- an included text
abbrev pub include_text : List ℕ × List ℕ → List ℕ
include_text included = line_text (Include included.0 included.1)

-- the whole header: its version, the host with its environment, the sizes, the configuration with
-- its includes, and the start
abbrev pub header_text : Host → List (List ℕ × ℕ) → List ℕ → List (List ℕ × List ℕ) → List ℕ
header_text host sizes main included =
    line_text (Journal 1)
    ++ line_text (header_is.Host host.name)
    ++ line_text (Here host.here)
    ++ line_text (Pid host.pid)
    ++ flat_map env_text host.environment
    ++ flat_map size_text sizes
    ++ line_text (Conf main)
    ++ flat_map include_text included
    ++ line_text (Go host.start)
