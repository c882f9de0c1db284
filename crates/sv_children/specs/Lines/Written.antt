-- Which lines of the main log are written (the manual's chapter on configuration, `loglevel`).
use Rattle.std.specs.Prelude.{ℕ, List, Option, Some, None, Bool, nat_le, if◌then◌else◌}
use Rattle.sv_base.specs.declared.state.Level.{Level}
use Rattle.sv_base.specs.declared.state.Level.TheVariants.{Blather, Trace, Debug, Info, Warn, Error}
use Rattle.sv_base.specs.declared.state.Level.TheVariants.{Critical}
use Rattle.sv_children.specs.declared.lines.line.Line.{Line}
use Rattle.sv_logs.specs.MainLine.{main_text}

-- the levels, the lowest first
abbrev pub rank : Level → ℕ
rank Blather = 0
rank Trace = 1
rank Debug = 2
rank Info = 3
rank Warn = 4
rank Error = 5
rank Critical = 6

-- a line below the least level isn't written
abbrev pub is_written : Level → Level → Bool
is_written level least = nat_le (rank least) (rank level)

-- the bytes of a line of this moment, where it is written
abbrev pub written : Level → ℕ → Line → Option (List ℕ)
written least now line =
    if is_written line.level least then Some (main_text now line.level line.text) else None
