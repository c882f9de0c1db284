-- The line by which the shell sends a signal.
use Rattle.std.specs.Prelude.{ℕ, ◌++◌, ◌&&◌, Bool, List, codes, nat_lt, if◌then◌else◌}
use Rattle.std.specs.Fmt.{decimal}
use Rattle.sv_base.specs.Names.{signal_name}
use Rattle.sv_base.specs.declared.signal.Signal.{Signal}

-- to the process of this number; after `-- -` to the group of this number
abbrev pub kill_to : List ℕ → ℕ → Signal → List ℕ
kill_to behind pid signal =
    codes "kill -s " ++ signal_name signal ++ codes " " ++ behind ++ decimal pid

-- to a group, or where there is no such group to the process alone
abbrev pub kill_group : ℕ → Signal → List ℕ
kill_group pid signal =
    kill_to (codes "-- -") pid signal ++ codes " || " ++ kill_to (codes "") pid signal

-- of group 1 the number would stand for every process
abbrev pub kill_line : ℕ → Signal → Bool → List ℕ
kill_line pid signal group =
    if group && nat_lt 1 pid then kill_group pid signal else kill_to (codes "") pid signal
