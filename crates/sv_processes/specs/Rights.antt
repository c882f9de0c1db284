-- Which files are programs, and who may execute them.
use Rattle.std.specs.Prelude.{ℕ, ◌||◌, Bool, List, bit_and, codes, nat_eq, not, if◌then◌else◌}
use Rattle.std.specs.List.{list_any, starts_with}
use Rattle.sv_processes.specs.declared.state.ProcessState.{ProcessState}

-- a script names its interpreter in its first line; a text without that is run by a shell alone, while a program of the machine has
-- a NUL among its first bytes
abbrev pub is_program : List ℕ → Bool
is_program head = starts_with nat_eq head (codes "#!") || list_any (λ byte. nat_eq byte 0) head

-- some of these rights are among those of a file
abbrev pub has_some : ℕ → ℕ → Bool
has_some rights mode = not (nat_eq (bit_and mode rights) 0)

-- a process is in this group
abbrev pub is_in : ProcessState → ℕ → Bool
is_in state group = nat_eq state.group group || list_any (λ other. nat_eq other group) state.groups.items

-- execution by POSIX: root where anybody may, its owner by the owner's right, its group by the group's, all others by theirs
abbrev pub may_execute : ℕ → ℕ → ℕ → ProcessState → Bool
may_execute mode owner group state =
    if nat_eq state.user 0 then has_some 0o111 mode
    else if nat_eq state.user owner then has_some 0o100 mode
    else if is_in state group then has_some 0o010 mode
    else has_some 0o001 mode
