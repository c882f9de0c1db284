-- The names of processes and groups that a command is given, as they are sent and as they are
-- printed.
use Rattle.std.specs.Prelude.{◌∷◌, ◌++◌, ℕ, List, [], Bool, true, false, Option, Some, None, codes}
use Rattle.std.specs.Prelude.{if◌then◌else◌}
use Rattle.std.specs.Str.{bytes_eq}
use Rattle.sv_base.specs.Ascii.{colon}
use Rattle.sv_base.specs.SplitName.{split_of}

-- the text of a process of a group: its own name alone where the group has the same
abbrev pub printed : List ℕ → List ℕ → List ℕ
printed group name = if bytes_eq group name then name else group ++ colon ∷ name

-- what a name prints: a whole group is its name
abbrev pub printed_by : List ℕ → Option (List ℕ) → List ℕ
printed_by group None = group
printed_by group (Some name) = printed group name

-- the text of a name as a command gives it
abbrev pub printed_name : List ℕ → List ℕ
printed_name given = printed_by (split_of given).0 (split_of given).1

-- no process is named, but the whole group
abbrev pub is_none : Option (List ℕ) → Bool
is_none None = true
is_none (Some name) = false

-- the name is that of a whole group, `g:*` or `g:`
abbrev pub is_group : List ℕ → Bool
is_group given = is_none (split_of given).1

-- a name as it is sent: `g:` as `g:*`, every other as it stands
abbrev pub sent_name : List ℕ → List ℕ
sent_name given = if is_group given then (split_of given).0 ++ codes ":*" else given
