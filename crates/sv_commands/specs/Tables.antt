-- The table of processes that `status` prints.
use Rattle.std.specs.Prelude.{◌==◌, ◌+◌, ◌-◌, ◌&&◌, ◌∷◌, ◌++◌, ℕ, List, [], Bool, true, false, not}
use Rattle.std.specs.Prelude.{max, Option, Some, None, codes, length, map, filter, if◌then◌else◌}
use Rattle.std.specs.List.{count_by, flat_map, list_all, list_any, repeat}
use Rattle.std.specs.Option.{option_map}
use Rattle.std.specs.Str.{bytes_eq}
use Rattle.sv_base.specs.Ascii.{line_feed, space}
use Rattle.sv_base.specs.SplitName.{split_of}
use Rattle.sv_out.specs.Patterns.{is_further}
use Rattle.sv_commands.specs.Errors.{error_line}
use Rattle.sv_commands.specs.Members.{text_in}
use Rattle.sv_commands.specs.Subjects.{printed, printed_name, is_group}
use Rattle.sv_commands.specs.declared.shown.Shown.{Shown}
use Rattle.sv_commands.specs.declared.status.Status.{Status}
use Rattle.sv_commands.specs.declared.status.Status.TheVariants.{Done, NotRunning, NotFound}
use Rattle.sv_commands.specs.declared.tables.Process.{Process}
use Rattle.sv_xmlcall.specs.Trees.{Tree, Trees, Members, structure, array, no_tree, tree}

-- a process, of its four members
abbrev pub process_by : Option (List ℕ) → Option (List ℕ) → Option (List ℕ) → Option (List ℕ)
    → Option Process
process_by (Some group) (Some name) (Some state) (Some description) =
    Some (record { group = group; name = name; state = state; description = description })
process_by group name state description = None

-- a process, of the members of a struct
abbrev pub process_in : Members → Option Process
process_in members =
    process_by (text_in (codes "group") members) (text_in (codes "name") members)
    (text_in (codes "statename") members) (text_in (codes "description") members)

-- a process, where the value is one
abbrev pub process_of : Tree → Option Process
process_of (structure members) = process_in members
process_of value = None

-- one more, where all are some
abbrev pub with_process : Option Process → Option (List Process) → Option (List Process)
with_process None all = None
with_process (Some one) all = option_map (λ more. one ∷ more) all

-- the processes of values, in order; none where one of them isn't a process
abbrev pub processes_in : Trees → Option (List Process)
processes_in no_tree = Some []
processes_in (tree value values) = with_process (process_of value) (processes_in values)

-- the text of a process's name
abbrev pub title : Process → List ℕ
title process = printed process.group process.name

-- the process is of this group, and has this name where one is told
abbrev pub is_named : List ℕ → Option (List ℕ) → Process → Bool
is_named group None process = bytes_eq process.group group
is_named group (Some name) process = bytes_eq process.group group && bytes_eq process.name name

-- the processes that a name finds
unfoldable pub found : List Process → List ℕ → List Process
found processes name = filter (is_named (split_of name).0 (split_of name).1) processes

-- the processes that are listed: all where there are no names
abbrev pub listed : List (List ℕ) → List Process → List Process
listed names processes = if length names == 0 then processes else flat_map (found processes) names

-- how many characters a text has
abbrev pub width : List ℕ → ℕ
width text = count_by (λ byte. not (is_further byte)) text

-- the width of the longest name, and 30 at least
abbrev pub longest : ℕ → List Process → ℕ
longest most [] = most
longest most (process ∷ processes) = longest (max most (width (title process))) processes

-- a text with spaces after it, to so many characters
abbrev pub padded : ℕ → List ℕ → List ℕ
padded size text = text ++ repeat (size - width text) (space ∷ [])

-- the line of a process
abbrev pub process_line : ℕ → Process → List ℕ
process_line size process =
    padded (size + 3) (title process) ++ padded 10 process.state ++ process.description
    ++ line_feed ∷ []

-- the line of a name that finds none
abbrev pub missing_line : List ℕ → List ℕ
missing_line name =
    error_line (Some (printed_name name))
    (if is_group name then codes "no such group" else codes "no such process")

-- the lines of what a name finds, or that it finds nothing
abbrev pub lines_or_missing : ℕ → List ℕ → List Process → List ℕ
lines_or_missing size name found =
    if length found == 0 then missing_line name else flat_map (process_line size) found

-- the lines of a name
unfoldable pub lines_of : ℕ → List Process → List ℕ → List ℕ
lines_of size processes name = lines_or_missing size name (found processes name)

-- the lines of a table with these names
abbrev pub table_lines : ℕ → List (List ℕ) → List Process → List ℕ
table_lines size names processes =
    if length names == 0 then flat_map (process_line size) processes
    else flat_map (lines_of size processes) names

-- the name finds none
abbrev pub finds_none : List Process → List ℕ → Bool
finds_none processes name = length (found processes name) == 0

-- the process runs
abbrev pub is_running : Process → Bool
is_running process = bytes_eq process.state (codes "RUNNING")

-- all processes run
abbrev pub are_running : List Process → Bool
are_running processes = list_all is_running processes

-- a name finds none, or else a listed process doesn't run
abbrev pub table_status : List (List ℕ) → List Process → Status
table_status names processes =
    if list_any (finds_none processes) names then NotFound
    else if are_running (listed names processes) then Done else NotRunning

-- what the table of these processes prints
abbrev pub table_shown : List (List ℕ) → List Process → Shown
table_shown names processes = record {
  text = table_lines (longest 30 (listed names processes)) names processes;
  status = table_status names processes;
}

-- what the processes of a value print; a value of another shape prints none
abbrev pub table_of : List (List ℕ) → Tree → Option Shown
table_of names (array values) = option_map (table_shown names) (processes_in values)
table_of names value = None
