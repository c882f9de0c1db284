-- What the answer of a call prints, and the status that it asks for. An answer that isn't of the
-- method's kind has none.
use Rattle.std.specs.Prelude.{◌∷◌, ◌++◌, ℕ, ℤ, pos, List, [], Bool, true, false, Option, Some, None}
use Rattle.std.specs.Prelude.{codes, if◌then◌else◌}
use Rattle.std.specs.Fmt.{signed_decimal}
use Rattle.std.specs.List.{flat_map, list_all}
use Rattle.std.specs.Option.{option_map}
use Rattle.std.specs.Ordering.{int_eq}
use Rattle.sv_base.specs.Ascii.{line_feed}
use Rattle.sv_commands.specs.Errors.{error_line}
use Rattle.sv_commands.specs.Members.{as_integer, integer_in, text_in}
use Rattle.sv_commands.specs.Subjects.{printed, printed_name, is_group}
use Rattle.sv_commands.specs.Tables.{table_of}
use Rattle.sv_commands.specs.declared.act.Act.{Act}
use Rattle.sv_commands.specs.declared.act.Act.TheVariants.{Start, Stop, Signal, Clear}
use Rattle.sv_commands.specs.declared.rows.Row.{Row}
use Rattle.sv_commands.specs.declared.shown.Shown.{Shown}
use Rattle.sv_commands.specs.declared.status.Status.{Status}
use Rattle.sv_commands.specs.declared.status.Status.TheVariants as outcome
use Rattle.sv_commands.specs.declared.step.Line.{Line}
use Rattle.sv_commands.specs.declared.step.Show.{Show}
use Rattle.sv_commands.specs.declared.step.Show.TheVariants.{Done, Rows, Table, Log, Version}
use Rattle.sv_commands.specs.declared.step.Show.TheVariants.{Number, Pid, ShutDown}
use Rattle.sv_xmlcall.specs.Trees.{Tree, Trees, Members, Reply, Returns, Faults, integer, truth}
use Rattle.sv_xmlcall.specs.Trees.{text, structure, array, no_tree, tree}

-- what was done
abbrev pub done_word : Act → List ℕ
done_word Start = codes "started"
done_word Stop = codes "stopped"
done_word Signal = codes "signalled"
done_word Clear = codes "cleared"

-- the line of what was done to a process
abbrev pub done_line : Act → List ℕ → List ℕ
done_line act name = name ++ codes ": " ++ done_word act ++ line_feed ∷ []

-- the words of the faults that have some, by number; a group, and a start, have words of their own
abbrev pub known_words : Bool → Bool → ℤ → Option (List ℕ)
known_words start group number =
    if int_eq number (pos 6) then Some (codes "shutting down")
    else if int_eq number (pos 10)
    then Some (if group then codes "no such group" else codes "no such process")
    else if int_eq number (pos 11) then Some (codes "bad signal name")
    else if int_eq number (pos 20)
    then Some (if start then codes "no such file" else codes "no log file")
    else if int_eq number (pos 21) then Some (codes "file is not executable")
    else if int_eq number (pos 40) then Some (codes "abnormal termination")
    else if int_eq number (pos 50) then Some (codes "spawn error")
    else if int_eq number (pos 60) then Some (codes "already started")
    else if int_eq number (pos 70) then Some (codes "not running")
    else None

-- the words of a fault that has none of its own are its number
abbrev pub words_or_number : Option (List ℕ) → ℤ → List ℕ
words_or_number None number = codes "fault " ++ signed_decimal number
words_or_number (Some words) number = words

-- the words of a fault
abbrev pub fault_words : Bool → Bool → ℤ → List ℕ
fault_words start group number = words_or_number (known_words start group number) number

-- what is shown is to start processes
abbrev pub is_start : Act → Bool
is_start Start = true
is_start act = false

-- what is shown is to start
abbrev pub starts : Show → Bool
starts (Done act) = is_start act
starts (Rows act) = is_start act
starts show = false

-- the name is that of a group
abbrev pub names_group : Option (List ℕ) → Bool
names_group None = false
names_group (Some name) = is_group name

-- the status of an answer, where faults count and where not
abbrev pub status_if : Bool → Status
status_if true = outcome.Faulted
status_if false = outcome.Done

-- what a fault prints
abbrev pub fault_shown : Line → ℤ → Shown
fault_shown line number = record {
  text =
      error_line (option_map printed_name line.name)
      (fault_words (starts line.show) (names_group line.name) number);
  status = status_if line.counts;
}

-- a text, with the status of a success
abbrev pub shown_of : List ℕ → Shown
shown_of printed_text = record { text = printed_text; status = outcome.Done }

-- `true`, which prints this
abbrev pub if_true : List ℕ → Tree → Option Shown
if_true line (truth true) = Some (shown_of line)
if_true line value = None

-- a row, of its three members
abbrev pub row_by : Option (List ℕ) → Option (List ℕ) → Option ℤ → Option Row
row_by (Some group) (Some name) (Some status) =
    Some (record { group = group; name = name; status = status })
row_by group name status = None

-- a row, of the members of a struct
abbrev pub row_in : Members → Option Row
row_in members =
    row_by (text_in (codes "group") members) (text_in (codes "name") members)
    (integer_in (codes "status") members)

-- a row, where the value is one
abbrev pub row_of : Tree → Option Row
row_of (structure members) = row_in members
row_of value = None

-- one more, where all are some
abbrev pub with_one : {A : Type 0} → Option A → Option (List A) → Option (List A)
with_one None all = None
with_one (Some one) all = option_map (λ more. one ∷ more) all

-- the rows of values, in order; none where one of them isn't a row
abbrev pub rows_in : Trees → Option (List Row)
rows_in no_tree = Some []
rows_in (tree value values) = with_one (row_of value) (rows_in values)

-- the row says that it was done
abbrev pub is_done : ℤ → Bool
is_done status = int_eq status (pos 80)

-- the line of a row
abbrev pub row_line : Act → Row → List ℕ
row_line act row =
    if is_done row.status then done_line act (printed row.group row.name)
    else error_line (Some (printed row.group row.name))
    (fault_words (is_start act) false row.status)

-- all rows say that it was done
abbrev pub are_done : List Row → Bool
are_done rows = list_all (λ (row : Row). is_done row.status) rows

-- the lines of rows, and the status of those that aren't done
abbrev pub rows_shown : Act → Bool → List Row → Shown
rows_shown act counts rows = record {
  text = flat_map (row_line act) rows;
  status = if are_done rows then outcome.Done else status_if counts;
}

-- a status array
abbrev pub array_shown : Act → Bool → Tree → Option Shown
array_shown act counts (array values) = option_map (rows_shown act counts) (rows_in values)
array_shown act counts value = None

-- a text, as it stands or with a line feed
abbrev pub text_shown : List ℕ → Tree → Option Shown
text_shown behind (text content) = Some (shown_of (content ++ behind))
text_shown behind value = None

-- a number, on a line
abbrev pub number_shown : Option ℤ → Option Shown
number_shown number = option_map (λ n. shown_of (signed_decimal n ++ line_feed ∷ [])) number

-- the process number of a process
abbrev pub pid_in : Tree → Option ℤ
pid_in (structure members) = integer_in (codes "pid") members
pid_in value = None

-- the name as it is printed, where there is one
abbrev pub name_or_none : Option (List ℕ) → List ℕ
name_or_none None = []
name_or_none (Some name) = printed_name name

-- what a value prints
abbrev pub value_shown : Line → Show → Tree → Option Shown
value_shown line (Done act) value = if_true (done_line act (name_or_none line.name)) value
value_shown line (Rows act) value = array_shown act line.counts value
value_shown line (Table names) value = table_of names value
value_shown line Log value = text_shown [] value
value_shown line Version value = text_shown (line_feed ∷ []) value
value_shown line Number value = number_shown (as_integer (Some value))
value_shown line Pid value = number_shown (pid_in value)
value_shown line ShutDown value = if_true (codes "Shut down\n") value

-- what an answer prints
abbrev pub reply_shown : Line → Reply → Option Shown
reply_shown line (Returns value) = value_shown line line.show value
reply_shown line (Faults number content) = Some (fault_shown line number)
