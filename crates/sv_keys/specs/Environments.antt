-- The environment of a process (the manual's chapter on subprocesses).
use Rattle.std.specs.Prelude.{ℕ, List, [], ◌∷◌, ◌++◌, ◌||◌, Option, Some, None, codes}
use Rattle.std.specs.Prelude.{if◌then◌else◌}
use Rattle.std.specs.List.{fold}
use Rattle.std.specs.Ordering.{nat_cmp}
use Rattle.std.specs.Cmp.Lexicographic.{slice_cmp}
use Rattle.std.specs.BTreeMap.{insert_entry}
use Rattle.std.specs.Str.{bytes_eq, str_to_ascii_lowercase}
use Rattle.sv_keys.specs.Cuts.{is_empty}

-- a map's entries, ordered by name, with one more: a later one replaces an earlier one of its name
abbrev pub with_variable : List (List ℕ × List ℕ) → List ℕ × List ℕ → List (List ℕ × List ℕ)
with_variable variables variable =
    insert_entry (slice_cmp nat_cmp) variables variable.0 variable.1

-- each of these variables put into it in turn
abbrev pub with_variables : List (List ℕ × List ℕ) → List (List ℕ × List ℕ) → List (List ℕ × List ℕ)
with_variables = fold with_variable

-- the program's own address, where it is set and isn't AUTO, or else that of the daemon's server
abbrev pub server_url : List ℕ → Option (List ℕ) → Option (List ℕ)
server_url own server =
    if is_empty own || bytes_eq (str_to_ascii_lowercase own) (codes "auto") then server
    else Some own

-- the address of the server, where there is one
abbrev pub url_variable : Option (List ℕ) → List (List ℕ × List ℕ)
url_variable None = []
url_variable (Some url) = (codes "SUPERVISOR_SERVER_URL", url) ∷ []

-- what each process gets
unfoldable pub own_variables : List ℕ → List ℕ → Option (List ℕ) → List (List ℕ × List ℕ)
own_variables group name url =
    (codes "SUPERVISOR_ENABLED", codes "1")
    ∷ (codes "SUPERVISOR_PROCESS_NAME", name)
    ∷ (codes "SUPERVISOR_GROUP_NAME", group)
    ∷ url_variable url

-- sorted by name: what each process gets, then the daemon's pairs, then the program's
unfoldable pub environment_of : List ℕ → List ℕ → Option (List ℕ) → List (List ℕ × List ℕ)
    → List (List ℕ × List ℕ) → List (List ℕ × List ℕ)
environment_of group name url daemon own =
    with_variables [] (own_variables group name url ++ daemon ++ own)
