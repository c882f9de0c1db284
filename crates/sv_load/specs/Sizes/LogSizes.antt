-- The sizes that the log files of a configuration have on a shelf.
use Rattle.std.specs.Prelude.{◌≡◌, ◌||◌, ◌⊎◌, ◌∷◌, ℕ, List, [], Bool, false, Option, None, Some}
use Rattle.std.specs.Prelude.{Result, Ok, Err, map}
use Rattle.std.specs.List.{list_any}
use Rattle.std.specs.Str.{bytes_eq}
use Rattle.sv_base.specs.declared.config.Config.{Config}
use Rattle.sv_base.specs.declared.spec.GroupSpec.{GroupSpec}
use Rattle.sv_base.specs.declared.spec.Spec.{Spec}
use Rattle.sv_logs.specs.Opening.{opening_sizes}
use Rattle.sv_logs.specs.Sizes.{Sizes}
use Rattle.sv_out.specs.Files.{Files, size_of}
use Rattle.sv_load.specs.declared.sizes.fault.SizesFault.{SizesFault}
use Rattle.sv_load.specs.declared.sizes.fault.SizesFault.TheVariants.{Failed, OutOfMemory}

-- this is the name of the file, if there is one
abbrev pub is_name_of : List ℕ → Option (List ℕ) → Bool
is_name_of name None = false
is_name_of name (Some file) = bytes_eq file name

-- a process logs to the file of this name
abbrev pub logs_to : List ℕ → Spec → Bool
logs_to name spec = is_name_of name spec.stdout.file || is_name_of name spec.stderr.file

-- a process of the group does
abbrev pub group_logs_to : List ℕ → GroupSpec → Bool
group_logs_to name group = list_any (logs_to name) group.members

-- this names the main log, or a log of one of the processes
abbrev pub is_log_file : Config → List ℕ → Bool
is_log_file config name =
    list_any (group_logs_to name) config.groups || is_name_of name config.main.file

-- the name of a file whose size is known
abbrev pub name_of : List ℕ × ℕ → List ℕ
name_of known = known.0

-- this is one of these names
abbrev pub is_one_of : List ℕ → List (List ℕ) → Bool
is_one_of name names = list_any (λ other. bytes_eq other name) names

-- the log files that a configuration names, by rising names, each once
abbrev pub log_files : Config → List (List ℕ)
log_files config = map name_of (opening_sizes config [])

-- the size of what a file holds; 0 where it is missing
abbrev pub size_held : Option (List ℕ) → ℕ
size_held None = 0
size_held (Some bytes) = size_of bytes

-- the size of a file
abbrev pub size_on : Files → List ℕ → ℕ
size_on files name = size_held (files name)

-- a file with its size
abbrev pub with_size : Files → List ℕ → List ℕ × ℕ
with_size files name = (name, size_on files name)

-- the sizes of these files
abbrev pub sizes_on : Files → List (List ℕ) → Sizes
sizes_on files names = map (with_size files) names

-- the shelf failed
abbrev pub IsUnsized : {A : Type 0} → Result A SizesFault → Type 0
IsUnsized (Ok value) = ⊥
IsUnsized (Err (Failed name)) = Unit {0}
IsUnsized (Err OutOfMemory) = ⊥

-- one of these has this name
abbrev pub IsOneOf : List (List ℕ) → List ℕ → Type 0
IsOneOf [] name = ⊥
IsOneOf (other ∷ names) name = (name ≡ other) ⊎ IsOneOf names name

-- the call for this file failed, or memory was refused
abbrev pub FailsAt : List ℕ → SizesFault → Type 0
FailsAt name (Failed other) = other ≡ name
FailsAt name OutOfMemory = Unit {0}

-- the call for one of these files failed, or memory was refused
abbrev pub FailsAtOneOf : List (List ℕ) → SizesFault → Type 0
FailsAtOneOf names (Failed name) = IsOneOf names name
FailsAtOneOf names OutOfMemory = Unit {0}
