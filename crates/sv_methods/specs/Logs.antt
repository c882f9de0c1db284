-- Reading and clearing logs.
use Rattle.std.specs.Prelude.{ℕ, ℤ, pos, ◌+◌, List, [], ◌∷◌, ◌++◌, Bool, true, false, Option, Some}
use Rattle.std.specs.Prelude.{None, min}
use Rattle.std.specs.List.{slice_get}
use Rattle.sv_base.specs.declared.ids.ChildId.{ChildId}
use Rattle.sv_base.specs.declared.spec.GroupSpec.{GroupSpec}
use Rattle.sv_base.specs.declared.spec.LogSpec.{LogSpec}
use Rattle.sv_base.specs.declared.spec.Spec.{Spec}
use Rattle.sv_groups.specs.Lookup.{found}
use Rattle.sv_groups.specs.StartOrder.{pairs_of, start_order}
use Rattle.sv_groups.specs.declared.lookup.Found.{Found}
use Rattle.sv_groups.specs.declared.lookup.Found.TheVariants.{One, Group, Nothing}
use Rattle.sv_info.specs.declared.fault.Fault.TheVariants.{BadArguments, BadName, NoFile}
use Rattle.sv_logs.specs.Spans.{has_missed, read_part, tail_part}
use Rattle.sv_logs.specs.declared.spans.Span.{Span}
use Rattle.sv_methods.specs.Outcomes.{Outcome, Gives, Does, Reads, refuses}
use Rattle.sv_methods.specs.Processes.{size_of}
use Rattle.sv_methods.specs.declared.method.LogMethod.{LogMethod}
use Rattle.sv_methods.specs.declared.method.LogMethod.TheVariants.{ReadStderr, ReadStdout}
use Rattle.sv_methods.specs.declared.method.LogMethod.TheVariants.{TailStderr, TailStdout}
use Rattle.sv_methods.specs.declared.planned.Aim.TheVariants.{Cleared}
use Rattle.sv_methods.specs.declared.planned.Asked.{Asked}
use Rattle.sv_methods.specs.declared.planned.ReadShape.TheVariants.{Plain, Tail}
use Rattle.sv_methods.specs.declared.planned.Request.{Request}
use Rattle.sv_methods.specs.declared.planned.Request.TheVariants.{Clear}
use Rattle.sv_methods.specs.Scenes.{Scene}
use Rattle.sv_xmlcall.specs.Trees.{integer, truth, text, array, trees_of}

-- a read of this part of a file; without a part the arguments were bad
abbrev pub reads_part : List ℕ → Option Span → Outcome
reads_part file None = refuses BadArguments None
reads_part file (Some span) = Reads file span Plain

-- a part of a log from an offset on; `name` is what the call named, if it named something
abbrev pub reads : Scene → Option (List ℕ) → Option (List ℕ) → ℤ → ℤ → Outcome
reads scene name None offset length = refuses NoFile name
reads scene name (Some file) offset length =
    reads_part file (read_part (size_of file scene.sizes) offset length)

-- the end of a log
abbrev pub tails : Scene → Option (List ℕ) → ℤ → ℤ → Outcome
tails scene None offset length =
    Gives (array (trees_of (text [] ∷ integer (pos 0) ∷ truth false ∷ [])))
tails scene (Some file) offset length =
    Reads file (tail_part (size_of file scene.sizes) offset length)
    (Tail (size_of file scene.sizes) (has_missed (size_of file scene.sizes) offset length))

-- what a method gives of the logs of a process
abbrev pub log_of : LogMethod → Scene → List ℕ → Spec → ℤ → ℤ → Outcome
log_of ReadStderr scene name spec offset length =
    reads scene (Some name) spec.stderr.file offset length
log_of ReadStdout scene name spec offset length =
    reads scene (Some name) spec.stdout.file offset length
log_of TailStderr scene name spec offset length = tails scene spec.stderr.file offset length
log_of TailStdout scene name spec offset length = tails scene spec.stdout.file offset length

-- the process that a name finds, if it finds one and no group
abbrev pub spec_found : List GroupSpec → Found → Option (GroupSpec × Spec)
spec_found groups (One id) = slice_get (pairs_of groups) id.0
spec_found groups found = None

-- the same by the name
abbrev pub process_named : List ℕ → List GroupSpec → Option (GroupSpec × Spec)
process_named name groups = spec_found groups (found name groups)

-- what a method gives of the logs of the process that was found, if one was
abbrev pub log_of_found : LogMethod → Scene → List ℕ → ℤ → ℤ → Option (GroupSpec × Spec) → Outcome
log_of_found method scene name offset length None = refuses BadName (Some name)
log_of_found method scene name offset length (Some process) =
    log_of method scene name process.1 offset length

-- the logs of a name
abbrev pub log_row : LogMethod → Scene → List ℕ → ℤ → ℤ → Outcome
log_row method scene name offset length =
    log_of_found method scene name offset length (process_named name scene.roster)

-- the main log
abbrev pub reads_main : Scene → ℤ → ℤ → Outcome
reads_main scene offset length = reads scene None scene.config.main.file offset length

-- requests that clear logs; nothing is waited for but that they are carried out
abbrev pub clears : List Request → Bool → Option (List ℕ) → List Asked → Outcome
clears requests is_array name rows =
    Does requests (record { wait = false; array = is_array; name = name; rows = rows })

-- a row of what is cleared: the logs of a process, or the main log where there is none
abbrev pub cleared : Option ChildId → Asked
cleared child = record { child = child; aim = Cleared; fault = None }

-- the main log is cleared
abbrev pub clears_main : Option (List ℕ) → Outcome
clears_main None = refuses NoFile None
clears_main (Some file) = clears (Clear (file ∷ []) ∷ []) false None (cleared None ∷ [])

-- a log's file, where it has one
abbrev pub file_of : Option (List ℕ) → List (List ℕ)
file_of None = []
file_of (Some file) = file ∷ []

-- the logs of a process, stdout's before stderr's
abbrev pub logs_of : Spec → List (List ℕ)
logs_of spec = file_of spec.stdout.file ++ file_of spec.stderr.file

-- the logs of a process are cleared
abbrev pub clear_request : Spec → Request
clear_request spec = Clear (logs_of spec)

-- the logs of the process of this place are cleared
abbrev pub clears_process : List ℕ → ChildId → Option (GroupSpec × Spec) → Outcome
clears_process name id None = refuses BadName (Some name)
clears_process name id (Some process) =
    clears (clear_request process.1 ∷ []) false (Some name) (cleared (Some id) ∷ [])

-- the same for what was found for a name
abbrev pub clears_found : List GroupSpec → List ℕ → Found → Outcome
clears_found groups name (One id) = clears_process name id (slice_get (pairs_of groups) id.0)
clears_found groups name found = refuses BadName (Some name)

-- the logs of a name are cleared
abbrev pub clears_named : Scene → List ℕ → Outcome
clears_named scene name = clears_found scene.roster name (found name scene.roster)
