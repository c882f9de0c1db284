-- What is said of a process (the manual's chapter on its XML-RPC interface, `getProcessInfo`), and
-- in a row of a status array.
use Rattle.std.specs.Prelude.{ℕ, ◌/◌, ℤ, pos, List, [], ◌∷◌, ◌++◌, Option, Some, None, codes}
use Rattle.std.specs.Fmt.{decimal}
use Rattle.sv_base.specs.Names.{state_name, state_number}
use Rattle.sv_base.specs.declared.spec.LogSpec.{LogSpec}
use Rattle.sv_base.specs.declared.spec.Spec.{Spec}
use Rattle.sv_base.specs.declared.state.State.{State}
use Rattle.sv_base.specs.declared.state.State.TheVariants.{Stopped, Running, Backoff, Exited, Fatal}
use Rattle.sv_child.specs.declared.child.Child.{Child}
use Rattle.sv_info.specs.Faults.{fault_number, fault_text}
use Rattle.sv_info.specs.Times.{moment_text, seconds_since, uptime_text}
use Rattle.sv_info.specs.declared.fault.Fault.{Fault}
use Rattle.sv_xmlcall.specs.Trees.{Tree, integer, text, structure, members_of}

-- why a process isn't up
abbrev pub cause_text : List ℕ → List ℕ → List ℕ
cause_text name [] = codes "unknown error (try \"tail " ++ name ++ codes "\")"
cause_text name (byte ∷ bytes) = byte ∷ bytes

-- when it stopped
abbrev pub stop_text : Option ℕ → List ℕ
stop_text None = codes "Not started"
stop_text (Some moment) = moment_text moment

-- its process, and how long it is up
abbrev pub up_text : ℕ → ℕ → List ℕ
up_text pid seconds = codes "pid " ++ decimal pid ++ codes ", uptime " ++ uptime_text seconds

-- the same, by a state
abbrev pub described : State → List ℕ → Child → ℕ → List ℕ
described Running name child now = up_text child.pid (seconds_since child.start now)
described Fatal name child now = cause_text name child.fault
described Backoff name child now = cause_text name child.fault
described Stopped name child now = stop_text child.stop
described Exited name child now = stop_text child.stop
described state name child now = []

-- what is said of a child of this name, by its state
abbrev pub description : List ℕ → Child → ℕ → List ℕ
description name child now = described child.state name child now

-- whole seconds of a moment, 0 where there is none
abbrev pub seconds_of : Option ℕ → ℤ
seconds_of None = pos 0
seconds_of (Some moment) = pos (moment / 1000)

-- the name of a log, empty where there is none
abbrev pub log_name : LogSpec → List ℕ
log_name log = log_name_of log.file
  where
    log_name_of : Option (List ℕ) → List ℕ
    log_name_of None = []
    log_name_of (Some name) = name

-- who it is
abbrev pub names_part : List ℕ → Spec → Child → ℕ → List (List ℕ × Tree)
names_part group spec child now =
    (codes "name", text spec.name) ∷ (codes "group", text group)
    ∷ (codes "description", text (description spec.name child now)) ∷ []

-- when it started and stopped
abbrev pub times_part : Child → ℕ → List (List ℕ × Tree)
times_part child now =
    (codes "start", integer (seconds_of child.start))
    ∷ (codes "stop", integer (seconds_of child.stop))
    ∷ (codes "now", integer (pos (now / 1000))) ∷ []

-- its state
abbrev pub state_names : Child → List (List ℕ × Tree)
state_names child =
    (codes "state", integer (pos (state_number child.state)))
    ∷ (codes "statename", text (state_name child.state)) ∷ []

-- how its last start and its last process ended
abbrev pub ends_part : Child → List (List ℕ × Tree)
ends_part child =
    (codes "spawnerr", text child.fault) ∷ (codes "exitstatus", integer child.exit) ∷ []

-- how it is
abbrev pub state_part : Child → List (List ℕ × Tree)
state_part child = state_names child ++ ends_part child

-- where its logs are
abbrev pub log_names : Spec → List (List ℕ × Tree)
log_names spec =
    (codes "logfile", text (log_name spec.stdout))
    ∷ (codes "stdout_logfile", text (log_name spec.stdout))
    ∷ (codes "stderr_logfile", text (log_name spec.stderr)) ∷ []

-- where its logs are, and its process
abbrev pub logs_part : Spec → Child → List (List ℕ × Tree)
logs_part spec child = log_names spec ++ (codes "pid", integer (pos child.pid)) ∷ []

-- the members of what is said of a process, in their order
abbrev pub info_members : List ℕ → Spec → Child → ℕ → List (List ℕ × Tree)
info_members group spec child now =
    names_part group spec child now
    ++ times_part child now ++ state_part child ++ logs_part spec child

-- what is said of the process of a group
abbrev pub info : List ℕ → Spec → Child → ℕ → Tree
info group spec child now = structure (members_of (info_members group spec child now))

-- the name of a process with its group's
abbrev pub full_name : List ℕ → List ℕ → List ℕ
full_name group name = group ++ codes ":" ++ name

-- the number of what came of a call: 80 where it succeeded
abbrev pub outcome_number : Option Fault → ℕ
outcome_number None = 80
outcome_number (Some fault) = fault_number fault

-- the text of what came of a call
abbrev pub outcome_text : Option Fault → List ℕ → List ℕ
outcome_text None subject = codes "OK"
outcome_text (Some fault) subject = fault_text fault (Some subject)

-- a row of a status array: what came of a call for a process
abbrev pub status : List ℕ → List ℕ → Option Fault → Tree
status group name outcome =
    structure (members_of (
    (codes "name", text name) ∷ (codes "group", text group)
    ∷ (codes "status", integer (pos (outcome_number outcome)))
    ∷ (codes "description", text (outcome_text outcome (full_name group name))) ∷ []))
