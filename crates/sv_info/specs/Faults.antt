-- The faults of the manual's chapter on its XML-RPC interface.
use Rattle.std.specs.Prelude.{ℕ, List, [], ◌∷◌, ◌++◌, Bool, true, false, Option, Some, None, codes}
use Rattle.std.specs.Prelude.{◌==◌, find, unwrap_or, if◌then◌else◌}
use Rattle.sv_info.specs.declared.fault.Fault.{Fault}
use Rattle.sv_info.specs.declared.fault.Fault.TheVariants.{UnknownMethod, IncorrectParameters}
use Rattle.sv_info.specs.declared.fault.Fault.TheVariants.{BadArguments, SignatureUnsupported}
use Rattle.sv_info.specs.declared.fault.Fault.TheVariants.{ShutdownState, BadName, BadSignal}
use Rattle.sv_info.specs.declared.fault.Fault.TheVariants.{NoFile, NotExecutable, Failed}
use Rattle.sv_info.specs.declared.fault.Fault.TheVariants.{AbnormalTermination, SpawnError}
use Rattle.sv_info.specs.declared.fault.Fault.TheVariants.{AlreadyStarted, NotRunning}

-- the number of a fault
abbrev pub fault_number : Fault → ℕ
fault_number UnknownMethod = 1
fault_number IncorrectParameters = 2
fault_number BadArguments = 3
fault_number SignatureUnsupported = 4
fault_number ShutdownState = 6
fault_number BadName = 10
fault_number BadSignal = 11
fault_number NoFile = 20
fault_number NotExecutable = 21
fault_number Failed = 30
fault_number AbnormalTermination = 40
fault_number SpawnError = 50
fault_number AlreadyStarted = 60
fault_number NotRunning = 70

-- the name of a fault
abbrev pub fault_name : Fault → List ℕ
fault_name UnknownMethod = codes "UNKNOWN_METHOD"
fault_name IncorrectParameters = codes "INCORRECT_PARAMETERS"
fault_name BadArguments = codes "BAD_ARGUMENTS"
fault_name SignatureUnsupported = codes "SIGNATURE_UNSUPPORTED"
fault_name ShutdownState = codes "SHUTDOWN_STATE"
fault_name BadName = codes "BAD_NAME"
fault_name BadSignal = codes "BAD_SIGNAL"
fault_name NoFile = codes "NO_FILE"
fault_name NotExecutable = codes "NOT_EXECUTABLE"
fault_name Failed = codes "FAILED"
fault_name AbnormalTermination = codes "ABNORMAL_TERMINATION"
fault_name SpawnError = codes "SPAWN_ERROR"
fault_name AlreadyStarted = codes "ALREADY_STARTED"
fault_name NotRunning = codes "NOT_RUNNING"

-- the faults whose text names what the call named
abbrev pub names_subject : Fault → Bool
names_subject BadName = true
names_subject BadSignal = true
names_subject NoFile = true
names_subject NotExecutable = true
names_subject AbnormalTermination = true
names_subject SpawnError = true
names_subject AlreadyStarted = true
names_subject NotRunning = true
names_subject fault = false

-- the text of a fault: its name, and what the call named, where there is that
abbrev pub fault_text : Fault → Option (List ℕ) → List ℕ
fault_text fault None = fault_name fault
fault_text fault (Some subject) =
    if names_subject fault then fault_name fault ++ codes ": " ++ subject else fault_name fault

-- all faults, in rising order of their numbers
abbrev pub all_faults : List Fault
all_faults =
    UnknownMethod ∷ IncorrectParameters ∷ BadArguments ∷ SignatureUnsupported ∷ ShutdownState
    ∷ BadName ∷ BadSignal ∷ NoFile ∷ NotExecutable ∷ Failed ∷ AbnormalTermination ∷ SpawnError
    ∷ AlreadyStarted ∷ NotRunning ∷ []

-- the fault of a number; a number that is none counts as FAILED
abbrev pub fault_of : ℕ → Fault
fault_of number = unwrap_or (find (λ fault. fault_number fault == number) all_faults) Failed
