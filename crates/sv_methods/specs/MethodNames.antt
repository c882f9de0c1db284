-- The methods of the manual's chapter on its XML-RPC interface: how each is spelled, what it is
-- answered, what it takes.
use Rattle.std.specs.Prelude.{ℕ, List, [], ◌∷◌, Bool, true, false, ◌&&◌, Option, codes, find}
use Rattle.std.specs.Cmp.Lexicographic.{slice_cmp}
use Rattle.std.specs.Ordering.{is_lt, nat_cmp}
use Rattle.std.specs.Str.{bytes_eq}
use Rattle.sv_methods.specs.declared.method.LogMethod.{LogMethod}
use Rattle.sv_methods.specs.declared.method.LogMethod.TheVariants.{ReadStderr, ReadStdout}
use Rattle.sv_methods.specs.declared.method.LogMethod.TheVariants.{TailStderr, TailStdout}
use Rattle.sv_methods.specs.declared.method.Method.{Method}
use Rattle.sv_methods.specs.declared.method.Method.TheVariants.{Plain, OfText, OfWait}
use Rattle.sv_methods.specs.declared.method.Method.TheVariants.{OfTextAndWait, OfTexts, ReadLog}
use Rattle.sv_methods.specs.declared.method.Method.TheVariants.{OfLog, Multicall}
use Rattle.sv_methods.specs.declared.method.PlainMethod.{PlainMethod}
use Rattle.sv_methods.specs.declared.method.PlainMethod.TheVariants.{ClearAllProcessLogs, ClearLog}
use Rattle.sv_methods.specs.declared.method.PlainMethod.TheVariants.{GetApiVersion}
use Rattle.sv_methods.specs.declared.method.PlainMethod.TheVariants.{GetAllProcessInfo}
use Rattle.sv_methods.specs.declared.method.PlainMethod.TheVariants.{GetIdentification, GetPid}
use Rattle.sv_methods.specs.declared.method.PlainMethod.TheVariants.{GetState, GetSupervisorVersion}
use Rattle.sv_methods.specs.declared.method.PlainMethod.TheVariants.{ListMethods, Shutdown}
use Rattle.sv_methods.specs.declared.method.TextMethod.{TextMethod}
use Rattle.sv_methods.specs.declared.method.TextMethod.TheVariants.{ClearProcessLogs}
use Rattle.sv_methods.specs.declared.method.TextMethod.TheVariants.{GetProcessInfo, MethodSignature}
use Rattle.sv_methods.specs.declared.method.TextMethod.TheVariants.{SignalAllProcesses}
use Rattle.sv_methods.specs.declared.method.TextWaitMethod.{TextWaitMethod}
use Rattle.sv_methods.specs.declared.method.TextWaitMethod.TheVariants.{StartProcess}
use Rattle.sv_methods.specs.declared.method.TextWaitMethod.TheVariants.{StartProcessGroup}
use Rattle.sv_methods.specs.declared.method.TextWaitMethod.TheVariants.{StopProcess}
use Rattle.sv_methods.specs.declared.method.TextWaitMethod.TheVariants.{StopProcessGroup}
use Rattle.sv_methods.specs.declared.method.TextsMethod.{TextsMethod}
use Rattle.sv_methods.specs.declared.method.TextsMethod.TheVariants.{SendProcessStdin}
use Rattle.sv_methods.specs.declared.method.TextsMethod.TheVariants.{SendRemoteCommEvent}
use Rattle.sv_methods.specs.declared.method.TextsMethod.TheVariants.{SignalProcess}
use Rattle.sv_methods.specs.declared.method.TextsMethod.TheVariants.{SignalProcessGroup}
use Rattle.sv_methods.specs.declared.method.WaitMethod.{WaitMethod}
use Rattle.sv_methods.specs.declared.method.WaitMethod.TheVariants.{StartAllProcesses}
use Rattle.sv_methods.specs.declared.method.WaitMethod.TheVariants.{StopAllProcesses}

-- how a method is spelled
abbrev pub spelling : Method → List ℕ
spelling (Plain ClearAllProcessLogs) = codes "supervisor.clearAllProcessLogs"
spelling (Plain ClearLog) = codes "supervisor.clearLog"
spelling (OfText ClearProcessLogs) = codes "supervisor.clearProcessLogs"
spelling (Plain GetApiVersion) = codes "supervisor.getAPIVersion"
spelling (Plain GetAllProcessInfo) = codes "supervisor.getAllProcessInfo"
spelling (Plain GetIdentification) = codes "supervisor.getIdentification"
spelling (Plain GetPid) = codes "supervisor.getPID"
spelling (OfText GetProcessInfo) = codes "supervisor.getProcessInfo"
spelling (Plain GetState) = codes "supervisor.getState"
spelling (Plain GetSupervisorVersion) = codes "supervisor.getSupervisorVersion"
spelling ReadLog = codes "supervisor.readLog"
spelling (OfLog ReadStderr) = codes "supervisor.readProcessStderrLog"
spelling (OfLog ReadStdout) = codes "supervisor.readProcessStdoutLog"
spelling (OfTexts SendProcessStdin) = codes "supervisor.sendProcessStdin"
spelling (OfTexts SendRemoteCommEvent) = codes "supervisor.sendRemoteCommEvent"
spelling (Plain Shutdown) = codes "supervisor.shutdown"
spelling (OfText SignalAllProcesses) = codes "supervisor.signalAllProcesses"
spelling (OfTexts SignalProcess) = codes "supervisor.signalProcess"
spelling (OfTexts SignalProcessGroup) = codes "supervisor.signalProcessGroup"
spelling (OfWait StartAllProcesses) = codes "supervisor.startAllProcesses"
spelling (OfTextAndWait StartProcess) = codes "supervisor.startProcess"
spelling (OfTextAndWait StartProcessGroup) = codes "supervisor.startProcessGroup"
spelling (OfWait StopAllProcesses) = codes "supervisor.stopAllProcesses"
spelling (OfTextAndWait StopProcess) = codes "supervisor.stopProcess"
spelling (OfTextAndWait StopProcessGroup) = codes "supervisor.stopProcessGroup"
spelling (OfLog TailStderr) = codes "supervisor.tailProcessStderrLog"
spelling (OfLog TailStdout) = codes "supervisor.tailProcessStdoutLog"
spelling (Plain ListMethods) = codes "system.listMethods"
spelling (OfText MethodSignature) = codes "system.methodSignature"
spelling Multicall = codes "system.multicall"

-- all methods, in rising order of their spellings
abbrev pub all_methods : List Method
all_methods =
    Plain ClearAllProcessLogs ∷ Plain ClearLog ∷ OfText ClearProcessLogs
    ∷ Plain GetApiVersion ∷ Plain GetAllProcessInfo ∷ Plain GetIdentification ∷ Plain GetPid
    ∷ OfText GetProcessInfo ∷ Plain GetState ∷ Plain GetSupervisorVersion
    ∷ ReadLog ∷ OfLog ReadStderr ∷ OfLog ReadStdout
    ∷ OfTexts SendProcessStdin ∷ OfTexts SendRemoteCommEvent ∷ Plain Shutdown
    ∷ OfText SignalAllProcesses ∷ OfTexts SignalProcess ∷ OfTexts SignalProcessGroup
    ∷ OfWait StartAllProcesses ∷ OfTextAndWait StartProcess ∷ OfTextAndWait StartProcessGroup
    ∷ OfWait StopAllProcesses ∷ OfTextAndWait StopProcess ∷ OfTextAndWait StopProcessGroup
    ∷ OfLog TailStderr ∷ OfLog TailStdout
    ∷ Plain ListMethods ∷ OfText MethodSignature ∷ Multicall ∷ []

-- the method of a name
abbrev pub method_named : List ℕ → Option Method
method_named name = find (λ method. bytes_eq (spelling method) name) all_methods

-- the type of what a method is answered
abbrev pub answer_type : Method → List ℕ
answer_type (Plain ClearAllProcessLogs) = codes "array"
answer_type (Plain ClearLog) = codes "boolean"
answer_type (OfText ClearProcessLogs) = codes "boolean"
answer_type (Plain GetApiVersion) = codes "string"
answer_type (Plain GetAllProcessInfo) = codes "array"
answer_type (Plain GetIdentification) = codes "string"
answer_type (Plain GetPid) = codes "int"
answer_type (OfText GetProcessInfo) = codes "struct"
answer_type (Plain GetState) = codes "struct"
answer_type (Plain GetSupervisorVersion) = codes "string"
answer_type ReadLog = codes "string"
answer_type (OfLog ReadStderr) = codes "string"
answer_type (OfLog ReadStdout) = codes "string"
answer_type (OfTexts SendProcessStdin) = codes "boolean"
answer_type (OfTexts SendRemoteCommEvent) = codes "boolean"
answer_type (Plain Shutdown) = codes "boolean"
answer_type (OfText SignalAllProcesses) = codes "array"
answer_type (OfTexts SignalProcess) = codes "boolean"
answer_type (OfTexts SignalProcessGroup) = codes "array"
answer_type (OfWait StartAllProcesses) = codes "array"
answer_type (OfTextAndWait StartProcess) = codes "boolean"
answer_type (OfTextAndWait StartProcessGroup) = codes "array"
answer_type (OfWait StopAllProcesses) = codes "array"
answer_type (OfTextAndWait StopProcess) = codes "boolean"
answer_type (OfTextAndWait StopProcessGroup) = codes "array"
answer_type (OfLog TailStderr) = codes "array"
answer_type (OfLog TailStdout) = codes "array"
answer_type (Plain ListMethods) = codes "array"
answer_type (OfText MethodSignature) = codes "array"
answer_type Multicall = codes "array"

-- the types of what a method takes
abbrev pub param_types : Method → List (List ℕ)
param_types (Plain method) = []
param_types (OfText method) = codes "string" ∷ []
param_types (OfWait method) = codes "boolean" ∷ []
param_types (OfTextAndWait method) = codes "string" ∷ codes "boolean" ∷ []
param_types (OfTexts method) = codes "string" ∷ codes "string" ∷ []
param_types ReadLog = codes "int" ∷ codes "int" ∷ []
param_types (OfLog method) = codes "string" ∷ codes "int" ∷ codes "int" ∷ []
param_types Multicall = codes "array" ∷ []

-- the signature of a method: the type of its answer, then those of what it takes
abbrev pub signature : Method → List (List ℕ)
signature method = answer_type method ∷ param_types method

-- the methods that begin with `supervisor.`; the others begin with `system.`
abbrev pub is_ours : Method → Bool
is_ours (Plain ListMethods) = false
is_ours (OfText MethodSignature) = false
is_ours Multicall = false
is_ours method = true

-- the methods that are answered in each mood
abbrev pub is_always_open : Method → Bool
is_always_open (Plain GetState) = true
is_always_open (Plain ListMethods) = true
is_always_open (OfText MethodSignature) = true
is_always_open Multicall = true
is_always_open method = false

-- each stands before the next, by bytes
abbrev pub are_rising : List (List ℕ) → Bool
are_rising [] = true
are_rising (x ∷ xs) = is_before_first x xs && are_rising xs
  where
    is_before_first : List ℕ → List (List ℕ) → Bool
    is_before_first x [] = true
    is_before_first x (y ∷ ys) = is_lt (slice_cmp nat_cmp x y)
