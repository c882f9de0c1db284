-- Each method is the one of its spelling.
use Rattle.std.proofs.Common.{◌≡◌, refl}
use Rattle.std.specs.Prelude.{Some}
use Rattle.sv_methods.specs.declared.method.LogMethod.{LogMethod}
use Rattle.sv_methods.specs.declared.method.LogMethod.TheVariants.{ReadStderr, ReadStdout, TailStderr, TailStdout}
use Rattle.sv_methods.specs.declared.method.Method.{Method}
use Rattle.sv_methods.specs.declared.method.Method.TheVariants.{Plain, OfText, OfWait, OfTextAndWait, OfTexts, ReadLog, OfLog, Multicall}
use Rattle.sv_methods.specs.declared.method.PlainMethod.{PlainMethod}
use Rattle.sv_methods.specs.declared.method.PlainMethod.TheVariants.{ClearAllProcessLogs, ClearLog, GetApiVersion, GetAllProcessInfo, GetIdentification, GetPid, GetState, GetSupervisorVersion, ListMethods, Shutdown}
use Rattle.sv_methods.specs.declared.method.TextMethod.{TextMethod}
use Rattle.sv_methods.specs.declared.method.TextMethod.TheVariants.{ClearProcessLogs, GetProcessInfo, MethodSignature, SignalAllProcesses}
use Rattle.sv_methods.specs.declared.method.TextWaitMethod.{TextWaitMethod}
use Rattle.sv_methods.specs.declared.method.TextWaitMethod.TheVariants.{StartProcess, StartProcessGroup, StopProcess, StopProcessGroup}
use Rattle.sv_methods.specs.declared.method.TextsMethod.{TextsMethod}
use Rattle.sv_methods.specs.declared.method.TextsMethod.TheVariants.{SendProcessStdin, SendRemoteCommEvent, SignalProcess, SignalProcessGroup}
use Rattle.sv_methods.specs.declared.method.WaitMethod.{WaitMethod}
use Rattle.sv_methods.specs.declared.method.WaitMethod.TheVariants.{StartAllProcesses, StopAllProcesses}
use Rattle.sv_methods.specs.MethodNames.{method_named, spelling}

pub named_by : (method : Method) → method_named (spelling method) ≡ Some method
named_by (Plain ClearAllProcessLogs) = refl
named_by (Plain ClearLog) = refl
named_by (OfText ClearProcessLogs) = refl
named_by (Plain GetApiVersion) = refl
named_by (Plain GetAllProcessInfo) = refl
named_by (Plain GetIdentification) = refl
named_by (Plain GetPid) = refl
named_by (OfText GetProcessInfo) = refl
named_by (Plain GetState) = refl
named_by (Plain GetSupervisorVersion) = refl
named_by ReadLog = refl
named_by (OfLog ReadStderr) = refl
named_by (OfLog ReadStdout) = refl
named_by (OfTexts SendProcessStdin) = refl
named_by (OfTexts SendRemoteCommEvent) = refl
named_by (Plain Shutdown) = refl
named_by (OfText SignalAllProcesses) = refl
named_by (OfTexts SignalProcess) = refl
named_by (OfTexts SignalProcessGroup) = refl
named_by (OfWait StartAllProcesses) = refl
named_by (OfTextAndWait StartProcess) = refl
named_by (OfTextAndWait StartProcessGroup) = refl
named_by (OfWait StopAllProcesses) = refl
named_by (OfTextAndWait StopProcess) = refl
named_by (OfTextAndWait StopProcessGroup) = refl
named_by (OfLog TailStderr) = refl
named_by (OfLog TailStdout) = refl
named_by (Plain ListMethods) = refl
named_by (OfText MethodSignature) = refl
named_by Multicall = refl
