-- What the readers of whole texts answer.
use Rattle.std.specs.Prelude.{ℕ, ◌≡◌, ◌-◌, List, [], ◌∷◌, Result, Ok, Err, nat_lt, if◌then◌else◌}
use Rattle.sv_xmlcall.specs.Trees.{Trees, no_tree, call_view, reply_view}
use Rattle.sv_xmlcall.specs.Spelled.{Spelled, ACall, AReply}
use Rattle.sv_xmlcall.specs.Given.{depth, amount}
use Rattle.sv_xmlcall.specs.Machine.{Limits, Verdict, Read, NotRead, TooMany, TooDeep, AtCalled}
use Rattle.sv_xmlcall.specs.Machine.{AtParams, AtDone, AtValue, At, at, run, the_limits, InParam}
use Rattle.sv_xmlcall.specs.Running.{Halts}
use Rattle.sv_xmlcall.specs.declared.call.Call.{Call}
use Rattle.sv_xmlcall.specs.declared.call.Answered.{Answered}
use Rattle.sv_xmlcall.specs.declared.call.CallFault.{CallFault}
use Rattle.sv_xmlcall.specs.declared.call.CallFault.TheVariants as fault
use Rattle.sv_xmlcall.specs.declared.stop.Stop.{Stop}
use Rattle.sv_xmlcall.specs.declared.stop.Stop.TheVariants as stop

-- how a text goes on after the params of a call of this method
abbrev pub ReadsParams : {X : Type 0} → List ℕ → ℕ → List ℕ → ℕ → (X → Trees) → (X → List ℕ)
    → Result X Stop → Type 0
ReadsParams method before bytes count params rest (Ok x) =
    run the_limits (at (At (AtCalled method)) [] before) bytes
    ≡ run the_limits
    (at (At (AtDone (ACall (record { method = method; params = params x })))) [] count) (rest x)
ReadsParams method before bytes count params rest (Err stop) =
    Halts stop count (run the_limits (at (At (AtCalled method)) [] before) bytes)

-- a verdict as a fault of a text of so many bytes
abbrev pub FaultIs : CallFault → ℕ → Verdict → Type 0
FaultIs (fault.NotACall place) size verdict =
    (left : ℕ) × ((verdict ≡ NotRead left) × (place ≡ size - left))
FaultIs fault.TooManyValues size verdict = verdict ≡ TooMany
FaultIs fault.TooDeep size verdict = verdict ≡ TooDeep
FaultIs fault.OutOfMemory size verdict = Unit {0}

-- what a reader of calls answers is this verdict on a text of so many bytes
abbrev pub ReadsCall : Verdict → ℕ → Result Call CallFault → Type 0
ReadsCall verdict size (Ok call) = verdict ≡ Read (ACall (call_view call))
ReadsCall verdict size (Err fault) = FaultIs fault size verdict

-- what a reader of replies answers is this verdict on a text of so many bytes
abbrev pub ReadsReply : Verdict → ℕ → Result Answered CallFault → Type 0
ReadsReply verdict size (Ok answered) = verdict ≡ Read (AReply (reply_view answered))
ReadsReply verdict size (Err fault) = FaultIs fault size verdict

-- the fault of a reader that stops so when so many values are opened, in a text of so many bytes
abbrev pub faulted : Stop → ℕ → ℕ → CallFault
faulted (stop.At left) opened size =
    if nat_lt 65536 opened then fault.TooManyValues else fault.NotACall (size - left)
faulted stop.TooDeep opened size = fault.TooDeep
faulted stop.OutOfMemory opened size = fault.OutOfMemory

-- how a text goes on from after `<params>` to after the closing tag of the call
abbrev pub ReadsFurther : {X : Type 0} → List ℕ → ℕ → List ℕ → ℕ → (X → Trees) → (X → List ℕ)
    → Result X Stop → Type 0
ReadsFurther method before bytes count params rest (Ok x) =
    run the_limits (at (At (AtParams method no_tree)) [] before) bytes
    ≡ run the_limits
    (at (At (AtDone (ACall (record { method = method; params = params x })))) [] count) (rest x)
ReadsFurther method before bytes count params rest (Err stop) =
    Halts stop count (run the_limits (at (At (AtParams method no_tree)) [] before) bytes)

-- how a text goes on after one more param
abbrev pub ReadsOne : {X : Type 0} → List ℕ → Trees → ℕ → List ℕ → ℕ → (X → Trees) → (X → List ℕ)
    → Result X Stop → Type 0
ReadsOne method params before bytes count more rest (Ok x) =
    run the_limits (at (At AtValue) (InParam method params ∷ []) before) bytes ≡ run the_limits
    (at (At (AtParams method (more x))) [] count) (rest x)
ReadsOne method params before bytes count more rest (Err stop) =
    Halts stop count (run the_limits (at (At AtValue) (InParam method params ∷ []) before) bytes)

-- a text that spells this is read, unless its values stand too deep or are too many
abbrev pub verdict_of : Limits → Spelled → Verdict
verdict_of limits spelled =
    if nat_lt limits.nesting (depth spelled) then TooDeep
    else if nat_lt limits.values (amount spelled) then TooMany
    else Read spelled
