-- What the call of a handler gives.
use Rattle.std.specs.Prelude.{List, [], ◌∷◌, Result, Ok, Err}
use Rattle.sv_listener.specs.declared.handler.HandleFault.{HandleFault}
use Rattle.sv_listener.specs.declared.handler.HandleFault.TheVariants.{Failed, OutOfMemory}
use Rattle.sv_listener.specs.declared.handler.Verdict.{Verdict}

-- the handler failed
abbrev pub IsFailed : Result Verdict HandleFault → Type 0
IsFailed (Ok verdict) = ⊥
IsFailed (Err Failed) = Unit {0}
IsFailed (Err OutOfMemory) = ⊥

-- the verdict, where there is one
abbrev pub verdicts_in : Result Verdict HandleFault → List Verdict
verdicts_in (Ok verdict) = verdict ∷ []
verdicts_in (Err fault) = []
