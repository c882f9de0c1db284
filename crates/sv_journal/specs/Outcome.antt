-- What the answer of a reader of a line may be.
use Rattle.std.specs.Prelude.{◌≡◌, ℕ, List, Result, Ok, Err}
use Rattle.sv_journal.specs.Column.{IsColumn}
use Rattle.sv_journal.specs.declared.fault.LineFault.{LineFault}
use Rattle.sv_journal.specs.declared.fault.LineFault.TheVariants.{BadLine, OutOfMemory}

-- this value, or out of memory
abbrev pub IsOrNoMemory : {X : Type 0} → Result X LineFault → X → Type 0
IsOrNoMemory (Ok y) x = y ≡ x
IsOrNoMemory (Err (BadLine column)) x = ⊥
IsOrNoMemory (Err OutOfMemory) x = Unit {0}

-- a refused line breaks at this column
abbrev pub IsFaultOf : {X : Type 0} → (X → Type 0) → (X → List ℕ) → List ℕ → LineFault → Type 0
IsFaultOf Fits line_of line (BadLine column) = IsColumn Fits line_of line column
IsFaultOf Fits line_of line OutOfMemory = Unit {0}
