-- What an order to write a file comes to.
use Rattle.std.specs.Prelude.{Option, Result, Ok, Err}
use Rattle.sv_outside.specs.declared.handing.Handed.{Handed}
use Rattle.sv_outside.specs.declared.handing.Handed.TheVariants.{Done, Failed}
use Rattle.sv_out.specs.Files.{Becomes, Files}

-- the shelf's files are changed so; where its call failed they are as they were, and where memory
-- was refused nothing is told
abbrev pub Writes : {E : Type 0} → Option Files → Option Files → (Files → Files) → Result Handed E
    → Type 0
Writes old new change (Ok Done) = Becomes old new change
Writes old new change (Ok Failed) = Becomes old new (λ files. files)
Writes old new change (Err error) = Unit {0}

-- the order failed
abbrev pub IsUnwritten : {E : Type 0} → Result Handed E → Type 0
IsUnwritten (Ok Done) = ⊥
IsUnwritten (Ok Failed) = Unit {0}
IsUnwritten (Err error) = ⊥
