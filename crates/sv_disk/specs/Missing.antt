-- Answers of a shelf that are for another cause than a missing file.
use Rattle.std.specs.Prelude.{Result, Ok, Err}
use Rattle.sv_out.specs.declared.files.ShelfFault.{ShelfFault}
use Rattle.sv_out.specs.declared.files.ShelfFault.TheVariants.{Missing, Failed, OutOfMemory}

-- the answer isn't that a file is missing
abbrev pub IsUntold : {A : Type 0} → Result A ShelfFault → Type 0
IsUntold (Ok value) = Unit {0}
IsUntold (Err Missing) = ⊥
IsUntold (Err Failed) = Unit {0}
IsUntold (Err OutOfMemory) = Unit {0}
