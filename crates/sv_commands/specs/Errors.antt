-- The line of an error.
use Rattle.std.specs.Prelude.{◌++◌, ℕ, List, Option, Some, None, codes}

-- the line of a fault, of what the call names or of nothing
abbrev pub error_line : Option (List ℕ) → List ℕ → List ℕ
error_line None words = codes "ERROR (" ++ words ++ codes ")\n"
error_line (Some name) words = name ++ codes ": ERROR (" ++ words ++ codes ")\n"
