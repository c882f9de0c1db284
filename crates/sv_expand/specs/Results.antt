-- Answers that may be faults.
use Rattle.std.specs.Prelude.{Result, Ok, Err}

-- the second step, where the first has no fault
abbrev pub and_then : {A B E : Type 0} → Result A E → (A → Result B E) → Result B E
and_then (Ok x) f = f x
and_then (Err fault) f = Err fault
