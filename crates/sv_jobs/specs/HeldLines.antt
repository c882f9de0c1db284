-- The line of the console that isn't ended yet.
use Rattle.std.specs.Prelude.{ℕ, List}
use Rattle.sv_jobs.specs.declared.line_in_hand.LineInHand.{LineInHand}

-- its bytes, as far as they count
abbrev pub kept_bytes : LineInHand → List ℕ
kept_bytes line = line.bytes.items
