-- How many bytes an event has that stands first.
use Rattle.std.specs.Prelude.{◌≤◌, ℕ, ⊤}
use Rattle.sv_listener.specs.declared.first.First.{First}
use Rattle.sv_listener.specs.declared.first.First.TheVariants.{Whole}

-- some bytes, and at most so many
abbrev pub IsWithin : First → ℕ → Type 0
IsWithin (Whole event size) most = (1 ≤ size) × (size ≤ most)
IsWithin first most = ⊤
