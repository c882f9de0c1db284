-- How many logs stay open.
use Rattle.std.specs.Prelude.{ℕ, ◌/◌, min, max}

-- an eighth of the descriptors, but at least 4 and at most 64
abbrev pub most_kept : ℕ → ℕ
most_kept descriptors = min (max (descriptors / 8) 4) 64
