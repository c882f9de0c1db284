-- Which bytes of a file are read.
use Rattle.std.specs.Prelude.{ℕ, ◌+◌, ◌-◌, min, if◌then◌else◌, nat_le}

-- the place and the number of the bytes: those that are asked for, and the last ones of a file that ends before those do
abbrev pub span_of : ℕ → ℕ → ℕ → ℕ × ℕ
span_of size start length =
    if nat_le (start + length) size then (start, length)
    else (size - min length size, min length size)
