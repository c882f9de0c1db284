-- The limits of what a listener reads.
use Rattle.std.specs.Prelude.{ℕ}

-- the most bytes of a header line, without its line feed
abbrev pub header_limit : ℕ
header_limit = 4096

-- the most bytes of a body
abbrev pub body_limit : ℕ
body_limit = 33554432
