-- The part of a log that a reader asks for (the manual's chapter on its XML-RPC interface,
-- `readProcessStdoutLog` and `tailProcessStdoutLog`).
use Rattle.std.specs.Prelude.{ℕ, zero, suc, ◌+◌, ◌-◌, Bool, nat_lt, ℤ, pos, negsuc, Option, Some}
use Rattle.std.specs.Prelude.{None, min, max, if◌then◌else◌}
use Rattle.sv_logs.specs.declared.spans.Span.{Span}

-- the most bytes of one read
abbrev pub span_limit : ℕ
span_limit = 1048576

-- the bytes from a start up to an end, of which a longer part keeps its first ones
abbrev pub first_of : ℕ → ℕ → Span
first_of start end = record { start = start; length = min (end - start) span_limit }

-- the same, which keeps its last ones
abbrev pub last_of : ℕ → ℕ → Span
last_of start end =
    record { start = max start (end - span_limit); length = min (end - start) span_limit }

-- the part of a file of this size that a read asks for: from an offset to the end, so many bytes
-- from an offset, or the last bytes; none where a length is negative, or where it isn't 0 at a
-- negative offset
abbrev pub read_part : ℕ → ℤ → ℤ → Option Span
read_part size (pos offset) (pos zero) = Some (first_of (min offset size) size)
read_part size (pos offset) (pos length) =
    Some (first_of (min offset size) (min (offset + length) size))
read_part size (negsuc before) (pos zero) = Some (last_of (size - suc before) size)
read_part size offset length = None

-- a negative number counts as 0
abbrev pub from_zero : ℤ → ℕ
from_zero (pos number) = number
from_zero (negsuc number) = 0

-- a reader that comes back after this offset for this length has missed bytes
abbrev pub has_missed : ℕ → ℤ → ℤ → Bool
has_missed size offset length = nat_lt (from_zero offset + from_zero length) size

-- what it gets: where it has missed bytes the last ones, so many as the length says, else those
-- from the offset on
abbrev pub tail_part : ℕ → ℤ → ℤ → Span
tail_part size offset length =
    if has_missed size offset length
    then last_of (size - from_zero length) size
    else last_of (min (from_zero offset) size) size
