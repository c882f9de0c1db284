-- The pieces in which a job reads.
use Rattle.std.specs.Prelude.{ℕ, ◌*◌, ◌==◌, ◌++◌, true, List, [], min, if◌then◌else◌}
use Rattle.sv_base.specs.Limits.{piece_limit}
use Rattle.sv_jobs.specs.declared.reading.ReadResult.{ReadResult}
use Rattle.sv_jobs.specs.declared.reading.ReadResult.TheVariants.{Piece, End, Failed, OutOfMemory}
use Rattle.sv_jobs.specs.declared.room.Room.{Room}
use Rattle.sv_out.specs.declared.connection.Exchange.{Exchange}

-- the bytes that were read
abbrev pub bytes_of : ReadResult → List ℕ
bytes_of (Piece bytes) = bytes
bytes_of End = []
bytes_of Failed = []
bytes_of OutOfMemory = []

-- what went over a link after it was read
abbrev pub heard_as : ReadResult → Exchange → Exchange
heard_as (Piece bytes) exchange = record exchange { heard = exchange.heard ++ bytes }
heard_as End exchange = record exchange { ended = true }
heard_as Failed exchange = exchange
heard_as OutOfMemory exchange = exchange

-- the most bytes of the next piece
abbrev pub room_of : Room → ℕ
room_of room = room.bytes

-- the room after a read of so many bytes: twice as much where they filled it, up to the most bytes
-- of a piece, and else the first one again
abbrev pub next_room : ℕ → ℕ → ℕ
next_room room count = if count == room then min (2 * room) piece_limit else 4096
