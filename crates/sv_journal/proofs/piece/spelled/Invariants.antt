use Rattle.std.proofs.Common.{◌≡◌, ◌+◌, length}
use Rattle.sv_base.specs.Limits.{piece_limit}
use Rattle.sv_journal.specs.Pieces.{with_bytes, bytes_at}
use Rattle.sv_journal.proofs.piece.spelled.Given as goal

abbrev pub invariant-loop-rest : goal.invariant-loop-rest
invariant-loop-rest l = record {
  read : with_bytes l.value.items (bytes_at l.room l.rest) ≡ bytes_at piece_limit l.bytes;
  room : l.room + length l.value.items ≡ piece_limit;
}

abbrev pub decreases-loop-rest : goal.decreases-loop-rest
decreases-loop-rest l = length l.rest
