use Rattle.std.proofs.Common.{◌≡◌, ◌≤◌, length, None}
use Rattle.sv_journal.specs.Reading.{codes_from, codes_tail, with_front}
use Rattle.sv_journal.proofs.exit_codes.exit_codes.Given as goal

abbrev pub invariant-loop-rest : goal.invariant-loop-rest
invariant-loop-rest l = record {
  read : with_front l.codes (codes_tail l.code l.rest) ≡ codes_from None l.bytes;
  bound : l.code ≤ 255;
}

abbrev pub decreases-loop-rest : goal.decreases-loop-rest
decreases-loop-rest l = length l.rest
