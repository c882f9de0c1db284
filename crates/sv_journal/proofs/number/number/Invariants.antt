use Rattle.std.proofs.Common.{◌≤◌, ◌≡◌, ◌<◌, length, Ok}
use Rattle.sv_journal.specs.Reading.{number_at, digits_at}
use Rattle.sv_journal.proofs.number.number.Given as goal

abbrev pub invariant-loop-rest : goal.invariant-loop-rest
invariant-loop-rest l = record {
  read : Ok (digits_at l.limit l.value l.rest) ≡ number_at l.least l.limit l.bytes;
  bound : l.value ≤ l.limit;
  shorter : length l.rest < length l.bytes;
  begin : l.least ≤ 1 → l.least ≤ l.value;
}

abbrev pub decreases-loop-rest : goal.decreases-loop-rest
decreases-loop-rest l = length l.rest
