use Rattle.std.proofs.Common.{◌≡◌, ◌≤◌, length, false}
use Rattle.sv_xmlcall.specs.Reading.{numeral_at}
use Rattle.sv_xmlcall.proofs.content.numeral.Given as goal

abbrev pub invariant-loop-rest : goal.invariant-loop-rest
invariant-loop-rest l = record {
  read : numeral_at l.hex l.seen l.number l.rest ≡ numeral_at l.hex false 0 l.bytes;
  bound : l.number ≤ 1114111;
  shorter : length l.rest ≤ length l.bytes;
}

abbrev pub decreases-loop-rest : goal.decreases-loop-rest
decreases-loop-rest l = length l.rest
