use Rattle.std.proofs.Common.{◌≡◌, ◌≤◌, length, false}
use Rattle.sv_xmlcall.specs.Machine.{most_of}
use Rattle.sv_xmlcall.specs.Reading.{size_from}
use Rattle.sv_xmlcall.proofs.integer.size.Given as goal

abbrev pub invariant-loop-rest : goal.invariant-loop-rest
invariant-loop-rest l = record {
  read : size_from l.negative l.seen l.number l.rest ≡ size_from l.negative false 0 l.bytes;
  bound : l.number ≤ most_of l.negative;
  shorter : length l.rest ≤ length l.bytes;
}

abbrev pub decreases-loop-rest : goal.decreases-loop-rest
decreases-loop-rest l = length l.rest
