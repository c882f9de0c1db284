use Rattle.std.proofs.Common.{◌≡◌, length, map}
use Rattle.httparse.specs.Borrowed.{header_parts}
use Rattle.sv_http.specs.AskTable.{values_of}
use Rattle.sv_http.proofs.fields.first_value.Given as goal

abbrev pub invariant-loop-rest : goal.invariant-loop-rest
invariant-loop-rest l = values_of l.name (map header_parts l.rest) ≡ values_of l.name (map header_parts l.fields)

abbrev pub decreases-loop-rest : goal.decreases-loop-rest
decreases-loop-rest l = length l.rest
