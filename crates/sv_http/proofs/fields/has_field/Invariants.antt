use Rattle.std.proofs.Common.{◌≡◌, length, map}
use Rattle.httparse.specs.Borrowed.{header_parts}
use Rattle.sv_http.specs.AskTable.{has_field}
use Rattle.sv_http.proofs.fields.has_field.Given as goal

abbrev pub invariant-loop-rest : goal.invariant-loop-rest
invariant-loop-rest l = has_field l.name (map header_parts l.rest) ≡ has_field l.name (map header_parts l.fields)

abbrev pub decreases-loop-rest : goal.decreases-loop-rest
decreases-loop-rest l = length l.rest
