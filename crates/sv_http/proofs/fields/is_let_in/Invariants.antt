use Rattle.std.proofs.Common.{◌≡◌, length, map}
use Rattle.httparse.specs.Borrowed.{header_parts}
use Rattle.sv_http.specs.Authorization.{some_lets_in}
use Rattle.sv_http.proofs.fields.is_let_in.Given as goal

abbrev pub invariant-loop-rest : goal.invariant-loop-rest
invariant-loop-rest l = some_lets_in l.guard (map header_parts l.rest) ≡ some_lets_in l.guard (map header_parts l.fields)

abbrev pub decreases-loop-rest : goal.decreases-loop-rest
decreases-loop-rest l = length l.rest
