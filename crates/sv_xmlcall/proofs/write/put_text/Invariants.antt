use Rattle.std.proofs.Common.{◌≡◌, ◌++◌, length}
use Rattle.sv_xmlcall.specs.Written.{escaped}
use Rattle.sv_xmlcall.proofs.write.put_text.Given as goal

abbrev pub invariant-loop-rest : goal.invariant-loop-rest
invariant-loop-rest l = l.out.items ++ escaped l.rest ≡ l.fn.out.items ++ escaped l.fn.text

abbrev pub decreases-loop-rest : goal.decreases-loop-rest
decreases-loop-rest l = length l.rest
