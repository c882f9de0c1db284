use Rattle.std.proofs.Common.{◌≡◌, ◌++◌, length}
use Rattle.sv_xmlcall.specs.Stages.{white_of}
use Rattle.sv_xmlcall.proofs.nested.white_text.Given as goal

abbrev pub invariant-loop-rest : goal.invariant-loop-rest
invariant-loop-rest l = l.white.items ++ white_of l.rest ≡ white_of l.bytes

abbrev pub decreases-loop-rest : goal.decreases-loop-rest
decreases-loop-rest l = length l.rest
