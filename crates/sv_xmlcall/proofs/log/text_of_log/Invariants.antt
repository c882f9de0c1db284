use Rattle.std.proofs.Common.{◌≡◌, ◌++◌, length}
use Rattle.sv_xmlcall.specs.Characters.{log_from, log_text}
use Rattle.sv_xmlcall.proofs.log.text_of_log.Given as goal

abbrev pub invariant-loop-rest : goal.invariant-loop-rest
invariant-loop-rest l = l.text.items ++ log_from l.left l.rest ≡ log_text l.bytes

abbrev pub decreases-loop-rest : goal.decreases-loop-rest
decreases-loop-rest l = length l.rest
