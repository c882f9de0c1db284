use Rattle.std.proofs.Common.{length}
use Rattle.sv_core.proofs.machine.Machine.+tell_all.Given as goal

abbrev pub decreases-tell_all : goal.decreases-tell_all
decreases-tell_all l = length l.tokens.now
