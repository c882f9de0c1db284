use Rattle.std.proofs.Common.{length}
use Rattle.sv_core_laws.proofs.+try_few_times.Given as goal

abbrev pub decreases-try_few_times : goal.decreases-try_few_times
decreases-try_few_times l = length l.processes.now
