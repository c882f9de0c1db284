use Rattle.std.proofs.Common.{length}
use Rattle.sv_core_laws.proofs.+all_try_few_times.Given as goal

abbrev pub decreases-all_try_few_times : goal.decreases-all_try_few_times
decreases-all_try_few_times l = length l.groups.now
