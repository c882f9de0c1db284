use Rattle.std.proofs.Common.{length}
use Rattle.sv_pool.proofs.pools.+some_has_waiting.Given as goal

abbrev pub decreases-some_has_waiting : goal.decreases-some_has_waiting
decreases-some_has_waiting l = length l.pools.now
