use Rattle.std.proofs.Common.{length}
use Rattle.sv_pool.proofs.pools.+some_holds.Given as goal

abbrev pub decreases-some_holds : goal.decreases-some_holds
decreases-some_holds l = length l.pools.now
