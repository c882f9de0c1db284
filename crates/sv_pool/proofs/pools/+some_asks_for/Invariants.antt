use Rattle.std.proofs.Common.{length}
use Rattle.sv_pool.proofs.pools.+some_asks_for.Given as goal

abbrev pub decreases-some_asks_for : goal.decreases-some_asks_for
decreases-some_asks_for l = length l.pools.now
