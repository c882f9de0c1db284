use Rattle.std.proofs.Common.{length}
use Rattle.sv_pool.proofs.pools.+open_all.Given as goal

abbrev pub decreases-open_all : goal.decreases-open_all
decreases-open_all l = length l.groups.now
