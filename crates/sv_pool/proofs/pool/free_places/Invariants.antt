use Rattle.std.proofs.Common.{◌≡◌, replicate, None}
use Rattle.sv_pool.proofs.pool.free_places.Given as goal

abbrev pub invariant-places : goal.invariant-places
invariant-places l = l.places.items ≡ replicate l.counter None
