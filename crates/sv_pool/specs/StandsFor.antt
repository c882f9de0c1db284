-- Which pools the code stands for, which keeps only the events that wait or are held.
use Rattle.std.specs.Prelude.{◌≡◌, List, [], ◌∷◌, ◌^◌, ◌%◌}
use Rattle.sv_pool.specs.PoolLists as one_pool
use Rattle.sv_pool.specs.EventPools.{EventPool, EventPools}
use Rattle.sv_pool.specs.declared.group_pool.GroupPool.{GroupPool}
use Rattle.sv_pool.specs.declared.pools.Pools.{Pools}

-- one pool, of whose lists those that wait or are held are kept
pub record Keeps (x : GroupPool) (p : EventPool) : Type 0 where
  pub group : x.group ≡ p.group
  pub kinds : x.kinds ≡ p.kinds
  pub first : x.first ≡ p.first
  pub lists : one_pool.StandsFor x.pool p.lists

-- one by one
abbrev pub AreKept : List GroupPool → List EventPool → Type 0
AreKept [] [] = Unit {0}
AreKept [] (p ∷ ps) = ⊥
AreKept (x ∷ xs) [] = ⊥
AreKept (x ∷ xs) (p ∷ ps) = Keeps x p × AreKept xs ps

-- all pools, and the number of the next event
pub record StandsFor (x : Pools) (ps : EventPools) : Type 0 where
  pub each : AreKept x.each.items ps.each
  pub drawn : x.next_serial ≡ ps.drawn % 2 ^ 64
