-- The event pools of a daemon: each listener group has one (the manual's chapter on events).
use Rattle.std.specs.Prelude.{ℕ, List, [], ◌∷◌, ◌++◌, ◌+◌, Option, Some, None, length}
use Rattle.sv_base.specs.declared.kind.Kind.{Kind}
use Rattle.sv_base.specs.declared.spec.GroupSpec.{GroupSpec}
use Rattle.sv_base.specs.declared.spec.PoolSpec.{PoolSpec}
use Rattle.sv_pool.specs.PoolLists.{Lists, opened}

-- a pool: the name of its group, the event types that it asks for, the place of its first listener
-- in the start order, where its listeners stand side by side, and its events
pub record EventPool : Type 0 where
  pub group : List ℕ
  pub kinds : List Kind
  pub first : ℕ
  pub lists : Lists

-- the pools in the start order of their groups, and how many events got a number so far
pub record EventPools : Type 0 where
  pub each : List EventPool
  pub drawn : ℕ

-- the pool of a group whose first process has this place, before any event
abbrev pub opened_for : ℕ → GroupSpec → PoolSpec → EventPool
opened_for first group pool = record {
  group = group.name;
  kinds = pool.kinds;
  first = first;
  lists = opened pool.buffer (length group.members);
}

-- if it has one
abbrev pub pool_of : ℕ → GroupSpec → Option PoolSpec → List EventPool
pool_of first group None = []
pool_of first group (Some pool) = opened_for first group pool ∷ []

-- the pools of these groups, whose first process has this place
abbrev pub pools_from : ℕ → List GroupSpec → List EventPool
pools_from first [] = []
pools_from first (g ∷ gs) = pool_of first g g.pool ++ pools_from (first + length g.members) gs

-- the pools of these groups before any event
abbrev pub opening : List GroupSpec → EventPools
opening groups = record { each = pools_from 0 groups; drawn = 0 }
