use Rattle.std.proofs.Common.{List, [], refl, subst, sym}
use Rattle.sv_base.specs.declared.spec.GroupSpec.{GroupSpec}
use Rattle.sv_pool.specs.EventPools.{pools_from}
use Rattle.sv_pool.specs.StandsFor.{AreKept}
use Rattle.sv_pool.specs.declared.group_pool.GroupPool.{GroupPool}
use Rattle.sv_pool.proofs.pools.Pools.new.Goals as goal

pub returns : goal.returns
returns c =
    let none = subst (λ (xs : List GroupPool). AreKept xs []) (sym c.new-each.ensures.items) tt in
    let all = c.in_ok-open_all.ensures [] none in
    record {
      each = subst (λ (gs : List GroupSpec). AreKept c.open_all.new.each.items (pools_from 0 gs)) c.groups.ensures.value all;
      drawn = refl;
    }
