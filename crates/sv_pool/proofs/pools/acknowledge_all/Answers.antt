use Rattle.std.proofs.Common.{arith}
use Rattle.sv_pool.specs.Listeners.{acknowledged_by}
use Rattle.sv_pool.proofs.Kept.{kept_next, kept_all}
use Rattle.sv_pool.proofs.pools.acknowledge_all.Goals as goal

pub loop-place-preserved : goal.loop-place-preserved
loop-place-preserved c = record {
  kept = λ ps k. kept_next (acknowledged_by c.args.listener.0) c.loop-place.pools ps c.loop-place.place c.index-pools-place.result c.acknowledge.new.self
      (omega arith) (c.loop-place.invariant.kept ps k) c.acknowledge.ensures;
}

pub returns : goal.returns
returns c ps k =
    kept_all (acknowledged_by c.args.listener.0) c.loop-place.pools ps c.loop-place.place (omega arith) (c.loop-place.invariant.kept ps k)
