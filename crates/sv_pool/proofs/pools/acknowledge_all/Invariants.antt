use Rattle.std.proofs.Common.{List}
use Rattle.sv_pool.specs.EventPools.{EventPool}
use Rattle.sv_pool.specs.Listeners.{acknowledged_by}
use Rattle.sv_pool.specs.StandsFor.{AreKept}
use Rattle.sv_pool.proofs.Kept.{partly}
use Rattle.sv_pool.proofs.pools.acknowledge_all.Given as goal

abbrev pub invariant-loop-place : goal.invariant-loop-place
invariant-loop-place l = record {
  kept : (ps : List EventPool) → AreKept l.initial.pools ps → AreKept l.pools (partly (acknowledged_by l.listener.0) l.place ps);
}
