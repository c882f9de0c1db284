use Rattle.std.proofs.Common.{◌≡◌, ◌++◌, List, drop}
use Rattle.std.specs.List.{flat_map, list_any}
use Rattle.std.specs.Prelude.{◌||◌}
use Rattle.sv_pool.specs.EventPools.{EventPool}
use Rattle.sv_pool.specs.Listeners.{handed_by, may_get, orders_to}
use Rattle.sv_pool.specs.StandsFor.{AreKept}
use Rattle.sv_pool.proofs.Kept.{partly}
use Rattle.sv_pool.proofs.pools.hand_all.Given as goal

abbrev pub invariant-loop-place : goal.invariant-loop-place
invariant-loop-place l = record {
  kept : (ps : List EventPool) → AreKept l.initial.pools ps → AreKept l.pools (partly (handed_by l.listener.0) l.place ps);
  gives : (ps : List EventPool) → AreKept l.initial.pools ps
      → l.given.items ++ flat_map (orders_to l.server l.run l.listener.0) (drop l.place ps) ≡ l.initial.given.items ++ flat_map (orders_to l.server l.run l.listener.0) ps;
  told : (ps : List EventPool) → AreKept l.initial.pools ps
      → (l.is_handed || list_any (may_get l.listener.0) (drop l.place ps)) ≡ list_any (may_get l.listener.0) ps;
}
