use Rattle.std.proofs.Common.{◌≡◌, ◌++◌, List, drop}
use Rattle.std.specs.List.{flat_map}
use Rattle.sv_pool.specs.EventPools.{EventPool}
use Rattle.sv_pool.specs.Offers.{offered_to, reports_of_offer}
use Rattle.sv_pool.specs.StandsFor.{AreKept}
use Rattle.sv_pool.proofs.Kept.{partly}
use Rattle.sv_pool.proofs.pools.offer_all.Given as goal

abbrev pub invariant-loop-place : goal.invariant-loop-place
invariant-loop-place l = record {
  kept : (ps : List EventPool) → AreKept l.initial.pools ps → AreKept l.pools (partly (offered_to (record { kind = l.kind; serial = l.serial; body = l.body })) l.place ps);
  gives : (ps : List EventPool) → AreKept l.initial.pools ps
      → l.given.items ++ flat_map (reports_of_offer (record { kind = l.kind; serial = l.serial; body = l.body })) (drop l.place ps) ≡ l.initial.given.items ++ flat_map (reports_of_offer (record { kind = l.kind; serial = l.serial; body = l.body })) ps;
}
