use Rattle.std.proofs.Common.{arith}
use Rattle.sv_pool.specs.Offers.{offered_to, reports_of_offer}
use Rattle.sv_pool.proofs.Kept.{kept_next, kept_all, gives_next, none_left}
use Rattle.sv_pool.proofs.pools.offer_all.Goals as goal

pub loop-place-preserved : goal.loop-place-preserved
loop-place-preserved c = record {
  kept = λ ps k. kept_next (offered_to (record { kind = c.args.kind; serial = c.args.serial; body = c.args.body.now })) c.loop-place.pools ps c.loop-place.place c.index-pools-place.result c.offer.new.self
      (omega arith) (c.loop-place.invariant.kept ps k) c.in_ok-offer.ensures.kept;
  gives = λ ps k. gives_next (offered_to (record { kind = c.args.kind; serial = c.args.serial; body = c.args.body.now })) (reports_of_offer (record { kind = c.args.kind; serial = c.args.serial; body = c.args.body.now })) c.loop-place.pools ps c.loop-place.place c.index-pools-place.result _ _ _
      (omega arith) (c.loop-place.invariant.kept ps k) c.in_ok-offer.ensures.given (c.loop-place.invariant.gives ps k);
}

pub returns-clause-kept : goal.returns-clause-kept
returns-clause-kept c ps k =
    kept_all (offered_to (record { kind = c.args.kind; serial = c.args.serial; body = c.args.body.now })) c.loop-place.pools ps c.loop-place.place (omega arith) (c.loop-place.invariant.kept ps k)

pub returns-clause-given : goal.returns-clause-given
returns-clause-given c ps k =
    none_left (offered_to (record { kind = c.args.kind; serial = c.args.serial; body = c.args.body.now })) (reports_of_offer (record { kind = c.args.kind; serial = c.args.serial; body = c.args.body.now })) c.loop-place.pools ps c.loop-place.place _ _ (omega arith)
    (c.loop-place.invariant.kept ps k) (c.loop-place.invariant.gives ps k)
