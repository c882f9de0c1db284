use Rattle.std.proofs.Common.{arith}
use Rattle.sv_pool.specs.Listeners.{handed_by, may_get, orders_to}
use Rattle.sv_pool.proofs.Kept.{kept_next, kept_all, gives_next, none_left, told_next, none_tell}
use Rattle.sv_pool.proofs.pools.hand_all.Goals as goal

pub loop-place-preserved : goal.loop-place-preserved
loop-place-preserved c = record {
  kept = λ ps k. kept_next (handed_by c.args.listener.0) c.loop-place.pools ps c.loop-place.place c.index-pools-place.result c.hand_to.new.self
      (omega arith) (c.loop-place.invariant.kept ps k) c.in_ok-here.ensures.kept;
  gives = λ ps k. gives_next (handed_by c.args.listener.0) (orders_to c.args.server.now c.args.run c.args.listener.0) c.loop-place.pools ps c.loop-place.place c.index-pools-place.result _ _ _
      (omega arith) (c.loop-place.invariant.kept ps k) c.in_ok-here.ensures.given (c.loop-place.invariant.gives ps k);
  told = λ ps k. rw c.either-is_handed.ensures (told_next (handed_by c.args.listener.0) (may_get c.args.listener.0) c.loop-place.pools ps c.loop-place.place c.index-pools-place.result _ _ _
      (omega arith) (c.loop-place.invariant.kept ps k) c.in_ok-here.ensures.told (c.loop-place.invariant.told ps k));
}

pub returns-clause-kept : goal.returns-clause-kept
returns-clause-kept c ps k =
    kept_all (handed_by c.args.listener.0) c.loop-place.pools ps c.loop-place.place (omega arith) (c.loop-place.invariant.kept ps k)

pub returns-clause-given : goal.returns-clause-given
returns-clause-given c ps k =
    none_left (handed_by c.args.listener.0) (orders_to c.args.server.now c.args.run c.args.listener.0) c.loop-place.pools ps c.loop-place.place _ _ (omega arith)
    (c.loop-place.invariant.kept ps k) (c.loop-place.invariant.gives ps k)

pub returns-clause-told : goal.returns-clause-told
returns-clause-told c ps k =
    none_tell (handed_by c.args.listener.0) (may_get c.args.listener.0) c.loop-place.pools ps c.loop-place.place _ _ (omega arith)
    (c.loop-place.invariant.kept ps k) (c.loop-place.invariant.told ps k)
