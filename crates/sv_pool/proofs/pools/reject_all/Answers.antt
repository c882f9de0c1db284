use Rattle.std.proofs.Common.{arith}
use Rattle.sv_pool.specs.Listeners.{rejected_by, reports_of_rejection}
use Rattle.sv_pool.proofs.Kept.{kept_next, kept_all, gives_next, none_left}
use Rattle.sv_pool.proofs.pools.reject_all.Goals as goal

pub loop-place-preserved : goal.loop-place-preserved
loop-place-preserved c = record {
  kept = λ ps k. kept_next (rejected_by c.args.listener.0) c.loop-place.pools ps c.loop-place.place c.index-pools-place.result c.reject.new.self
      (omega arith) (c.loop-place.invariant.kept ps k) c.in_ok-reject.ensures.kept;
  gives = λ ps k. gives_next (rejected_by c.args.listener.0) (reports_of_rejection c.args.listener.0) c.loop-place.pools ps c.loop-place.place c.index-pools-place.result _ _ _
      (omega arith) (c.loop-place.invariant.kept ps k) c.in_ok-reject.ensures.given (c.loop-place.invariant.gives ps k);
}

pub returns-clause-kept : goal.returns-clause-kept
returns-clause-kept c ps k =
    kept_all (rejected_by c.args.listener.0) c.loop-place.pools ps c.loop-place.place (omega arith) (c.loop-place.invariant.kept ps k)

pub returns-clause-given : goal.returns-clause-given
returns-clause-given c ps k =
    none_left (rejected_by c.args.listener.0) (reports_of_rejection c.args.listener.0) c.loop-place.pools ps c.loop-place.place _ _ (omega arith)
    (c.loop-place.invariant.kept ps k) (c.loop-place.invariant.gives ps k)
