use Rattle.std.proofs.Common.{Some, None, arith, rules, sym, ◌-◌, ◌∙◌}
use Rattle.sv_core.proofs.Left.{calling_none, going_none, going_some, same_at, stays_at, went_on}
use Rattle.sv_core.proofs.Served.{calls_more, none_called}
use Rattle.sv_core.proofs.Shown.{at_same}
use Rattle.sv_core.specs.Left.{calling, going}
use Rattle.sv_core.specs.Calling.{calls_all}
use Rattle.sv_core.specs.declared.place.Going.{Going}
use Rattle.sv_core.proofs.machine.Machine.call_all.Goals as goal

pub returns-in-Some-clause-calls : goal.returns-in-Some-clause-calls
returns-in-Some-clause-calls c = λ older w k s.
    let at = c.loop-left.invariant.goes older w k s in
    let link = c.args.link in
    let left = c.loop-left.left in
    let p : Going = record { calling = c.in-Some.calling; left = left - 1 } in
    stays_at (calling link) c.call_next.new.self older _ _ c.in-Some.calling (λ v. calls_all (left - 1) link v k) (going link (Some p) k)
    (λ v. sym (going_some link p k v)) c.in-Some.is
    (at_same c.call_next.new.self older _ _ _ (at.is ∙ calls_more left link at.world k (omega arith))
    (c.in_ok-call_next.ensures.calls older at.world (λ v. calls_all (left - 1) link v k) at.shows))

pub loop-left-preserved : goal.loop-left-preserved
loop-left-preserved c = record {
  kept = search rules;
  goes = λ older w k s.
      let at = c.loop-left.invariant.goes older w k s in
      let link = c.args.link in
      let left = c.loop-left.left in
      went_on (calling link) (calling_none link) c.call_next.new.self older _ _ (λ v. calls_all (left - 1) link v k) c.in-None.is
      (at_same c.call_next.new.self older _ _ _ (at.is ∙ calls_more left link at.world k (omega arith))
      (c.in_ok-call_next.ensures.calls older at.world (λ v. calls_all (left - 1) link v k) at.shows));
}

pub returns-clause-calls : goal.returns-clause-calls
returns-clause-calls c = λ older w k s.
    let link = c.args.link in
    let left = c.loop-left.left in
    same_at c.loop-left.self older _ (λ v. calls_all left link v k) (going link None k)
    (λ v. none_called left link v k (omega arith) ∙ sym (going_none link k v)) (c.loop-left.invariant.goes older w k s)
