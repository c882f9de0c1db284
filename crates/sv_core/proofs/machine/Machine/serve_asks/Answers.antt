use Rattle.std.proofs.Common.{Some, None, arith, rules, sym, ◌-◌, ◌∙◌}
use Rattle.sv_core.proofs.Left.{going_of_none, asking_none, asking_some, same_at, stays_at, went_on}
use Rattle.sv_core.proofs.Served.{asks_next, none_asks}
use Rattle.sv_core.proofs.Shown.{at_same}
use Rattle.sv_core.specs.Left.{going_of, asking}
use Rattle.sv_core.specs.Serving.{serves_asks}
use Rattle.sv_core.specs.declared.place.Asking.{Asking}
use Rattle.sv_core.proofs.machine.Machine.serve_asks.Goals as goal

pub returns-in-Some-clause-serves : goal.returns-in-Some-clause-serves
returns-in-Some-clause-serves c = λ older w k s.
    let at = c.loop-left.invariant.goes older w k s in
    let link = c.args.link in
    let left = c.loop-left.left in
    let p : Asking = record { going = c.in-Some.going; left = left - 1 } in
    stays_at (going_of link) c.serve_next.new.self older _ _ c.in-Some.going (λ v. serves_asks (left - 1) link v k) (asking link (Some p) k)
    (λ v. sym (asking_some link p k v)) c.in-Some.is
    (at_same c.serve_next.new.self older _ _ _ (at.is ∙ asks_next left link at.world k (omega arith))
    (c.in_ok-serve_next.ensures.serves older at.world (λ v. serves_asks (left - 1) link v k) at.shows))

pub loop-left-preserved : goal.loop-left-preserved
loop-left-preserved c = record {
  kept = search rules;
  goes = λ older w k s.
      let at = c.loop-left.invariant.goes older w k s in
      let link = c.args.link in
      let left = c.loop-left.left in
      went_on (going_of link) (going_of_none link) c.serve_next.new.self older _ _ (λ v. serves_asks (left - 1) link v k) c.in-None.is
      (at_same c.serve_next.new.self older _ _ _ (at.is ∙ asks_next left link at.world k (omega arith))
      (c.in_ok-serve_next.ensures.serves older at.world (λ v. serves_asks (left - 1) link v k) at.shows));
}

pub returns-clause-serves : goal.returns-clause-serves
returns-clause-serves c = λ older w k s.
    let link = c.args.link in
    let left = c.loop-left.left in
    same_at c.loop-left.self older _ (λ v. serves_asks left link v k) (asking link None k)
    (λ v. none_asks left link v k (omega arith) ∙ sym (asking_none link k v)) (c.loop-left.invariant.goes older w k s)
