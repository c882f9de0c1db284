use Rattle.std.proofs.Common.{Some, None, arith, rules, sym, ◌-◌, ◌∙◌}
use Rattle.sv_core.proofs.Left.{wanting_none, acting_none, acting_some, same_at, stays_at, went_on}
use Rattle.sv_core.proofs.Served.{does_more, none_done}
use Rattle.sv_core.proofs.Shown.{at_same}
use Rattle.sv_core.specs.Left.{wanting, acting}
use Rattle.sv_core.specs.Requests.{does_all}
use Rattle.sv_core.specs.declared.place.Acting.{Acting}
use Rattle.sv_core.proofs.machine.Machine.do_all.Goals as goal

pub returns-in-Some-clause-does : goal.returns-in-Some-clause-does
returns-in-Some-clause-does c = λ older w k s.
    let at = c.loop-left.invariant.goes older w k s in
    let link = c.args.link in
    let left = c.loop-left.left in
    let p : Acting = record { wanting = c.in-Some.wanting; left = left - 1 } in
    stays_at (wanting link) c.do_next.new.self older _ _ c.in-Some.wanting (λ v. does_all (left - 1) link v k) (acting link (Some p) k)
    (λ v. sym (acting_some link p k v)) c.in-Some.is
    (at_same c.do_next.new.self older _ _ _ (at.is ∙ does_more left link at.world k (omega arith))
    (c.in_ok-do_next.ensures.does older at.world (λ v. does_all (left - 1) link v k) at.shows))

pub loop-left-preserved : goal.loop-left-preserved
loop-left-preserved c = record {
  kept = search rules;
  goes = λ older w k s.
      let at = c.loop-left.invariant.goes older w k s in
      let link = c.args.link in
      let left = c.loop-left.left in
      went_on (wanting link) (wanting_none link) c.do_next.new.self older _ _ (λ v. does_all (left - 1) link v k) c.in-None.is
      (at_same c.do_next.new.self older _ _ _ (at.is ∙ does_more left link at.world k (omega arith))
      (c.in_ok-do_next.ensures.does older at.world (λ v. does_all (left - 1) link v k) at.shows));
}

pub returns-clause-does : goal.returns-clause-does
returns-clause-does c = λ older w k s.
    let link = c.args.link in
    let left = c.loop-left.left in
    same_at c.loop-left.self older _ (λ v. does_all left link v k) (acting link None k)
    (λ v. none_done left link v k (omega arith) ∙ sym (acting_none link k v)) (c.loop-left.invariant.goes older w k s)
