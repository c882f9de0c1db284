use Rattle.std.proofs.Common.{Some, sym}
use Rattle.sv_core.proofs.Left.{wanting_none, acting_of_wanting, goes_after, stays_at}
use Rattle.sv_core.specs.Left.{wanting, acting_of}
use Rattle.sv_core.specs.Calling.{acts_left}
use Rattle.sv_core.specs.declared.place.Acting.{Acting}
use Rattle.sv_core.proofs.machine.Machine.go_on_acting.Goals as goal

pub returns-in-Some-clause-goes : goal.returns-in-Some-clause-goes
returns-in-Some-clause-goes c = λ older w k s.
    let link = c.args.link in
    let left = c.args.acting.left in
    let p : Acting = record { wanting = c.in-Some.wanting; left = left } in
    stays_at (wanting link) c.go_on_wanting.new.self older _ _ c.in-Some.wanting (λ v. acts_left left link v k) (acting_of link (Some p) k)
    (λ v. sym (acting_of_wanting link p k v)) c.in-Some.is (c.in_ok-wanting.ensures.goes older w (λ v. acts_left left link v k) s)

pub returns-in_ok-acting-in-None-clause-goes : goal.returns-in_ok-acting-in-None-clause-goes
returns-in_ok-acting-in-None-clause-goes c = λ older w k s.
    let link = c.args.link in
    let left = c.args.acting.left in
    let at = c.in_ok-wanting.ensures.goes older w (λ v. acts_left left link v k) s in
    goes_after (wanting link) (wanting_none link) c.go_on_wanting.new.self c.act_left.new.self older _ _ (λ v. acts_left left link v k) _ c.in-None.is at
    (c.in_ok-acting-in-None.ensures.acts older at.world k at.shows)
