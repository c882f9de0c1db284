use Rattle.std.proofs.Common.{Some, sym}
use Rattle.sv_core.proofs.Left.{calling_none, going_of_calling, goes_after, stays_at}
use Rattle.sv_core.specs.Left.{calling, going_of}
use Rattle.sv_core.specs.Calling.{calls_left}
use Rattle.sv_core.specs.declared.place.Going.{Going}
use Rattle.sv_core.proofs.machine.Machine.go_on_going.Goals as goal

pub returns-in-Some-clause-goes : goal.returns-in-Some-clause-goes
returns-in-Some-clause-goes c = λ older w k s.
    let link = c.args.link in
    let left = c.args.going.left in
    let p : Going = record { calling = c.in-Some.calling; left = left } in
    stays_at (calling link) c.go_on_in_call.new.self older _ _ c.in-Some.calling (λ v. calls_left left link v k) (going_of link (Some p) k)
    (λ v. sym (going_of_calling link p k v)) c.in-Some.is (c.in_ok-calling.ensures.goes older w (λ v. calls_left left link v k) s)

pub returns-in_ok-going-in-None-clause-goes : goal.returns-in_ok-going-in-None-clause-goes
returns-in_ok-going-in-None-clause-goes c = λ older w k s.
    let link = c.args.link in
    let left = c.args.going.left in
    let at = c.in_ok-calling.ensures.goes older w (λ v. calls_left left link v k) s in
    goes_after (calling link) (calling_none link) c.go_on_in_call.new.self c.call_left.new.self older _ _ (λ v. calls_left left link v k) _ c.in-None.is at
    (c.in_ok-going-in-None.ensures.calls older at.world k at.shows)
