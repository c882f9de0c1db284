use Rattle.std.proofs.Common.{Some, sym}
use Rattle.sv_core.proofs.Left.{going_of_none, asking_of_going, goes_after, stays_at}
use Rattle.sv_core.specs.Left.{going_of, asking_of}
use Rattle.sv_core.specs.Serving.{serves_left}
use Rattle.sv_core.specs.declared.place.Asking.{Asking}
use Rattle.sv_core.proofs.machine.Machine.serve_from.Goals as goal

pub returns-in-Some-clause-serves : goal.returns-in-Some-clause-serves
returns-in-Some-clause-serves c = λ older w k s.
    let link = c.args.link in
    let left = c.args.left in
    let p : Asking = record { going = c.in-Some.going; left = left } in
    stays_at (going_of link) c.go_on_calling.new.self older _ _ c.in-Some.going (λ v. serves_left left link v k) (asking_of link (Some p) k)
    (λ v. sym (asking_of_going link p k v)) c.in-Some.is (c.in_ok-going.ensures.goes older w (λ v. serves_left left link v k) s)

pub returns-in_ok-asking-in-None-clause-serves : goal.returns-in_ok-asking-in-None-clause-serves
returns-in_ok-asking-in-None-clause-serves c = λ older w k s.
    let link = c.args.link in
    let left = c.args.left in
    let at = c.in_ok-going.ensures.goes older w (λ v. serves_left left link v k) s in
    goes_after (going_of link) (going_of_none link) c.go_on_calling.new.self c.serve_left.new.self older _ _ (λ v. serves_left left link v k) _ c.in-None.is at
    (c.in_ok-asking-in-None.ensures.serves older at.world k at.shows)
