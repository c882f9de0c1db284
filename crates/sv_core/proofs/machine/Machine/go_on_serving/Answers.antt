use Rattle.std.proofs.Common.{Some, drop, sym}
use Rattle.sv_core.proofs.Left.{asking_of_none, goes_after, serving_some, stays_at}
use Rattle.sv_core.specs.Left.{asking_of, serving}
use Rattle.sv_core.specs.Serving.{serves_all}
use Rattle.sv_core.specs.declared.place.Serving.{Serving}
use Rattle.sv_core.proofs.machine.Machine.go_on_serving.Goals as goal

pub returns-in-Some-clause-goes : goal.returns-in-Some-clause-goes
returns-in-Some-clause-goes c = λ older w k s.
    let left = c.args.left in
    let p : Serving = record { links = left.links; next = left.next; link = left.link; asking = c.in-Some.asking } in
    stays_at (asking_of left.link) c.go_on_asking.new.self older _ _ c.in-Some.asking (λ v. serves_all (drop left.next left.links.items) v k)
    (serving (Some p) k) (λ v. sym (serving_some p k v)) c.in-Some.is
    (c.in_ok-asking.ensures.goes older w (λ v. serves_all (drop left.next left.links.items) v k) s)

pub returns-in_ok-serving-in-None-clause-goes : goal.returns-in_ok-serving-in-None-clause-goes
returns-in_ok-serving-in-None-clause-goes c = λ older w k s.
    let left = c.args.left in
    let at = c.in_ok-asking.ensures.goes older w (λ v. serves_all (drop left.next left.links.items) v k) s in
    goes_after (asking_of left.link) (asking_of_none left.link) c.go_on_asking.new.self c.serve_all.new.self older _ _
    (λ v. serves_all (drop left.next left.links.items) v k) _ c.in-None.is at
    (c.in_ok-serving-in-None.ensures.serves older at.world k at.shows)
