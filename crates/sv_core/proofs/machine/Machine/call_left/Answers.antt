use Rattle.std.proofs.Common.{Some, None, sym}
use Rattle.sv_core.proofs.Left.{going_none, going_of_none, going_of_some, goes_after, made_at, stays_at}
use Rattle.sv_core.specs.Left.{going, going_of}
use Rattle.sv_core.specs.Calling.{ends_call}
use Rattle.sv_core.proofs.machine.Machine.call_left.Goals as goal

pub returns-in-Some-clause-calls : goal.returns-in-Some-clause-calls
returns-in-Some-clause-calls c = λ older w k s.
    let link = c.args.link in
    let p = c.in-Some.going in
    stays_at (going link) c.call_all.new.self older _ _ p (λ v. k (ends_call c.args.link v)) (going_of link (Some p) k)
    (λ v. sym (going_of_some link p k v)) c.in-Some.is (c.in_ok-going.ensures.calls older w (λ v. k (ends_call c.args.link v)) s)

pub returns-in_ok-end_call-in-None-clause-calls : goal.returns-in_ok-end_call-in-None-clause-calls
returns-in_ok-end_call-in-None-clause-calls c = λ older w k s.
    let link = c.args.link in
    let at = c.in_ok-going.ensures.calls older w (λ v. k (ends_call c.args.link v)) s in
    goes_after (going link) (going_none link) c.call_all.new.self c.end_call.new.self older _ _ (λ v. k (ends_call c.args.link v)) (going_of link None k) c.in-None.is at
    (made_at c.end_call.new.self older (ends_call link at.world) k (going_of link None k) (going_of_none link k)
    (c.in_ok-end_call-in-None.ensures.ends older at.world at.shows))
