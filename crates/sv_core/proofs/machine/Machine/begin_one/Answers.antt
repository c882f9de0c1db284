use Rattle.std.proofs.Common.{Some, sym}
use Rattle.sv_calls.specs.CallBook.{begun, new_call}
use Rattle.sv_core.proofs.Left.{calling_none, goes_after, going_of_calling, stays_at}
use Rattle.sv_core.proofs.Shown.{calls_there}
use Rattle.sv_core.specs.Calling.{calls_left}
use Rattle.sv_core.specs.Left.{calling, going_of}
use Rattle.sv_core.specs.World.{World}
use Rattle.sv_core.specs.declared.place.Going.{Going}
use Rattle.sv_core.proofs.machine.Machine.begin_one.Goals as goal

pub returns-in-Some-clause-begins : goal.returns-in-Some-clause-begins
returns-in-Some-clause-begins c = λ older w k s.
    let link = c.args.link in
    let change = begun link (new_call c.args.close) in
    let after : World = record w { calls = change w.calls } in
    let here = calls_there c.args.self.now older w change s c.begin.new.self c.in_ok-begin.ensures in
    let p : Going = record { calling = c.in-Some.calling; left = 0 } in
    stays_at (calling link) c.call.new.self older _ _ c.in-Some.calling (λ v. calls_left 0 link v k) (going_of link (Some p) k)
    (λ v. sym (going_of_calling link p k v)) c.in-Some.is (c.in_ok-calling.ensures.calls older after (λ v. calls_left 0 link v k) here)

pub returns-in_ok-going-in-None-clause-begins : goal.returns-in_ok-going-in-None-clause-begins
returns-in_ok-going-in-None-clause-begins c = λ older w k s.
    let link = c.args.link in
    let change = begun link (new_call c.args.close) in
    let after : World = record w { calls = change w.calls } in
    let here = calls_there c.args.self.now older w change s c.begin.new.self c.in_ok-begin.ensures in
    let at = c.in_ok-calling.ensures.calls older after (λ v. calls_left 0 link v k) here in
    goes_after (calling link) (calling_none link) c.call.new.self c.call_left.new.self older _ _ (λ v. calls_left 0 link v k) _ c.in-None.is at
    (c.in_ok-going-in-None.ensures.calls older at.world k at.shows)
