use Rattle.std.proofs.Common.{Some, None, sym}
use Rattle.sv_core.proofs.Left.{acting_none, acting_of_none, acting_of_some, goes_after, made_at, stays_at}
use Rattle.sv_core.specs.Left.{acting, acting_of}
use Rattle.sv_core.specs.Calling.{checks_wait}
use Rattle.sv_core.proofs.machine.Machine.act_left.Goals as goal

pub returns-in-Some-clause-acts : goal.returns-in-Some-clause-acts
returns-in-Some-clause-acts c = λ older w k s.
    let link = c.args.link in
    let p = c.in-Some.acting in
    stays_at (acting link) c.do_all.new.self older _ _ p (λ v. k (checks_wait c.args.link v)) (acting_of link (Some p) k)
    (λ v. sym (acting_of_some link p k v)) c.in-Some.is (c.in_ok-acting.ensures.does older w (λ v. k (checks_wait c.args.link v)) s)

pub returns-in_ok-check_wait-in-None-clause-acts : goal.returns-in_ok-check_wait-in-None-clause-acts
returns-in_ok-check_wait-in-None-clause-acts c = λ older w k s.
    let link = c.args.link in
    let at = c.in_ok-acting.ensures.does older w (λ v. k (checks_wait c.args.link v)) s in
    goes_after (acting link) (acting_none link) c.do_all.new.self c.check_wait.new.self older _ _ (λ v. k (checks_wait c.args.link v)) (acting_of link None k) c.in-None.is at
    (made_at c.check_wait.new.self older (checks_wait link at.world) k (acting_of link None k) (acting_of_none link k)
    (c.in_ok-check_wait-in-None.ensures.checks older at.world at.shows))
