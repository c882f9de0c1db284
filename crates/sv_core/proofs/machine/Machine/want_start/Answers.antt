use Rattle.std.proofs.Common.{Some, None, sym}
use Rattle.sv_core.proofs.Left.{starting_none, same_at, stays_at, wanting_none, wanting_start, went_on}
use Rattle.sv_core.specs.Left.{starting, wanting}
use Rattle.sv_core.specs.declared.place.Wanting.TheVariants as wanting_is
use Rattle.sv_core.proofs.machine.Machine.want_start.Goals as goal

pub returns-in-None-clause-starts : goal.returns-in-None-clause-starts
returns-in-None-clause-starts c = λ older w k s.
    let link = c.args.link in
    same_at c.start.new.self older _ k (wanting link None k) (λ v. sym (wanting_none link k v))
    (went_on (starting link) (starting_none link) c.start.new.self older _ _ k c.in-None.is (c.in_ok-start.ensures.starts older w k s))

pub returns-in-Some-clause-starts : goal.returns-in-Some-clause-starts
returns-in-Some-clause-starts c = λ older w k s.
    let link = c.args.link in
    let p = c.in-Some.asked in
    stays_at (starting link) c.start.new.self older _ _ p k (wanting link (Some (wanting_is.Start p)) k)
    (λ v. sym (wanting_start link p k v)) c.in-Some.is (c.in_ok-start.ensures.starts older w k s)
