use Rattle.std.proofs.Common.{Some, None, sym}
use Rattle.sv_core.proofs.Left.{clearing_none, same_at, stays_at, wanting_none, wanting_clear, went_on}
use Rattle.sv_core.specs.Left.{clearing, wanting}
use Rattle.sv_core.specs.declared.place.Wanting.TheVariants as wanting_is
use Rattle.sv_core.proofs.machine.Machine.want_clears.Goals as goal

pub returns-in-None-clause-clears : goal.returns-in-None-clause-clears
returns-in-None-clause-clears c = λ older w k s.
    let link = c.args.link in
    same_at c.clear_all.new.self older _ k (wanting link None k) (λ v. sym (wanting_none link k v))
    (went_on (clearing link) (clearing_none link) c.clear_all.new.self older _ _ k c.in-None.is (c.in_ok-clear_all.ensures.clears older w k s))

pub returns-in-Some-clause-clears : goal.returns-in-Some-clause-clears
returns-in-Some-clause-clears c = λ older w k s.
    let link = c.args.link in
    let p = c.in-Some.clearing in
    stays_at (clearing link) c.clear_all.new.self older _ _ p k (wanting link (Some (wanting_is.Clear p)) k)
    (λ v. sym (wanting_clear link p k v)) c.in-Some.is (c.in_ok-clear_all.ensures.clears older w k s)
