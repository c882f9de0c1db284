use Rattle.std.proofs.Common.{List, ◌++◌, append-nil, subst, sym, ap, ◌∙◌}
use Rattle.sv_out.specs.declared.order.Order.{Order}
use Rattle.sv_pool.specs.EventPools.{EventPool}
use Rattle.sv_pool.specs.Offers.{event_of}
use Rattle.sv_pool.specs.StandsFor.{AreKept}
use Rattle.sv_pool.proofs.Kept.{not_offered}
use Rattle.sv_pool.proofs.pools.Pools.offer.Goals as goal

pub returns-then-not-is_asked_for-clause-offered : goal.returns-then-not-is_asked_for-clause-offered
returns-then-not-is_asked_for-clause-offered c ps kept =
    let none = sym (c.is_asked_for.ensures ps kept) ∙ c.if-not-is_asked_for.true in
    let same = not_offered (event_of c.args.kind c.args.fact.now ps.drawn) ps.each none in
    record {
      each = subst (λ (qs : List EventPool). AreKept c.args.self.now.each.items qs) (sym same.0) kept.each;
      drawn = rw none kept.drawn;
    }

pub returns-then-not-is_asked_for-clause-given : goal.returns-then-not-is_asked_for-clause-given
returns-then-not-is_asked_for-clause-given c ps kept =
    let none = sym (c.is_asked_for.ensures ps kept) ∙ c.if-not-is_asked_for.true in
    let same = not_offered (event_of c.args.kind c.args.fact.now ps.drawn) ps.each none in
    sym (append-nil c.args.given.now.items) ∙ ap (λ (os : List Order). c.args.given.now.items ++ os) (sym same.1)
