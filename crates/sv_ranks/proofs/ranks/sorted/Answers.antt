use Rattle.std.proofs.Common.{rules, ◌≡◌, reverse}
use Rattle.std.specs.Ordering.{is_lt}
use Rattle.std.proofs.lemmas.Fn.{always_returns_same}
use Rattle.sv_base.specs.Order.{start_order}
use Rattle.sv_ranks.proofs.Sorting.{sorted_by_std, weak}
use Rattle.sv_ranks.proofs.ranks.sorted.Goals as goal

pub returns : goal.returns
returns g c =
    let priority = g.T.Ranked.priority_of in
    let name = g.T.Ranked.name_of in
    let turned : c.reverse.new.self.items ≡ reverse c.args.items = search rules in
    let compares = always_returns_same _ (λ a r. is_lt r ≡ is_lt (start_order priority name a.0.now a.1.0.now)) _ (λ a r f' k. search rules) in
    sorted_by_std priority name c.args.items c.reverse.new.self.items c.sort_by.new.self.items turned
    (c.in_ok-sort_by.ensures.sorted _ (weak priority name) compares)
    (c.in_ok-sort_by.ensures.stable _ (weak priority name) compares)
