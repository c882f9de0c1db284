use Rattle.std.proofs.Common.{arith, ◌≡◌, List, Option, Some, true, ◌+◌, ◌==◌, ◌++◌, ◌∷◌, [], ℕ, refl, subst, ap, sym, ◌∙◌}
use Rattle.sv_base.specs.declared.config.ServerSpec.{ServerSpec}
use Rattle.sv_core.proofs.Shown.{links_there, order_there}
use Rattle.sv_core.specs.Openings.{guard_at, opens_for, welcome}
use Rattle.sv_core.specs.StandsFor.{Shows}
use Rattle.sv_core.specs.World.{World}
use Rattle.sv_core.specs.declared.machine.Machine.{Machine}
use Rattle.sv_http.specs.declared.guard.Guard.{Guard}
use Rattle.sv_links.specs.LinkBook.{has_room, opened}
use Rattle.sv_out.specs.declared.order.Order.{Order}
use Rattle.sv_core.proofs.machine.Machine.open_link.Goals as goal

pub returns-in_ok-push-in-Some-clause-opens : goal.returns-in_ok-push-in-Some-clause-opens
returns-in_ok-push-in-Some-clause-opens c = λ older w s.
    let link = c.args.link in
    let guard = c.in-Some.guard in
    let own : Machine = record c.args.self.now { links = c.begin.new.self } in
    let z : Machine = record own { hand = record own.hand { given = c.push.new.self } } in
    let after : World = record w { links = opened guard w.links } in
    let is : guard_at c.args.side w.config.servers ≡ Some guard =
    ap (λ (v : World). guard_at c.args.side v.config.servers) s.is
    ∙ ap (λ (servers : List ServerSpec). guard_at c.args.side servers) (sym c.as_slice.ensures) ∙ sym c.in_ok-guard_at.ensures ∙ c.in-Some.is in
    let served : c.in_ok-is_served-in-Some.is_served ≡ has_room w.links =
    c.in_ok-is_served-in-Some.ensures.served s.links s.links_kept ∙ sym (ap (λ (v : World). has_room v.links) s.is) in
    let one : 1 + c.args.self.now.links.opened ≡ c.args.self.now.links.opened + 1 = omega arith in
    let follows : (link.0 == 1 + c.args.self.now.links.opened) ≡ true = subst (λ (n : ℕ). (link.0 == n) ≡ true) (sym one) c.requires in
    let here = links_there c.args.self.now older w (opened guard) s c.begin.new.self
    (λ book kept. c.in_ok-is_served-in-Some.ensures.kept book kept
    (subst (λ (n : ℕ). (link.0 == 1 + n) ≡ true) kept.opened follows)) in
    let given : c.push.new.self.items ≡ c.args.self.now.hand.given.items ++ welcome link (has_room w.links) ∷ [] =
    c.in_ok-push-in-Some.ensures.items
    ∙ ap (λ (o : Order). c.args.self.now.hand.given.items ++ o ∷ []) (c.welcome.ensures ∙ ap (welcome link) served) in
    subst (λ (found : Option Guard). Shows z older (opens_for link found w)) (sym is)
    (order_there own z older after (welcome link (has_room w.links)) here refl given)
