use Rattle.std.proofs.Common.{◌≡◌, true, false, ap, refl, sym, ◌∙◌}
use Rattle.sv_core.proofs.Shown.{links_there, order_there}
use Rattle.sv_core.specs.World.{World}
use Rattle.sv_core.specs.declared.machine.Machine.{Machine}
use Rattle.sv_links.specs.LinkBook.{more_given, more_is_due}
use Rattle.sv_out.specs.declared.order.Order.TheVariants as order
use Rattle.sv_core.proofs.machine.Machine.give_more.Goals as goal

pub returns-in_ok-push-clause-gives : goal.returns-in_ok-push-clause-gives
returns-in_ok-push-clause-gives c = λ older w s.
    let link = c.args.link in
    let own : Machine = record c.args.self.now { links = c.give_more.new.self } in
    let after : World = record w { links = more_given link w.links } in
    let book : w.links ≡ s.links = ap (λ (v : World). v.links) s.is in
    let is : more_is_due link w.links ≡ true =
    ap (more_is_due link) book ∙ sym (c.give_more.ensures.due s.links s.links_kept) ∙ c.if-give_more.true in
    let here = links_there c.args.self.now older w (more_given link) s c.give_more.new.self c.give_more.ensures.kept in
    rw is (order_there own _ older after (order.More link) here refl c.in_ok-push.ensures.items)

pub returns-else-give_more-clause-gives : goal.returns-else-give_more-clause-gives
returns-else-give_more-clause-gives c = λ older w s.
    let link = c.args.link in
    let book : w.links ≡ s.links = ap (λ (v : World). v.links) s.is in
    let is : more_is_due link w.links ≡ false =
    ap (more_is_due link) book ∙ sym (c.give_more.ensures.due s.links s.links_kept) ∙ c.if-give_more.false in
    rw is (links_there c.args.self.now older w (more_given link) s c.give_more.new.self c.give_more.ensures.kept)
