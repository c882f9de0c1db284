use Rattle.std.proofs.Common.{◌≡◌, true, false, ap, refl, sym, ◌∙◌}
use Rattle.sv_core.proofs.Served.{behind_there, nothing_behind}
use Rattle.sv_core.proofs.Shown.{links_there, order_there}
use Rattle.sv_core.specs.World.{World, gives}
use Rattle.sv_core.specs.declared.machine.Machine.{Machine}
use Rattle.sv_links.specs.LinkBook.{answered, is_sent}
use Rattle.sv_out.specs.declared.order.Order.TheVariants as order
use Rattle.sv_core.proofs.machine.Machine.reply.Goals as goal

pub returns-in_ok-push-2-clause-replies : goal.returns-in_ok-push-2-clause-replies
returns-in_ok-push-2-clause-replies c = λ older w s.
    let link = c.args.link in
    let own : Machine = record c.args.self.now { links = c.answer.new.self } in
    let after : World = record w { links = answered link c.args.sent.closes w.links } in
    let book : w.links ≡ s.links = ap (λ (v : World). v.links) s.is in
    let is : is_sent link w.links ≡ true =
    ap (is_sent link) book ∙ sym (c.answer.ensures.sent s.links s.links_kept) ∙ c.if-answer.true in
    let here = links_there c.args.self.now older w (answered link c.args.sent.closes) s c.answer.new.self c.answer.ensures.kept in
    let sent = order_there own (record own { hand = record own.hand { given = c.push.new.self } }) older after
    (order.Send link c.args.sent.text) here refl c.in_ok-push.ensures.items in
    let z : Machine = record own { hand = record own.hand { given = c.push-then-closes.new.self } } in
    let told = gives (order.Send link c.args.sent.text) after in
    rw is (behind_there z older c.args.sent.closes link told c.if-closes.true
    (order_there (record own { hand = record own.hand { given = c.push.new.self } }) z older told (order.Close link) sent refl c.in_ok-push-2.ensures.items))

pub returns-else-closes-clause-replies : goal.returns-else-closes-clause-replies
returns-else-closes-clause-replies c = λ older w s.
    let link = c.args.link in
    let own : Machine = record c.args.self.now { links = c.answer.new.self } in
    let after : World = record w { links = answered link c.args.sent.closes w.links } in
    let book : w.links ≡ s.links = ap (λ (v : World). v.links) s.is in
    let is : is_sent link w.links ≡ true =
    ap (is_sent link) book ∙ sym (c.answer.ensures.sent s.links s.links_kept) ∙ c.if-answer.true in
    let here = links_there c.args.self.now older w (answered link c.args.sent.closes) s c.answer.new.self c.answer.ensures.kept in
    let z : Machine = record own { hand = record own.hand { given = c.push.new.self } } in
    rw is (nothing_behind z older c.args.sent.closes link (gives (order.Send link c.args.sent.text) after) c.if-closes.false
    (order_there own z older after (order.Send link c.args.sent.text) here refl c.in_ok-push.ensures.items))

pub returns-else-answer-clause-replies : goal.returns-else-answer-clause-replies
returns-else-answer-clause-replies c = λ older w s.
    let link = c.args.link in
    let book : w.links ≡ s.links = ap (λ (v : World). v.links) s.is in
    let is : is_sent link w.links ≡ false =
    ap (is_sent link) book ∙ sym (c.answer.ensures.sent s.links s.links_kept) ∙ c.if-answer.false in
    rw is (links_there c.args.self.now older w (answered link c.args.sent.closes) s c.answer.new.self c.answer.ensures.kept)
