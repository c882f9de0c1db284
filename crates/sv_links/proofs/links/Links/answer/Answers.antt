use Rattle.std.proofs.Common.{refl, sym}
use Rattle.sv_links.proofs.Changes.{away_stands, settles}
use Rattle.sv_links.proofs.Unchanged.{answers_idle, answers_less}
use Rattle.sv_links.specs.LinkBook.{answers}
use Rattle.sv_links.proofs.links.Links.answer.Goals as goal

pub returns-in-None-clause-kept : goal.returns-in-None-clause-kept
returns-in-None-clause-kept c book s =
    let closes = c.args.closes in
    away_stands c.args.self.now (record c.args.self.now { kept = c.get_mut.follows.lender-at-none }) book c.args.link.0 (answers closes) (answers_idle closes)
    c.get_mut.follows.holds-at-none refl refl (sym c.in-None.ensures.value) s

pub returns-in-Some-clause-kept : goal.returns-in-Some-clause-kept
returns-in-Some-clause-kept c book s =
    let closes = c.args.closes in
    let w = c.answer-is_sent.new.self in
    settles c.args.self.now c.settle.new.self (c.get_mut.follows.lender w) book c.args.link.0 (answers closes) c.in-Some.kept.now w
    c.closes_now-is_less.result c.is_busy-is_busy.result (sym c.in-Some.ensures.value) (c.get_mut.follows.holds w) c.answer-is_sent.ensures.kept
    (λ r k. answers_less closes r c.answer-is_sent.result c.closes_now-is_less.result (c.answer-is_sent.ensures.sent r k) c.closes_now-is_less.ensures)
    c.is_busy-is_busy.ensures
    c.settle.ensures.opened c.settle.ensures.count c.settle.ensures.busy c.settle.ensures.idle s
