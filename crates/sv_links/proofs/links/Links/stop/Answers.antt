use Rattle.std.proofs.Common.{refl, sym}
use Rattle.sv_links.proofs.Changes.{away_stands, settles}
use Rattle.sv_links.proofs.Unchanged.{ends_idle, ends_less}
use Rattle.sv_links.specs.LinkBook.{ends}
use Rattle.sv_links.proofs.links.Links.stop.Goals as goal

pub returns-in_default : goal.returns-in_default
returns-in_default c ending book s =
    away_stands c.args.self.now (record c.args.self.now { kept = c.get_mut.follows.lender-at-none }) book c.args.link.0 (ends ending) (ends_idle ending)
    c.get_mut.follows.holds-at-none refl refl (sym c.in_default.ensures.value) s

pub returns-in-Some : goal.returns-in-Some
returns-in-Some c ending book s =
    let w = c.end-was_open.new.self in
    settles c.args.self.now c.settle.new.self (c.get_mut.follows.lender w) book c.args.link.0 (ends ending) c.in-Some.kept.now w
    c.end-was_open.result c.is_busy-is_busy.result (sym c.in-Some.ensures.value) (c.get_mut.follows.holds w) (c.end-was_open.ensures.kept ending)
    (λ r k. ends_less ending r c.end-was_open.result (c.end-was_open.ensures.was_open r k)) c.is_busy-is_busy.ensures
    c.settle.ensures.opened c.settle.ensures.count c.settle.ensures.busy c.settle.ensures.idle s
