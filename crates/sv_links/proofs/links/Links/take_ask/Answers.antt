use Rattle.std.proofs.Common.{refl, sym}
use Rattle.sv_links.proofs.Changes.{away_stands, there_stands}
use Rattle.sv_links.proofs.Unchanged.{takes_busy, takes_idle, takes_open}
use Rattle.sv_links.specs.LinkBook.{takes}
use Rattle.sv_links.proofs.links.Links.take_ask.Goals as goal

pub returns-in-None-clause-kept : goal.returns-in-None-clause-kept
returns-in-None-clause-kept c book s =
    away_stands c.args.self.now (record c.args.self.now { kept = c.get_mut.follows.lender-at-none }) book c.args.link.0 takes takes_idle
    c.get_mut.follows.holds-at-none refl refl (sym c.in-None.ensures.value) s

pub returns-in-Some-clause-kept : goal.returns-in-Some-clause-kept
returns-in-Some-clause-kept c book s =
    let w = c.take_ask.new.self in
    there_stands c.args.self.now (record c.args.self.now { kept = c.get_mut.follows.lender w }) book c.args.link.0 takes c.in-Some.kept.now w
    takes_open takes_busy (sym c.in-Some.ensures.value) (c.get_mut.follows.holds w) refl refl
    c.take_ask.ensures.kept s
