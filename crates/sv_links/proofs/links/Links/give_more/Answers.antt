use Rattle.std.proofs.Common.{refl, sym}
use Rattle.sv_links.proofs.Changes.{away_stands, there_stands}
use Rattle.sv_links.proofs.Unchanged.{more_busy, more_idle, more_open}
use Rattle.sv_links.specs.LinkBook.{gets_more}
use Rattle.sv_links.proofs.links.Links.give_more.Goals as goal

pub returns-in-None-clause-kept : goal.returns-in-None-clause-kept
returns-in-None-clause-kept c book s =
    away_stands c.args.self.now (record c.args.self.now { kept = c.get_mut.follows.lender-at-none }) book c.args.link.0 gets_more more_idle
    c.get_mut.follows.holds-at-none refl refl (sym c.in-None.ensures.value) s

pub returns-in-Some-clause-kept : goal.returns-in-Some-clause-kept
returns-in-Some-clause-kept c book s =
    let w = c.give_more.new.self in
    there_stands c.args.self.now (record c.args.self.now { kept = c.get_mut.follows.lender w }) book c.args.link.0 gets_more c.in-Some.kept.now w
    more_open more_busy (sym c.in-Some.ensures.value) (c.get_mut.follows.holds w) refl refl
    c.give_more.ensures.kept s
