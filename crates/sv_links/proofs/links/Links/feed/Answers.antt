use Rattle.std.proofs.Common.{refl, sym}
use Rattle.sv_links.proofs.Changes.{away_stands, there_stands}
use Rattle.sv_links.proofs.Unchanged.{hears_busy, hears_idle, hears_open}
use Rattle.sv_links.specs.LinkBook.{hears}
use Rattle.sv_links.proofs.links.Links.feed.Goals as goal

pub returns-in-None : goal.returns-in-None
returns-in-None c book s =
    let bytes = c.args.piece.now in
    away_stands c.args.self.now (record c.args.self.now { kept = c.get_mut.follows.lender-at-none }) book c.args.link.0 (hears bytes) (hears_idle bytes)
    c.get_mut.follows.holds-at-none refl refl (sym c.in-None.ensures.value) s

pub returns-in_ok-feed-in-Some : goal.returns-in_ok-feed-in-Some
returns-in_ok-feed-in-Some c book s =
    let bytes = c.args.piece.now in
    let w = c.feed.new.self in
    there_stands c.args.self.now (record c.args.self.now { kept = c.get_mut.follows.lender w }) book c.args.link.0 (hears bytes) c.in-Some.kept.now w
    (hears_open bytes) (hears_busy bytes) (sym c.in-Some.ensures.value) (c.get_mut.follows.holds w) refl refl
    c.in_ok-feed-in-Some.ensures s
