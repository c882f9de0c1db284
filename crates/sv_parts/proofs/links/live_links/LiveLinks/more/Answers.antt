use Rattle.std.proofs.Common.{◌∙◌, refl, sym}
use Rattle.sv_parts.proofs.LinksLemmas.Places.{asked, asks_after_failure}
use Rattle.sv_parts.proofs.links.live_links.LiveLinks.more.Goals as goal

pub returns-then-index-clause-asks : goal.returns-then-index-clause-asks
returns-then-index-clause-asks g c =
    asks_after_failure _ _ _ _ _ (sym c.is_lost.ensures ∙ c.if-is_lost.false) (sym c.in-Some.is ∙ c.place_of.ensures) c.index.ensures c.if-index.true

pub returns-clause-asks : goal.returns-clause-asks
returns-clause-asks g c =
    asked _ _ _ _ _ _ _ _ (sym c.is_lost.ensures ∙ c.if-is_lost.false) (sym c.in-Some.is ∙ c.place_of.ensures) c.index.ensures c.if-index.false
    c.index_mut.ensures.value refl c.more.ensures
