use Rattle.std.proofs.Common.{◌∙◌, refl, sym}
use Rattle.sv_parts.proofs.LinksLemmas.Places.{closed, closes_after_failure}
use Rattle.sv_parts.proofs.links.live_links.LiveLinks.close.Goals as goal

pub returns-then-index-clause-closes : goal.returns-then-index-clause-closes
returns-then-index-clause-closes g c =
    closes_after_failure _ _ _ _ _ _ _ (sym c.is_lost.ensures ∙ c.if-is_lost.false) (sym c.in-Some.is ∙ c.place_of.ensures) c.index.ensures c.if-index.true

pub returns-clause-closes : goal.returns-clause-closes
returns-clause-closes g c =
    closed _ _ _ _ _ _ _ _ _ _ (sym c.is_lost.ensures ∙ c.if-is_lost.false) (sym c.in-Some.is ∙ c.place_of.ensures) c.index.ensures c.if-index.false
    c.index_mut.ensures.value refl c.close.ensures
