use Rattle.std.proofs.Common.{◌∙◌, ℕ, List, refl, subst, sym}
use Rattle.sv_parts.specs.Links.Links.{PostsSend}
use Rattle.sv_parts.proofs.LinksLemmas.Places.{overflows, sends_after_failure, takes}
use Rattle.sv_parts.proofs.links.live_links.LiveLinks.send.Goals as goal

pub returns-then-index-clause-sends : goal.returns-then-index-clause-sends
returns-then-index-clause-sends g c =
    sends_after_failure _ _ _ _ _ _ _ (sym c.is_lost.ensures ∙ c.if-is_lost.false) (sym c.in-Some.is ∙ c.place_of.ensures) c.index.ensures c.if-index.true

pub returns-then-is_full-clause-sends : goal.returns-then-is_full-clause-sends
returns-then-is_full-clause-sends g c =
    overflows _ _ _ _ _ _ _ _ _ _ _ (sym c.is_lost.ensures ∙ c.if-is_lost.false) (sym c.in-Some.is ∙ c.place_of.ensures) c.index.ensures c.if-index.false
    c.index-2.ensures (sym c.is_full.ensures ∙ c.if-is_full.true) c.index_mut.ensures.value refl c.fail.ensures

pub returns-clause-sends : goal.returns-clause-sends
returns-clause-sends g c =
    takes _ _ _ _ _ _ _ _ _ _ _ (sym c.is_lost.ensures ∙ c.if-is_lost.false) (sym c.in-Some.is ∙ c.place_of.ensures) c.index.ensures c.if-index.false
    c.index-2.ensures (sym c.is_full.ensures ∙ c.if-is_full.false) c.index_mut-2.ensures.value refl
    (subst (λ (b : List ℕ). PostsSend b c.index_mut-2.result.now c.send.new.self) c.in_ok-bytes.ensures.cases c.send.ensures)
