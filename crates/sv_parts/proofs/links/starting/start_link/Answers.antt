use Rattle.std.proofs.Common.{◌∙◌, refl, sym}
use Rattle.sv_parts.proofs.LinksLemmas.Beginnings.{started}
use Rattle.sv_parts.proofs.links.starting.start_link.Goals as goal

pub returns-then-is_kept-clause-starts : goal.returns-then-is_kept-clause-starts
returns-then-is_kept-clause-starts g c =
    started _ _ _ _ _ _ _ _ _ _ _ _ (sym c.in-Some.is ∙ c.waiting_at.ensures) c.if-is_kept.true c.hand-is_kept.ensures.kept refl
    c.remove-waiting.ensures.items c.new.ensures c.in_ok-taker.ensures.posted c.reserve.ensures.items c.push_reserved.ensures.items c.reserve-2.ensures.items
