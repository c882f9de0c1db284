use Rattle.std.proofs.Common.{sym, ◌∙◌}
use Rattle.std.proofs.lemmas.List.{length-map}
use Rattle.sv_lane.proofs.AnyRole.{closes_as}
use Rattle.sv_lane.proofs.Ending.{fronts, settles_all}
use Rattle.sv_lane.specs.Ends.{posted}
use Rattle.sv_lane.proofs.taker.Taker.finish.Goals as goal

pub absorb-requires-clause-rule : goal.absorb-requires-clause-rule
absorb-requires-clause-rule g c = closes_as _ _ _ _ _ _ _ _ c.args.self.taking c.gather-seating.ensures.gathered
    (sym c.requires.posters.count ∙ sym (length-map c.args.posters.items posted))

pub returns-clause-rest : goal.returns-clause-rest
returns-clause-rest g c = settles_all _ _ _ _ _ _ _ _ c.args.self.taking c.gather-seating.ensures.gathered c.absorb.ensures.rule c.empty.ensures.rest

pub returns-clause-fronts : goal.returns-clause-fronts
returns-clause-fronts g c = fronts _ _ _ (settles_all _ _ _ _ _ _ _ _ c.args.self.taking c.gather-seating.ensures.gathered c.absorb.ensures.rule c.empty.ensures.rest)
