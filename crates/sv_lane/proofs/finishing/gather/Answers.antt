use Rattle.sv_lane.proofs.AnyRole.{gathers_as}
use Rattle.sv_lane.proofs.Ending.{next_poster}
use Rattle.sv_lane.proofs.finishing.gather.Goals as goal

pub absorb-requires-clause-rule : goal.absorb-requires-clause-rule
absorb-requires-clause-rule g c =
    let next = next_poster _ _ _ _ _ _ c.requires.posters c.loop-poster.invariant.left c.in-Some.ensures.steps.0 in
    rw (c.into_pass.ensures) (gathers_as _ _ _ _ _ _ _ _ c.loop-poster.invariant.gathered c.in-Some.poster.posting next.1)
