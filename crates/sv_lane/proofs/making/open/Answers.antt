use Rattle.sv_lane.proofs.AnyRole.{opens_as}
use Rattle.sv_lane.proofs.making.open.Goals as goal

pub another-requires-clause-rule : goal.another-requires-clause-rule
another-requires-clause-rule g c = opens_as _ _ _ c.requires.first
