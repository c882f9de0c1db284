use Rattle.std.proofs.Common.{rules}
use Rattle.sv_lane.proofs.Together.{together}
use Rattle.sv_lane.proofs.parts.finish_behind.Goals as goal

pub returns : goal.returns
returns g c = together _ _ _ _ _ c.requires.taken c.finish-rest.ensures.rest (search rules)
