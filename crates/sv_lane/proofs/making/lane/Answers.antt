use Rattle.sv_lane.proofs.RuleKept.{opened}
use Rattle.sv_lane.proofs.making.lane.Goals as goal

pub bounded_with-requires-clause-rule : goal.bounded_with-requires-clause-rule
bounded_with-requires-clause-rule g c = opened
