use Rattle.sv_board.proofs.RuleKept.{opened}
use Rattle.sv_board.proofs.making.board.Goals as goal

pub new-requires-clause-rule : goal.new-requires-clause-rule
new-requires-clause-rule g c = opened c.nothing.result c.nothing.ensures.0 c.nothing.ensures.1
