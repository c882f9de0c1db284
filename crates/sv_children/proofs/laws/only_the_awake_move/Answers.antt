use Rattle.sv_children.proofs.Waking.{not_awake}
use Rattle.sv_children.proofs.laws.only_the_awake_move.Goals as goal

pub returns : goal.returns
returns c = not_awake
