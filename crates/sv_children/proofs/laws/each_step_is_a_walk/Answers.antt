use Rattle.sv_children.proofs.Walks.{moved_walk}
use Rattle.sv_children.proofs.laws.each_step_is_a_walk.Goals as goal

pub returns : goal.returns
returns c = moved_walk
