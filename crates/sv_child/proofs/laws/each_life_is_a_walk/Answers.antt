use Rattle.sv_child.specs.Moves.{new_child}
use Rattle.sv_child.proofs.Walks.{walk_life}
use Rattle.sv_child.proofs.laws.each_life_is_a_walk.Goals as goal

pub returns : goal.returns
returns c = λ spec happenings. walk_life spec new_child happenings
