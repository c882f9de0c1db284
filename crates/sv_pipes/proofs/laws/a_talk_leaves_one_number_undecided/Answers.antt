use Rattle.sv_pipes.proofs.Undecided.{number_is}
use Rattle.sv_pipes.proofs.laws.a_talk_leaves_one_number_undecided.Goals as goal

pub returns : goal.returns
returns c = number_is
