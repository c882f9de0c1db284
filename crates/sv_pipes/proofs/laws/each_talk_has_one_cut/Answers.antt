use Rattle.sv_pipes.proofs.OneTalk.{one_talk}
use Rattle.sv_pipes.proofs.laws.each_talk_has_one_cut.Goals as goal

pub returns : goal.returns
returns c = one_talk
