use Rattle.sv_pipes.proofs.TalkReading.{cut_of_talk}
use Rattle.sv_pipes.proofs.laws.a_cut_is_that_of_the_talk.Goals as goal

pub returns : goal.returns
returns c = cut_of_talk
