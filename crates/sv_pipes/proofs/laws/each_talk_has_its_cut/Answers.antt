use Rattle.sv_pipes.proofs.TalkReading.{attended_cut}
use Rattle.sv_pipes.proofs.laws.each_talk_has_its_cut.Goals as goal

pub returns : goal.returns
returns c = attended_cut
